-- The tokens, and the places in an item, that the code stands for.
use Rattle.std.specs.Prelude.{List, [], ◌∷◌, map}
use Rattle.c_token.specs.CTokens.{CToken, Word, Str, Character, Sign, HeaderName, LineEnd, Other}
use Rattle.c_token.specs.Cutting as spec
use Rattle.c_cut.specs.declared.token.Token.{Token}
use Rattle.c_cut.specs.declared.token.Token.TheVariants as token
use Rattle.c_cut.specs.declared.place.Role.{Role}
use Rattle.c_cut.specs.declared.place.Role.TheVariants as role
use Rattle.c_cut.specs.declared.place.Place.{Place}
use Rattle.c_cut.specs.declared.place.Place.TheVariants as place

abbrev pub token_shown : Token → CToken
token_shown (token.Word bytes) = Word bytes
token_shown (token.Str bytes) = Str bytes
token_shown (token.Character bytes) = Character bytes
token_shown (token.Sign bytes) = Sign bytes
token_shown (token.HeaderName bytes) = HeaderName bytes
token_shown token.LineEnd = LineEnd
token_shown (token.Other byte) = Other byte

abbrev pub role_shown : Role → spec.Role
role_shown role.Opens = spec.Opens
role_shown role.Closes = spec.Closes
role_shown role.Parenthesis = spec.Parenthesis
role_shown role.Semicolon = spec.Semicolon
role_shown role.EndsLine = spec.EndsLine
role_shown role.Plain = spec.Plain

abbrev pub place_shown : Place → spec.ItemPlace
place_shown (place.Outside closed) = spec.Outside closed
place_shown (place.Inside depth body) = spec.Inside depth body

-- an item, and a list of items
abbrev pub item_shown : List Token → List CToken
item_shown ts = map token_shown ts

abbrev pub items_shown : List (List Token) → List (List CToken)
items_shown items = map item_shown items

-- what is left at the end is an item, if there is something
abbrev pub left : List Token → List (List Token)
left [] = []
left (t ∷ ts) = (t ∷ ts) ∷ []
