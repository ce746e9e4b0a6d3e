-- The items of a file of C: where each ends in a list of tokens. The project's own profile of C (ISO/IEC 9899:2011).
use Rattle.std.specs.Prelude.{ℕ, zero, suc, List, [], ◌∷◌, Bool, true, false, Option, Some, None, is_none, unwrap_or, if◌then◌else◌, codes}
use Rattle.std.specs.Str.{bytes_eq}
use Rattle.c_token.specs.CTokens.{CToken, Sign, LineEnd}

-- what a token is to the cutting of items
pub data Role : Type 0 where
  Opens Closes Parenthesis Semicolon EndsLine Plain : Role

abbrev pub role_of : CToken → Role
role_of (Sign bytes) =
    if bytes_eq bytes (codes "{") then Opens else
    if bytes_eq bytes (codes "}") then Closes else
    if bytes_eq bytes (codes ")") then Parenthesis else
    if bytes_eq bytes (codes ";") then Semicolon else Plain
role_of LineEnd = EndsLine
role_of _ = Plain

-- Where a token stands in its item: outside braces, right after a `)` or not; or in braces, within so many further ones,
-- where the outermost was opened right after a `)` or not.
pub data ItemPlace : Type 0 where
  Outside : Bool → ItemPlace
  Inside : ℕ → Bool → ItemPlace

-- where an item begins
abbrev pub item_start : ItemPlace
item_start = Outside false

-- the place after a token, or none where the token ends its item
abbrev pub place_after : Role → ItemPlace → Option ItemPlace
place_after EndsLine at = None
place_after Semicolon (Outside closed) = None
place_after Opens (Outside closed) = Some (Inside zero closed)
place_after Parenthesis (Outside closed) = Some (Outside true)
place_after _ (Outside closed) = Some (Outside false)
place_after Opens (Inside depth body) = Some (Inside (suc depth) body)
place_after Closes (Inside zero true) = None
place_after Closes (Inside zero false) = Some (Outside false)
place_after Closes (Inside (suc depth) body) = Some (Inside depth body)
place_after _ (Inside depth body) = Some (Inside depth body)

-- the items with a token before them: it is an item by itself where it ends one, else it begins the first
abbrev pub with_token : Bool → CToken → List (List CToken) → List (List CToken)
with_token true token items = (token ∷ []) ∷ items
with_token false token [] = (token ∷ []) ∷ []
with_token false token (first ∷ more) = (token ∷ first) ∷ more

-- the items from a place on
unfoldable pub items_from : ItemPlace → List CToken → List (List CToken)
items_from at [] = []
items_from at (token ∷ tokens) =
    let next = place_after (role_of token) at in
    with_token (is_none next) token (items_from (unwrap_or next item_start) tokens)

-- The items of a list of tokens. An item ends at the end of a preprocessor line, at a `;` outside braces, or at the `}`
-- of outermost braces that were opened right after a `)`; what is left at the end is a last item.
unfoldable pub c_items : List CToken → List (List CToken)
unfolding items_from
c_items tokens = items_from item_start tokens
