-- What a function that reads C tokens ensures. The project's own.
use Rattle.std.specs.Prelude.{◌≡◌, ◌≢◌, ◌||◌, ◌+◌, ◌/◌, ◌%◌, ⊤, nat_lt, nat_eq, ℕ, List, [], ◌∷◌, ◌++◌, map, Bool, true, false, Option, Some, None}
use Rattle.c_token.specs.CTokens.{CToken, Word, Sign, Str, Character, HeaderName, LineEnd}
use Rattle.c_input.specs.declared.piece.Piece.{Piece}
use Rattle.c_input.specs.declared.piece.Piece.TheVariants as piece

-- the token of a piece, and the tokens of pieces
abbrev pub piece_shown : Piece → CToken
piece_shown (piece.Word letters) = Word letters.now
piece_shown (piece.Sign letters) = Sign letters.now
piece_shown (piece.Str letters) = Str letters.now
piece_shown (piece.Character letters) = Character letters.now
piece_shown (piece.HeaderName letters) = HeaderName letters.now
piece_shown piece.LineEnd = LineEnd

abbrev pub pieces_shown : List Piece → List CToken
pieces_shown pieces = map piece_shown pieces

-- The tokens stood at the front, and what is left stands behind them; or they don't, and nothing was taken.
abbrev pub Takes : List CToken → List CToken → Bool → List CToken → Type 0
Takes spelling old true new = old ≡ spelling ++ new
Takes spelling old false new = (new ≡ old) × ((rest : List CToken) → old ≢ spelling ++ rest)

-- The tokens stood at the front, and what is left stands behind them; or they don't, and nothing is said of what is left.
abbrev pub Passes : List CToken → List CToken → Bool → List CToken → Type 0
Passes spelling old true new = old ≡ spelling ++ new
Passes spelling old false new = (rest : List CToken) → old ≢ spelling ++ rest

-- The value is in form and its spelling stood at the front, and what is left stands behind it; without a value nothing
-- was taken.
abbrev pub Reads : {A : Type 0} → (A → Type 0) → (A → List CToken) → List CToken → Option A → List CToken → Type 0
Reads form spelling old (Some x) new = form x × (old ≡ spelling x ++ new)
Reads form spelling old None new = new ≡ old

-- Each value in form whose spelling stands at the front is read, whatever stands behind it.
abbrev pub ReadsEvery : {A : Type 0} → (A → Type 0) → (A → List CToken) → List CToken → Option A → Type 0
ReadsEvery {A} form spelling old result = (x : A) (rest : List CToken) → form x → old ≡ spelling x ++ rest → result ≡ Some x

-- a byte that a string has as a backslash and three octal digits
abbrev pub is_escaped : ℕ → Bool
is_escaped b = (nat_lt b 32 || nat_lt 126 b) || (nat_eq b 34 || nat_eq b 92)

-- the three octal digits of a byte
abbrev pub octal : ℕ → List ℕ
octal b = (48 + b / 64) ∷ (48 + b / 8 % 8) ∷ (48 + b % 8) ∷ []

-- A value in form was read and its spelling stood at the front, and what is left stands behind it. Without a value
-- nothing is said of what is left.
abbrev pub Finds : {A : Type 0} → (A → Type 0) → (A → List CToken) → List CToken → Option A → List CToken → Type 0
Finds form spelling old (Some x) new = form x × (old ≡ spelling x ++ new)
Finds form spelling old None new = ⊤
