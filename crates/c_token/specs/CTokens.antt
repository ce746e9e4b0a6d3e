-- The tokens of a C text, each the longest that fits (ISO/IEC 9899:2011 6.4).
use Prim.Native.String.{String}
use Rattle.std.specs.Prelude.{ℕ, List, [], ◌∷◌, ◌++◌, Bool, ◌||◌, ◌&&◌, nat_le, nat_eq, if◌then◌else◌, codes}
use Rattle.std.specs.List.{list_any}
use Rattle.std.specs.Str.{bytes_eq}

-- A token. A word is an identifier or a number; a string and a character constant have the raw bytes between their
-- quotes; `LineEnd` ends a preprocessor line; `Other` is a byte that starts no token.
pub data CToken : Type 0 where
  Word : List ℕ → CToken
  Str : List ℕ → CToken
  Character : List ℕ → CToken
  Sign : List ℕ → CToken
  HeaderName : List ℕ → CToken
  LineEnd : CToken
  Other : ℕ → CToken

-- the word and the sign with these letters
abbrev pub word : String → CToken
word letters = Word (codes letters)

abbrev pub sign : String → CToken
sign letters = Sign (codes letters)

-- the bytes of words: letters, digits and `_`
abbrev pub is_word_byte : ℕ → Bool
is_word_byte b =
    (nat_le 48 b && nat_le b 57) || ((nat_le 65 b && nat_le b 90) || (nat_eq b 95 || (nat_le 97 b && nat_le b 122)))

-- The signs of more than one byte. `//` and `/*` count as signs, and so do the second spellings `<:` `:>` `<%` `%>` `%:`:
-- no item has one of them. `...` is read as three signs, and no item has two signs `.` in a row.
abbrev pub long_signs : List (List ℕ)
long_signs =
    codes "==" ∷ codes "!=" ∷ codes "<=" ∷ codes ">=" ∷ codes "<<" ∷ codes ">>" ∷ codes "<<=" ∷ codes ">>="
    ∷ codes "->" ∷ codes "&&" ∷ codes "||" ∷ codes "++" ∷ codes "--" ∷ codes "+=" ∷ codes "-=" ∷ codes "*="
    ∷ codes "/=" ∷ codes "%=" ∷ codes "&=" ∷ codes "|=" ∷ codes "^=" ∷ codes "##" ∷ codes "//" ∷ codes "/*"
    ∷ codes "<:" ∷ codes ":>" ∷ codes "<%" ∷ codes "%>" ∷ codes "%:" ∷ []

abbrev pub is_long_sign : List ℕ → Bool
is_long_sign bytes = list_any (bytes_eq bytes) long_signs

-- What a byte is between tokens. A byte `Alone` is a sign that no longer sign begins with; `Joining` ones may go on.
pub data ByteKind : Type 0 where
  LineFeed Blank WordByte Quote Alone Joining Neither : ByteKind

abbrev pub kind_of : ℕ → ByteKind
kind_of b =
    if is_word_byte b then WordByte else
    if nat_eq b 32 || nat_eq b 9 then Blank else
    if nat_eq b 10 then LineFeed else
    if nat_eq b 34 || nat_eq b 39 then Quote else
    if list_any (nat_eq b) (codes "(){}[];,~?") then Alone else
    if list_any (nat_eq b) (codes "=!<>-&|+*/%^#:.") then Joining else Neither

-- What stands before a place in its line: nothing, text, `#`, `# include`, or more of a preprocessor line.
pub data CLine : Type 0 where
  Fresh Text Hash Include Directive : CLine

-- where a token leaves its line
abbrev pub after : CLine → CToken → CLine
after Fresh token = Text
after Text token = Text
after Hash (Word letters) = if bytes_eq letters (codes "include") then Include else Directive
after Hash token = Directive
after Include token = Directive
after Directive token = Directive

-- what the end of a line gives
abbrev pub line_end : CLine → List CToken
line_end Fresh = []
line_end Text = []
line_end Hash = LineEnd ∷ []
line_end Include = LineEnd ∷ []
line_end Directive = LineEnd ∷ []

-- Where the reading stands: between tokens, or in one, with its bytes so far. In quotes, the first number is the quote.
pub data Mode : Type 0 where
  Between : CLine → Mode
  InWord : CLine → List ℕ → Mode
  InSign : CLine → List ℕ → Mode
  InQuotes : CLine → ℕ → List ℕ → Mode
  AfterBackslash : CLine → ℕ → List ℕ → Mode
  InHeader : List ℕ → Mode

-- the tokens that end at a byte, and where the reading stands after it
pub record Step : Type 0 where
  pub given : List CToken
  pub next : Mode

abbrev pub goes_on : Mode → Step
goes_on mode = record { given = []; next = mode }

abbrev pub gives : CToken → Mode → Step
gives token mode = record { given = token ∷ []; next = mode }

-- a token that ended before the byte
abbrev pub before : CToken → Step → Step
before token at = record { given = token ∷ at.given; next = at.next }

-- a byte between tokens
abbrev pub begin : ByteKind → CLine → ℕ → Step
begin LineFeed line b = record { given = line_end line; next = Between Fresh }
begin Blank line b = goes_on (Between line)
begin WordByte line b = goes_on (InWord line (b ∷ []))
begin Quote line b = goes_on (InQuotes line b [])
begin Alone line b = gives (Sign (b ∷ [])) (Between (after line (Sign (b ∷ []))))
begin Joining Fresh b = if nat_eq b 35 then gives (sign "#") (Between Hash) else goes_on (InSign Fresh (b ∷ []))
begin Joining Include b = if nat_eq b 60 then goes_on (InHeader []) else goes_on (InSign Include (b ∷ []))
begin Joining line b = goes_on (InSign line (b ∷ []))
begin Neither line b = gives (Other b) (Between (after line (Other b)))

-- a byte that ends the token before it
abbrev pub ends : CToken → CLine → ℕ → Step
ends token line b = before token (begin (kind_of b) (after line token) b)

abbrev pub quoted : ℕ → List ℕ → CToken
quoted quote bytes = if nat_eq quote 34 then Str bytes else Character bytes

-- a byte in any mode; a string, a character constant or a header name that its line ends is `Other`
abbrev pub step : Mode → ℕ → Step
step (Between line) b = begin (kind_of b) line b
step (InWord line bytes) b =
    if is_word_byte b then goes_on (InWord line (bytes ++ b ∷ [])) else ends (Word bytes) line b
step (InSign line bytes) b =
    if is_long_sign (bytes ++ b ∷ []) then goes_on (InSign line (bytes ++ b ∷ [])) else ends (Sign bytes) line b
step (InQuotes line quote bytes) b =
    if nat_eq b 10 then ends (Other quote) line b else
    if nat_eq b 92 then goes_on (AfterBackslash line quote (bytes ++ b ∷ [])) else
    if nat_eq b quote then gives (quoted quote bytes) (Between (after line (quoted quote bytes)))
    else goes_on (InQuotes line quote (bytes ++ b ∷ []))
step (AfterBackslash line quote bytes) b =
    if nat_eq b 10 then ends (Other quote) line b else goes_on (InQuotes line quote (bytes ++ b ∷ []))
step (InHeader bytes) b =
    if nat_eq b 10 then ends (Other 60) Directive b else
    if nat_eq b 62 then gives (HeaderName bytes) (Between Directive) else goes_on (InHeader (bytes ++ b ∷ []))

-- the tokens of the rest of a text; its end ends a token as a line's end does
unfoldable pub tokens_from : Mode → List ℕ → List CToken
tokens_from mode [] = (step mode 10).given
tokens_from mode (b ∷ rest) = let at = step mode b in at.given ++ tokens_from at.next rest

-- the tokens of a text
unfoldable pub c_tokens : List ℕ → List CToken
unfolding tokens_from
c_tokens text = tokens_from (Between Fresh) text
