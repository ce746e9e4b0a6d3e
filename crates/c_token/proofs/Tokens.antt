-- How words, numbers and strings are read as tokens, whatever follows them.
use Rattle.std.proofs.Common.{◌≡◌, ℕ, ◌+◌, ◌/◌, ◌%◌, ◌<◌, Bool, true, false, ◌||◌, List, [], ◌∷◌, ◌++◌, refl, sym, ap, ◌∙◌, append_assoc, append-nil, length, arith, decimal}
use Rattle.std.specs.Prelude.{nat_lt, nat_eq, if◌then◌else◌, ⊤}
use Rattle.std.specs.List.{flat_map}
use Rattle.std.proofs.lemmas.Bool.{ne_eqb}
use Rattle.std.proofs.lemmas.Bool.Decides.{nat_tests}
use Rattle.std.proofs.lemmas.Fmt.{decimal_by_steps, decimal_nonempty}
use Rattle.c_token.specs.CTokens.{CToken, Word, Str, Sign, CLine, Fresh, Text, after, Mode, Between, InWord, InSign, InQuotes, AfterBackslash, Step, goes_on, ends, is_word_byte, is_long_sign, quoted, tokens_from}
use Rattle.c_token.specs.Spelled.{quoted_byte, AreWordBytes, IsNameInForm, IsNumberInForm}

-- what may follow a word or a sign `*` without becoming a part of it
abbrev pub Stops : List ℕ → Type 0
Stops [] = ⊤
Stops (c ∷ more) = (is_word_byte c ≡ false) × (is_long_sign (42 ∷ c ∷ []) ≡ false)

-- what may follow a sign `*` without becoming a part of it
abbrev pub StopsSign : List ℕ → Type 0
StopsSign [] = ⊤
StopsSign (c ∷ more) = is_long_sign (42 ∷ c ∷ []) ≡ false

pub stops_sign : (rest : List ℕ) → Stops rest → StopsSign rest
stops_sign [] h = tt
stops_sign (c ∷ more) h = h.1

-- a line of text: at its start, or further on
abbrev pub begun : Bool → CLine
begun false = Fresh
begun true = Text

word_ends : (line : CLine) (letters rest : List ℕ) → Stops rest
    → tokens_from (InWord line letters) rest ≡ Word letters ∷ tokens_from (Between (after line (Word letters))) rest
unfolding tokens_from
word_ends line letters [] h = refl
word_ends line letters (c ∷ more) h =
    ap (λ b. let at : Step = (if b then goes_on (InWord line (letters ++ c ∷ [])) else ends (Word letters) line c) in at.given ++ tokens_from at.next more) h.0

word_byte : (line : CLine) (letters : List ℕ) (b : ℕ) (more : List ℕ) → is_word_byte b ≡ true
    → tokens_from (InWord line letters) (b ∷ more) ≡ tokens_from (InWord line (letters ++ b ∷ [])) more
unfolding tokens_from
word_byte line letters b more h =
    ap (λ t. let at : Step = (if t then goes_on (InWord line (letters ++ b ∷ [])) else ends (Word letters) line b) in at.given ++ tokens_from at.next more) h

word_run : (line : CLine) (letters more rest : List ℕ) → AreWordBytes more → Stops rest
    → tokens_from (InWord line letters) (more ++ rest) ≡ Word (letters ++ more) ∷ tokens_from (Between (after line (Word (letters ++ more)))) rest
word_run line letters [] rest h k =
    word_ends line letters rest k
    ∙ ap (λ w. Word w ∷ tokens_from (Between (after line (Word w))) rest) (sym (append-nil letters))
word_run line letters (b ∷ more) rest h k =
    word_byte line letters b (more ++ rest) h.0
    ∙ (word_run line (letters ++ b ∷ []) more rest h.1 k
    ∙ ap (λ w. Word w ∷ tokens_from (Between (after line (Word w))) rest) (append_assoc letters (b ∷ []) more))

-- the rest of a word in a line of text
pub word_tokens : (begins : Bool) (letters more rest : List ℕ) → AreWordBytes more → Stops rest
    → tokens_from (InWord (begun begins) letters) (more ++ rest) ≡ Word (letters ++ more) ∷ tokens_from (Between Text) rest
word_tokens false letters more rest h k = word_run Fresh letters more rest h k
word_tokens true letters more rest h k = word_run Text letters more rest h k

-- a sign `*`
pub star_tokens : (rest : List ℕ) → StopsSign rest
    → tokens_from (InSign Text (42 ∷ [])) rest ≡ Sign (42 ∷ []) ∷ tokens_from (Between Text) rest
unfolding tokens_from
star_tokens [] h = refl
star_tokens (c ∷ more) h =
    ap (λ b. let at : Step = (if b then goes_on (InSign Text (42 ∷ c ∷ [])) else ends (Sign (42 ∷ [])) Text c) in at.given ++ tokens_from at.next more) h

pub name_append : (xs ys : List ℕ) → AreWordBytes xs → AreWordBytes ys → AreWordBytes (xs ++ ys)
name_append [] ys h k = k
name_append (x ∷ xs) ys h k = (h.0, name_append xs ys h.1 k)

-- a name is bytes of a word
pub name_words : (name : List ℕ) → IsNameInForm name → AreWordBytes name
name_words [] h = absurd h
name_words (b ∷ more) h = h.1

digit_word : (n : ℕ) → n < 10 → is_word_byte (48 + n) ≡ true
digit_word n h = grind (arith, nat_tests)

-- the digits of a number are bytes of a word
pub decimal_name : (n : ℕ) → IsNumberInForm n → AreWordBytes (decimal n)
decimal_name n h =
    decimal_by_steps (λ n ds. AreWordBytes ds)
    (λ n small. (digit_word n small, tt))
    (λ n ds big front. name_append ds ((48 + n % 10) ∷ []) front (digit_word (n % 10) (omega arith), tt))
    n (omega arith)

name_read : (begins : Bool) (name rest : List ℕ) → 0 < length name → AreWordBytes name → Stops rest
    → tokens_from (Between (begun begins)) (name ++ rest) ≡ Word name ∷ tokens_from (Between Text) rest
unfolding tokens_from
name_read begins [] rest big h k = absurd (omega arith)
name_read begins (b ∷ name) rest big h k = rw h.0 (word_tokens begins (b ∷ []) name rest h.1 k)

-- a number by itself
pub number_tokens : (begins : Bool) (n : ℕ) (rest : List ℕ) → IsNumberInForm n → Stops rest
    → tokens_from (Between (begun begins)) (decimal n ++ rest) ≡ Word (decimal n) ∷ tokens_from (Between Text) rest
number_tokens begins n rest h k =
    name_read begins (decimal n) rest (decimal_nonempty n (omega arith)) (decimal_name n h) k

-- a text of two parts is read part by part
pub join_tokens : (mode middle end : Mode) (first second rest : List ℕ) (spelled more : List CToken)
    → tokens_from mode (first ++ (second ++ rest)) ≡ spelled ++ tokens_from middle (second ++ rest)
    → tokens_from middle (second ++ rest) ≡ more ++ tokens_from end rest
    → tokens_from mode ((first ++ second) ++ rest) ≡ (spelled ++ more) ++ tokens_from end rest
join_tokens mode middle end first second rest spelled more h k =
    ap (tokens_from mode) (append_assoc first second rest)
    ∙ (h ∙ (ap (λ t. spelled ++ t) k ∙ sym (append_assoc spelled more (tokens_from end rest))))

-- ---- strings

plain_byte : (line : CLine) (bytes : List ℕ) (b : ℕ) (more : List ℕ) → nat_eq b 10 ≡ false → nat_eq b 92 ≡ false → nat_eq b 34 ≡ false
    → tokens_from (InQuotes line 34 bytes) (b ∷ more) ≡ tokens_from (InQuotes line 34 (bytes ++ b ∷ [])) more
unfolding tokens_from
plain_byte line bytes b more e f g = rw (e, f, g) refl

taken_byte : (line : CLine) (bytes : List ℕ) (b : ℕ) (more : List ℕ) → nat_eq b 10 ≡ false
    → tokens_from (AfterBackslash line 34 bytes) (b ∷ more) ≡ tokens_from (InQuotes line 34 (bytes ++ b ∷ [])) more
unfolding tokens_from
taken_byte line bytes b more e = rw e refl

octal_digit : (line : CLine) (bytes : List ℕ) (d : ℕ) (more : List ℕ) → d < 8
    → tokens_from (InQuotes line 34 bytes) ((48 + d) ∷ more) ≡ tokens_from (InQuotes line 34 (bytes ++ (48 + d) ∷ [])) more
octal_digit line bytes d more h =
    plain_byte line bytes (48 + d) more
    (ne_eqb (48 + d) 10 (λ e. omega arith)) (ne_eqb (48 + d) 92 (λ e. omega arith)) (ne_eqb (48 + d) 34 (λ e. omega arith))

backslash : (line : CLine) (bytes more : List ℕ)
    → tokens_from (InQuotes line 34 bytes) (92 ∷ more) ≡ tokens_from (AfterBackslash line 34 (bytes ++ 92 ∷ [])) more
unfolding tokens_from
backslash line bytes more = refl

byte_read : (line : CLine) (bytes : List ℕ) (b : ℕ) (more : List ℕ) (test : Bool)
    → ((nat_lt b 32 || nat_lt 126 b) || (nat_eq b 34 || nat_eq b 92)) ≡ test
    → (quoted : List ℕ) → quoted ≡ (if test then 92 ∷ (48 + b / 64) ∷ (48 + b / 8 % 8) ∷ (48 + b % 8) ∷ [] else b ∷ [])
    → tokens_from (InQuotes line 34 bytes) (quoted ++ more) ≡ tokens_from (InQuotes line 34 (bytes ++ quoted)) more
byte_read line bytes b more true h quoted e =
    rw e (backslash line bytes _
    ∙ (taken_byte line (bytes ++ 92 ∷ []) (48 + b / 64) _ (ne_eqb (48 + b / 64) 10 (λ e. omega arith))
    ∙ (octal_digit line ((bytes ++ 92 ∷ []) ++ (48 + b / 64) ∷ []) (b / 8 % 8) _ (omega arith)
    ∙ (octal_digit line (((bytes ++ 92 ∷ []) ++ (48 + b / 64) ∷ []) ++ (48 + b / 8 % 8) ∷ []) (b % 8) _ (omega arith)
    ∙ ap (λ w. tokens_from (InQuotes line 34 w) more) (simp append_assoc)))))
byte_read line bytes b more false h quoted e =
    rw e (plain_byte line bytes b more (grind (arith, nat_tests)) (grind (arith, nat_tests)) (grind (arith, nat_tests)))

string_run : (line : CLine) (bytes string rest : List ℕ)
    → tokens_from (InQuotes line 34 bytes) (flat_map quoted_byte string ++ (34 ∷ rest))
    ≡ Str (bytes ++ flat_map quoted_byte string) ∷ tokens_from (Between (after line (Str (bytes ++ flat_map quoted_byte string)))) rest
unfolding tokens_from
string_run line bytes [] rest =
    ap (λ w. Str w ∷ tokens_from (Between (after line (Str w))) rest) (sym (append-nil bytes))
string_run line bytes (b ∷ string) rest =
    ap (tokens_from (InQuotes line 34 bytes)) (append_assoc (quoted_byte b) (flat_map quoted_byte string) (34 ∷ rest))
    ∙ (byte_read line bytes b (flat_map quoted_byte string ++ (34 ∷ rest)) _ refl (quoted_byte b) refl
    ∙ (string_run line (bytes ++ quoted_byte b) string rest
    ∙ ap (λ w. Str w ∷ tokens_from (Between (after line (Str w))) rest) (append_assoc bytes (quoted_byte b) (flat_map quoted_byte string))))

-- the rest of a string in a line of text
pub string_tokens : (string rest : List ℕ)
    → tokens_from (InQuotes Text 34 []) (flat_map quoted_byte string ++ (34 ∷ rest)) ≡ Str (flat_map quoted_byte string) ∷ tokens_from (Between Text) rest
string_tokens string rest = string_run Text [] string rest
