-- A text of two parts has the tokens of both, where they don't meet within a token.
use Rattle.std.proofs.Common.{◌≡◌, ℕ, Bool, true, false, ◌&&◌, ◌||◌, not, List, [], ◌∷◌, ◌++◌, refl, sym, ap, ◌∙◌, append_assoc, append-nil, length, get_or, ◌+◌, ◌-◌, ◌/◌, ◌%◌, ◌<◌, arith}
use Rattle.std.specs.Prelude.{nat_eq, nat_lt, if◌then◌else◌, codes}
use Rattle.std.specs.List.{list_any, list_all, flat_map}
use Rattle.std.specs.Str.{bytes_eq}
use Rattle.std.proofs.lemmas.Bool.{eqb-true, ne_eqb}
use Rattle.std.proofs.lemmas.Bool.Decides.{nat_tests}
use Rattle.std.proofs.lemmas.Slice.Eq.{bytes_eq-Decides}
use Rattle.c_token.specs.CTokens.{CToken, Word, Sign, Other, Str, Character, CLine, Fresh, Text, Hash, Include, Directive, after, Mode, Between, InWord, InSign, InQuotes, AfterBackslash, InHeader, HeaderName, Step, goes_on, gives, begin, ends, ByteKind, LineFeed, Blank, WordByte, Quote, Alone, Joining, Neither, kind_of, is_word_byte, is_long_sign, long_signs, quoted, step, tokens_from, c_tokens}
use Rattle.c_token.specs.Spelled.{AreWordBytes, quoted_byte}
use Rattle.c_token.proofs.Tokens.{word_tokens, string_tokens}
use Rattle.c_writer.specs.Rest.{mode_after, is_text_line, is_at_rest, has_no_hash, is_whole_text, is_joining, glue, fits, IsAtRest}

-- the tokens that have ended within the bytes
given_of : Mode → List ℕ → List CToken
given_of mode [] = []
given_of mode (b ∷ bytes) = (step mode b).given ++ given_of (step mode b).next bytes

-- the token that stands open, which the end of a text closes
abbrev pub closing : Mode → List CToken
closing mode = (step mode 10).given

split : (mode : Mode) (xs ys : List ℕ) → tokens_from mode (xs ++ ys) ≡ given_of mode xs ++ tokens_from (mode_after mode xs) ys
unfolding tokens_from given_of
split mode [] ys = refl
split mode (x ∷ xs) ys =
    ap (λ t. (step mode x).given ++ t) (split (step mode x).next xs ys)
    ∙ sym (append_assoc (step mode x).given (given_of (step mode x).next xs) (tokens_from (mode_after (step mode x).next xs) ys))

ended : (mode : Mode) (xs : List ℕ) → tokens_from mode xs ≡ given_of mode xs ++ closing (mode_after mode xs)
unfolding tokens_from given_of
ended mode [] = refl
ended mode (x ∷ xs) =
    ap (λ t. (step mode x).given ++ t) (ended (step mode x).next xs)
    ∙ sym (append_assoc (step mode x).given (given_of (step mode x).next xs) (closing (mode_after (step mode x).next xs)))

-- ---- a line that has begun is like one that hasn't, where no `#` comes

abbrev text_line : CLine → CLine
text_line Fresh = Text
text_line line = line

abbrev textual : Mode → Mode
textual (Between line) = Between (text_line line)
textual (InWord line letters) = InWord (text_line line) letters
textual (InSign line letters) = InSign (text_line line) letters
textual (InQuotes line quote letters) = InQuotes (text_line line) quote letters
textual (AfterBackslash line quote letters) = AfterBackslash (text_line line) quote letters
textual (InHeader letters) = InHeader letters

-- two steps that give the same, and go on alike
abbrev AreAlike : Step → Step → Type 0
AreAlike a b = (a.given ≡ b.given) × (textual a.next ≡ textual b.next)

begin_alike : (kind : ByteKind) (b : ℕ) → nat_eq b 35 ≡ false → AreAlike (begin kind Fresh b) (begin kind Text b)
begin_alike LineFeed b h = (refl, refl)
begin_alike Blank b h = (refl, refl)
begin_alike WordByte b h = (refl, refl)
begin_alike Quote b h = (refl, refl)
begin_alike Alone b h = (refl, refl)
begin_alike Joining b h = rw h (refl, refl)
begin_alike Neither b h = (refl, refl)

word_alike : (letters : List ℕ) (b : ℕ) (c : Bool)
    → AreAlike (if c then goes_on (InWord Fresh (letters ++ b ∷ [])) else ends (Word letters) Fresh b) (if c then goes_on (InWord Text (letters ++ b ∷ [])) else ends (Word letters) Text b)
word_alike letters b true = (refl, refl)
word_alike letters b false = (refl, refl)

sign_alike : (letters : List ℕ) (b : ℕ) (c : Bool)
    → AreAlike (if c then goes_on (InSign Fresh (letters ++ b ∷ [])) else ends (Sign letters) Fresh b) (if c then goes_on (InSign Text (letters ++ b ∷ [])) else ends (Sign letters) Text b)
sign_alike letters b true = (refl, refl)
sign_alike letters b false = (refl, refl)

after_quoted : (quote : ℕ) (letters : List ℕ) (c : Bool) → after Fresh (if c then Str letters else Character letters) ≡ after Text (if c then Str letters else Character letters)
after_quoted quote letters true = refl
after_quoted quote letters false = refl

quotes_alike : (quote : ℕ) (letters : List ℕ) (b : ℕ) (feed slash close : Bool)
    → AreAlike (if feed then ends (Other quote) Fresh b else if slash then goes_on (AfterBackslash Fresh quote (letters ++ b ∷ [])) else if close then gives (quoted quote letters) (Between (after Fresh (quoted quote letters))) else goes_on (InQuotes Fresh quote (letters ++ b ∷ [])))
    (if feed then ends (Other quote) Text b else if slash then goes_on (AfterBackslash Text quote (letters ++ b ∷ [])) else if close then gives (quoted quote letters) (Between (after Text (quoted quote letters))) else goes_on (InQuotes Text quote (letters ++ b ∷ [])))
quotes_alike quote letters b true slash close = (refl, refl)
quotes_alike quote letters b false true close = (refl, refl)
quotes_alike quote letters b false false true = (refl, ap (λ line. textual (Between line)) (after_quoted quote letters (nat_eq quote 34)))
quotes_alike quote letters b false false false = (refl, refl)

slash_alike : (quote : ℕ) (letters : List ℕ) (b : ℕ) (feed : Bool)
    → AreAlike (if feed then ends (Other quote) Fresh b else goes_on (InQuotes Fresh quote (letters ++ b ∷ []))) (if feed then ends (Other quote) Text b else goes_on (InQuotes Text quote (letters ++ b ∷ [])))
slash_alike quote letters b true = (refl, refl)
slash_alike quote letters b false = (refl, refl)

step_alike : (mode : Mode) (b : ℕ) → nat_eq b 35 ≡ false → AreAlike (step mode b) (step (textual mode) b)
step_alike (Between Fresh) b h = begin_alike (kind_of b) b h
step_alike (InWord Fresh letters) b h = word_alike letters b (is_word_byte b)
step_alike (InSign Fresh letters) b h = sign_alike letters b (is_long_sign (letters ++ b ∷ []))
step_alike (InQuotes Fresh quote letters) b h = quotes_alike quote letters b (nat_eq b 10) (nat_eq b 92) (nat_eq b quote)
step_alike (AfterBackslash Fresh quote letters) b h = slash_alike quote letters b (nat_eq b 10)
step_alike (Between Text) b h = (refl, refl)
step_alike (Between Hash) b h = (refl, refl)
step_alike (Between Include) b h = (refl, refl)
step_alike (Between Directive) b h = (refl, refl)
step_alike (InWord Text letters) b h = (refl, refl)
step_alike (InWord Hash letters) b h = (refl, refl)
step_alike (InWord Include letters) b h = (refl, refl)
step_alike (InWord Directive letters) b h = (refl, refl)
step_alike (InSign Text letters) b h = (refl, refl)
step_alike (InSign Hash letters) b h = (refl, refl)
step_alike (InSign Include letters) b h = (refl, refl)
step_alike (InSign Directive letters) b h = (refl, refl)
step_alike (InQuotes Text quote letters) b h = (refl, refl)
step_alike (InQuotes Hash quote letters) b h = (refl, refl)
step_alike (InQuotes Include quote letters) b h = (refl, refl)
step_alike (InQuotes Directive quote letters) b h = (refl, refl)
step_alike (AfterBackslash Text quote letters) b h = (refl, refl)
step_alike (AfterBackslash Hash quote letters) b h = (refl, refl)
step_alike (AfterBackslash Include quote letters) b h = (refl, refl)
step_alike (AfterBackslash Directive quote letters) b h = (refl, refl)
step_alike (InHeader letters) b h = (refl, refl)

steps_alike : (a b : Mode) (x : ℕ) → nat_eq x 35 ≡ false → textual a ≡ textual b → AreAlike (step a x) (step b x)
steps_alike a b x h e =
    let l = step_alike a x h in let r = step_alike b x h in
    (l.0 ∙ (ap (λ m. (step m x).given) e ∙ sym r.0), l.1 ∙ (ap (λ m. textual (step m x).next) e ∙ sym r.1))

not_hash : (b : ℕ) (bytes : List ℕ) → has_no_hash (b ∷ bytes) ≡ true → nat_eq b 35 ≡ false
not_hash b bytes h = go (nat_eq b 35) (has_no_hash bytes) h
  where
    go : (c d : Bool) → (not c && d) ≡ true → c ≡ false
    go true d k = cc
    go false d k = refl

no_more_hash : (b : ℕ) (bytes : List ℕ) → has_no_hash (b ∷ bytes) ≡ true → has_no_hash bytes ≡ true
no_more_hash b bytes h = go (nat_eq b 35) (has_no_hash bytes) h
  where
    go : (c d : Bool) → (not c && d) ≡ true → d ≡ true
    go true d k = cc
    go false d k = k

given_alike : (a b : Mode) (bytes : List ℕ) → has_no_hash bytes ≡ true → textual a ≡ textual b → (given_of a bytes ≡ given_of b bytes) × (textual (mode_after a bytes) ≡ textual (mode_after b bytes))
unfolding given_of
given_alike a b [] h e = (refl, e)
given_alike a b (x ∷ bytes) h e =
    let s = steps_alike a b x (not_hash x bytes h) e in
    let m = given_alike (step a x).next (step b x).next bytes (no_more_hash x bytes h) s.1 in
    (ap (λ t. t ++ given_of (step a x).next bytes) s.0 ∙ ap (λ t. (step b x).given ++ t) m.0, m.1)

rest_alike : (a b : Mode) → textual a ≡ textual b → is_at_rest a ≡ is_at_rest b
rest_alike a b e = same a ∙ (ap is_at_rest e ∙ sym (same b))
  where
    line_same : (line : CLine) → is_text_line line ≡ is_text_line (text_line line)
    line_same Fresh = refl
    line_same Text = refl
    line_same Hash = refl
    line_same Include = refl
    line_same Directive = refl

    same : (m : Mode) → is_at_rest m ≡ is_at_rest (textual m)
    same (Between line) = line_same line
    same (InWord line letters) = line_same line
    same (InSign line letters) = line_same line
    same (InQuotes line quote letters) = refl
    same (AfterBackslash line quote letters) = refl
    same (InHeader letters) = refl

-- ---- the last byte tells what stands open

-- what the kind of a byte says of it
abbrev of_kind : ByteKind → ℕ → Bool
of_kind WordByte b = is_word_byte b
of_kind Joining b = is_joining b
of_kind _ b = true

kind_fits : (b : ℕ) → of_kind (kind_of b) b ≡ true
kind_fits b = go (is_word_byte b) (nat_eq b 32 || nat_eq b 9) (nat_eq b 10) (nat_eq b 34 || nat_eq b 39) (list_any (nat_eq b) (codes "(){}[];,~?")) (is_joining b) refl refl
  where
    go : (w bl lf q al jo : Bool) → is_word_byte b ≡ w → is_joining b ≡ jo
        → of_kind (if w then WordByte else if bl then Blank else if lf then LineFeed else if q then Quote else if al then Alone else if jo then Joining else Neither) b ≡ true
    go true bl lf q al jo h k = h
    go false true lf q al jo h k = refl
    go false false true q al jo h k = refl
    go false false false true al jo h k = refl
    go false false false false true jo h k = refl
    go false false false false false true h k = k
    go false false false false false false h k = refl

begin_fits : (kind : ByteKind) (line : CLine) (b : ℕ) → of_kind kind b ≡ true → fits (begin kind line b).next b ≡ true
begin_fits LineFeed line b h = refl
begin_fits Blank line b h = refl
begin_fits WordByte line b h = h
begin_fits Quote line b h = refl
begin_fits Alone line b h = refl
begin_fits Joining Fresh b h = go (nat_eq b 35)
  where
    go : (c : Bool) → fits (if c then gives (Sign (codes "#")) (Between Hash) else goes_on (InSign Fresh (b ∷ []))).next b ≡ true
    go true = refl
    go false = h
begin_fits Joining Include b h = go (nat_eq b 60)
  where
    go : (c : Bool) → fits (if c then goes_on (InHeader []) else goes_on (InSign Include (b ∷ []))).next b ≡ true
    go true = refl
    go false = h
begin_fits Joining Text b h = h
begin_fits Joining Hash b h = h
begin_fits Joining Directive b h = h
begin_fits Neither line b h = refl

abbrev last_joins : List ℕ → Bool
last_joins [] = true
last_joins (x ∷ []) = is_joining x
last_joins (x ∷ y ∷ xs) = last_joins (y ∷ xs)

last_of : (front : List ℕ) (b : ℕ) → last_joins (front ++ b ∷ []) ≡ true → is_joining b ≡ true
last_of [] b h = h
last_of (x ∷ []) b h = h
last_of (x ∷ y ∷ front) b h = last_of (y ∷ front) b h

among : (signs : List (List ℕ)) (front : List ℕ) (b : ℕ) → list_all last_joins signs ≡ true → list_any (bytes_eq (front ++ b ∷ [])) signs ≡ true → is_joining b ≡ true
among [] front b h k = cc
among (sign ∷ signs) front b h k = go (last_joins sign) (bytes_eq (front ++ b ∷ []) sign) refl refl h k (among signs front b)
  where
    go : (l e : Bool) → last_joins sign ≡ l → bytes_eq (front ++ b ∷ []) sign ≡ e → (l && list_all last_joins signs) ≡ true → (e || list_any (bytes_eq (front ++ b ∷ [])) signs) ≡ true
        → (list_all last_joins signs ≡ true → list_any (bytes_eq (front ++ b ∷ [])) signs ≡ true → is_joining b ≡ true) → is_joining b ≡ true
    go false e x y u v more = cc
    go true true x y u v more = let s = (bytes_eq-Decides (front ++ b ∷ []) sign).0 y in last_of front b (ap last_joins s ∙ x)
    go true false x y u v more = more u v

-- a sign goes on with bytes that join alone
long_joins : (letters : List ℕ) (b : ℕ) → is_long_sign (letters ++ b ∷ []) ≡ true → is_joining b ≡ true
long_joins letters b h = among long_signs letters b refl h

step_fits : (mode : Mode) (b : ℕ) → fits (step mode b).next b ≡ true
step_fits (Between line) b = begin_fits (kind_of b) line b (kind_fits b)
step_fits (InWord line letters) b = go (is_word_byte b) refl
  where
    go : (c : Bool) → is_word_byte b ≡ c → fits (if c then goes_on (InWord line (letters ++ b ∷ [])) else ends (Word letters) line b).next b ≡ true
    go true h = h
    go false h = begin_fits (kind_of b) (after line (Word letters)) b (kind_fits b)
step_fits (InSign line letters) b = go (is_long_sign (letters ++ b ∷ [])) refl
  where
    go : (c : Bool) → is_long_sign (letters ++ b ∷ []) ≡ c → fits (if c then goes_on (InSign line (letters ++ b ∷ [])) else ends (Sign letters) line b).next b ≡ true
    go true h = long_joins letters b h
    go false h = begin_fits (kind_of b) (after line (Sign letters)) b (kind_fits b)
step_fits (InQuotes line quote letters) b = go (nat_eq b 10) (nat_eq b 92) (nat_eq b quote)
  where
    go : (feed slash close : Bool) → fits (if feed then ends (Other quote) line b else if slash then goes_on (AfterBackslash line quote (letters ++ b ∷ [])) else if close then gives (quoted quote letters) (Between (after line (quoted quote letters))) else goes_on (InQuotes line quote (letters ++ b ∷ []))).next b ≡ true
    go true slash close = begin_fits (kind_of b) (after line (Other quote)) b (kind_fits b)
    go false true close = refl
    go false false true = refl
    go false false false = refl
step_fits (AfterBackslash line quote letters) b = go (nat_eq b 10)
  where
    go : (feed : Bool) → fits (if feed then ends (Other quote) line b else goes_on (InQuotes line quote (letters ++ b ∷ []))).next b ≡ true
    go true = begin_fits (kind_of b) (after line (Other quote)) b (kind_fits b)
    go false = refl
step_fits (InHeader letters) b = go (nat_eq b 10) (nat_eq b 62)
  where
    go : (feed close : Bool) → fits (if feed then ends (Other 60) Directive b else if close then gives (HeaderName letters) (Between Directive) else goes_on (InHeader (letters ++ b ∷ []))).next b ≡ true
    go true close = begin_fits (kind_of b) Directive b (kind_fits b)
    go false true = refl
    go false false = refl

no_long : (letters : List ℕ) (b : ℕ) → is_joining b ≡ false → is_long_sign (letters ++ b ∷ []) ≡ false
no_long letters b h = go (is_long_sign (letters ++ b ∷ [])) refl
  where
    go : (c : Bool) → is_long_sign (letters ++ b ∷ []) ≡ c → c ≡ false
    go true k = let e = long_joins letters b k in cc
    go false k = refl

-- the end of a line ends whatever stands open
feed_fresh : (mode : Mode) → (step mode 10).next ≡ Between Fresh
feed_fresh (Between line) = refl
feed_fresh (InWord line letters) = refl
feed_fresh (InSign line letters) = ap (λ c. (if c then goes_on (InSign line (letters ++ 10 ∷ [])) else ends (Sign letters) line 10).next) (no_long letters 10 refl)
feed_fresh (InQuotes line quote letters) = refl
feed_fresh (AfterBackslash line quote letters) = refl
feed_fresh (InHeader letters) = refl

mode_append : (mode : Mode) (xs ys : List ℕ) → mode_after mode (xs ++ ys) ≡ mode_after (mode_after mode xs) ys
mode_append mode [] ys = refl
mode_append mode (x ∷ xs) ys = mode_append (step mode x).next xs ys

last_fits : (mode : Mode) (front : List ℕ) (b : ℕ) → fits (mode_after mode (front ++ b ∷ [])) b ≡ true
last_fits mode front b = rw (mode_append mode front (b ∷ [])) (step_fits (mode_after mode front) b)

last_feeds : (mode : Mode) (front : List ℕ) → mode_after mode (front ++ 10 ∷ []) ≡ Between Fresh
last_feeds mode front = mode_append mode front (10 ∷ []) ∙ feed_fresh (mode_after mode front)

-- ---- where two bytes don't make one token, what stands open ends

no_word : (last b : ℕ) → is_word_byte last ≡ true → glue last b ≡ false → is_word_byte b ≡ false
no_word last b f g = go (is_word_byte last) (is_word_byte b) (is_joining last && is_joining b) f g
  where
    go : (x y z : Bool) → x ≡ true → ((x && y) || z) ≡ false → y ≡ false
    go true true z e k = cc
    go true false z e k = refl
    go false y z e k = cc

no_join : (last b : ℕ) → is_joining last ≡ true → glue last b ≡ false → is_joining b ≡ false
no_join last b f g = go (is_joining last) (is_joining b) (is_word_byte last && is_word_byte b) f g
  where
    go : (x y z : Bool) → x ≡ true → (z || (x && y)) ≡ false → y ≡ false
    go true true true e k = cc
    go true true false e k = cc
    go true false z e k = refl
    go false y z e k = cc

-- what stands open is given, and the reading goes on from between tokens
abbrev Closes : Mode → ℕ → Type 0
Closes mode b = ((step mode b).given ≡ closing mode ++ (step (Between Text) b).given) × (textual (step mode b).next ≡ textual (step (Between Text) b).next)

sign_closes : (line : CLine) → text_line line ≡ Text → (letters : List ℕ) (last b : ℕ) → is_joining last ≡ true → glue last b ≡ false → Closes (InSign line letters) b
sign_closes Fresh t letters last b f g =
    let n = no_long letters b (no_join last b f g) in (
      ap (λ c. (if c then goes_on (InSign Fresh (letters ++ b ∷ [])) else ends (Sign letters) Fresh b).given) n
          ∙ sym (ap (λ c. (if c then goes_on (InSign Fresh (letters ++ 10 ∷ [])) else ends (Sign letters) Fresh 10).given ++ (step (Between Text) b).given) (no_long letters 10 refl)),
      ap (λ c. textual (if c then goes_on (InSign Fresh (letters ++ b ∷ [])) else ends (Sign letters) Fresh b).next) n,
    )
sign_closes Text t letters last b f g =
    let n = no_long letters b (no_join last b f g) in (
      ap (λ c. (if c then goes_on (InSign Text (letters ++ b ∷ [])) else ends (Sign letters) Text b).given) n
          ∙ sym (ap (λ c. (if c then goes_on (InSign Text (letters ++ 10 ∷ [])) else ends (Sign letters) Text 10).given ++ (step (Between Text) b).given) (no_long letters 10 refl)),
      ap (λ c. textual (if c then goes_on (InSign Text (letters ++ b ∷ [])) else ends (Sign letters) Text b).next) n,
    )
sign_closes Hash t letters last b f g = cc
sign_closes Include t letters last b f g = cc
sign_closes Directive t letters last b f g = cc

closes : (mode : Mode) (last b : ℕ) → is_at_rest mode ≡ true → fits mode last ≡ true → glue last b ≡ false → nat_eq b 35 ≡ false → Closes mode b
closes (Between Fresh) last b r f g h = begin_alike (kind_of b) b h
closes (Between Text) last b r f g h = (refl, refl)
closes (InWord Fresh letters) last b r f g h = rw (no_word last b f g) (refl, refl)
closes (InWord Text letters) last b r f g h = rw (no_word last b f g) (refl, refl)
closes (InSign Fresh letters) last b r f g h = sign_closes Fresh refl letters last b f g
closes (InSign Text letters) last b r f g h = sign_closes Text refl letters last b f g
closes (Between Hash) last b r f g h = cc
closes (Between Include) last b r f g h = cc
closes (Between Directive) last b r f g h = cc
closes (InWord Hash letters) last b r f g h = cc
closes (InWord Include letters) last b r f g h = cc
closes (InWord Directive letters) last b r f g h = cc
closes (InSign Hash letters) last b r f g h = cc
closes (InSign Include letters) last b r f g h = cc
closes (InSign Directive letters) last b r f g h = cc
closes (InQuotes line quote letters) last b r f g h = cc
closes (AfterBackslash line quote letters) last b r f g h = cc
closes (InHeader letters) last b r f g h = cc

left_of : (a b : Bool) → (a && b) ≡ true → a ≡ true
left_of true b h = refl
left_of false b h = h

right_of : (a b : Bool) → (a && b) ≡ true → b ≡ true
right_of true b h = h
right_of false b h = cc

more_alike : (a b : Mode) (bytes : List ℕ) → has_no_hash bytes ≡ true → textual a ≡ textual b → tokens_from a bytes ≡ tokens_from b bytes
more_alike a b bytes h e =
    let g = given_alike a b bytes h e in
    let s = steps_alike (mode_after a bytes) (mode_after b bytes) 10 refl g.1 in
    ended a bytes ∙ (ap (λ t. t ++ closing (mode_after a bytes)) g.0 ∙ (ap (λ t. given_of b bytes ++ t) s.0 ∙ sym (ended b bytes)))

-- ---- two parts

cut_last : (b : ℕ) (more : List ℕ) → (front : List ℕ) × (b ∷ more ≡ front ++ get_or (b ∷ more) (length more) 0 ∷ [])
cut_last b [] = ([], refl)
cut_last b (c ∷ more) = let r = cut_last c more in (b ∷ r.0, ap (λ t. b ∷ t) r.1)

-- ---- words

word_mode : (line : CLine) (letters more : List ℕ) → AreWordBytes more → mode_after (InWord line letters) more ≡ InWord line (letters ++ more)
word_mode line letters [] h = ap (InWord line) (sym (append-nil letters))
word_mode line letters (b ∷ more) h =
    ap (λ c. mode_after (if c then goes_on (InWord line (letters ++ b ∷ [])) else ends (Word letters) line b).next more) h.0
    ∙ (word_mode line (letters ++ b ∷ []) more h.1 ∙ ap (InWord line) (append_assoc letters (b ∷ []) more))

begun_word : (b : ℕ) (more : List ℕ) → AreWordBytes (b ∷ more) → mode_after (Between Fresh) (b ∷ more) ≡ InWord Fresh (b ∷ more)
begun_word b more h = rw h.0 (word_mode Fresh (b ∷ []) more h.1)

word_hash : (b : ℕ) → is_word_byte b ≡ true → nat_eq b 35 ≡ false
word_hash b h = go (nat_eq b 35) refl
  where
    go : (c : Bool) → nat_eq b 35 ≡ c → c ≡ false
    go true e = let k : b ≡ 35 = eqb-true b 35 e in let f : is_word_byte 35 ≡ true = sym (ap is_word_byte k) ∙ h in cc
    go false e = refl

word_no_hash : (word : List ℕ) → AreWordBytes word → has_no_hash word ≡ true
word_no_hash [] h = refl
word_no_hash (b ∷ more) h = rw (word_hash b h.0) (word_no_hash more h.1)

word_whole : (b : ℕ) (more : List ℕ) → AreWordBytes (b ∷ more) → is_whole_text (b ∷ more) ≡ true
word_whole b more h = rw (word_no_hash (b ∷ more) h, begun_word b more h) refl

word_alone : (b : ℕ) (more : List ℕ) → AreWordBytes (b ∷ more) → c_tokens (b ∷ more) ≡ Word (b ∷ more) ∷ []
unfolding c_tokens tokens_from
word_alone b more h = rw h.0 (ap (tokens_from (InWord Fresh (b ∷ []))) (sym (append-nil more)) ∙ word_tokens false (b ∷ []) more [] h.1 tt)

fits_textual : (mode : Mode) (b : ℕ) → fits mode b ≡ fits (textual mode) b
fits_textual (Between line) b = refl
fits_textual (InWord line letters) b = refl
fits_textual (InSign line letters) b = refl
fits_textual (InQuotes line quote letters) b = refl
fits_textual (AfterBackslash line quote letters) b = refl
fits_textual (InHeader letters) b = refl

-- ---- strings

abbrev tokens_at : Step → List ℕ → List CToken
tokens_at at ys = at.given ++ tokens_from at.next ys

abbrev quoting : Bool → CLine → ℕ → List ℕ → Mode
quoting true line quote letters = InQuotes line quote letters
quoting false line quote letters = AfterBackslash line quote letters

-- within quotes it doesn't matter whether the line has begun
line_free : (s : Bool) (quote : ℕ) (letters ys : List ℕ) → tokens_from (quoting s Fresh quote letters) ys ≡ tokens_from (quoting s Text quote letters) ys
unfolding tokens_from
line_free true quote letters [] = refl
line_free false quote letters [] = refl
line_free true quote letters (b ∷ ys) = go (nat_eq b 10) (nat_eq b 92) (nat_eq b quote) (line_free false quote (letters ++ b ∷ []) ys) (line_free true quote (letters ++ b ∷ []) ys)
  where
    go : (feed slash close : Bool)
        → tokens_from (AfterBackslash Fresh quote (letters ++ b ∷ [])) ys ≡ tokens_from (AfterBackslash Text quote (letters ++ b ∷ [])) ys
        → tokens_from (InQuotes Fresh quote (letters ++ b ∷ [])) ys ≡ tokens_from (InQuotes Text quote (letters ++ b ∷ [])) ys
        → tokens_at (if feed then ends (Other quote) Fresh b else if slash then goes_on (AfterBackslash Fresh quote (letters ++ b ∷ [])) else if close then gives (quoted quote letters) (Between (after Fresh (quoted quote letters))) else goes_on (InQuotes Fresh quote (letters ++ b ∷ []))) ys
        ≡ tokens_at (if feed then ends (Other quote) Text b else if slash then goes_on (AfterBackslash Text quote (letters ++ b ∷ [])) else if close then gives (quoted quote letters) (Between (after Text (quoted quote letters))) else goes_on (InQuotes Text quote (letters ++ b ∷ []))) ys
    go true slash close h k = refl
    go false true close h k = h
    go false false true h k = ap (λ line. quoted quote letters ∷ tokens_from (Between line) ys) (after_quoted quote letters (nat_eq quote 34))
    go false false false h k = k
line_free false quote letters (b ∷ ys) = go (nat_eq b 10) (line_free true quote (letters ++ b ∷ []) ys)
  where
    go : (feed : Bool) → tokens_from (InQuotes Fresh quote (letters ++ b ∷ [])) ys ≡ tokens_from (InQuotes Text quote (letters ++ b ∷ [])) ys
        → tokens_at (if feed then ends (Other quote) Fresh b else goes_on (InQuotes Fresh quote (letters ++ b ∷ []))) ys ≡ tokens_at (if feed then ends (Other quote) Text b else goes_on (InQuotes Text quote (letters ++ b ∷ []))) ys
    go true h = refl
    go false h = h

string_alone : (bytes rest : List ℕ) → tokens_from (Between Fresh) (34 ∷ (flat_map quoted_byte bytes ++ (34 ∷ rest))) ≡ Str (flat_map quoted_byte bytes) ∷ tokens_from (Between Text) rest
unfolding tokens_from
string_alone bytes rest = line_free true 34 [] (flat_map quoted_byte bytes ++ (34 ∷ rest)) ∙ string_tokens bytes rest

-- where the reading stands after a byte in quotes
plain_after : (line : CLine) (letters : List ℕ) (b : ℕ) (more : List ℕ) → nat_eq b 10 ≡ false → nat_eq b 92 ≡ false → nat_eq b 34 ≡ false
    → mode_after (InQuotes line 34 letters) (b ∷ more) ≡ mode_after (InQuotes line 34 (letters ++ b ∷ [])) more
plain_after line letters b more e f g = rw (e, f, g) refl

slash_after : (line : CLine) (letters : List ℕ) (b : ℕ) (more : List ℕ) → nat_eq b 10 ≡ false
    → mode_after (AfterBackslash line 34 letters) (b ∷ more) ≡ mode_after (InQuotes line 34 (letters ++ b ∷ [])) more
slash_after line letters b more e = rw e refl

slash_begins : (line : CLine) (letters more : List ℕ) → mode_after (InQuotes line 34 letters) (92 ∷ more) ≡ mode_after (AfterBackslash line 34 (letters ++ 92 ∷ [])) more
slash_begins line letters more = refl

digit_after : (line : CLine) (letters : List ℕ) (d : ℕ) (more : List ℕ) → d < 8
    → mode_after (InQuotes line 34 letters) ((48 + d) ∷ more) ≡ mode_after (InQuotes line 34 (letters ++ (48 + d) ∷ [])) more
digit_after line letters d more h =
    plain_after line letters (48 + d) more
    (ne_eqb (48 + d) 10 (λ e. omega arith)) (ne_eqb (48 + d) 92 (λ e. omega arith)) (ne_eqb (48 + d) 34 (λ e. omega arith))

quoted_after : (line : CLine) (letters : List ℕ) (b : ℕ) (more : List ℕ) (test : Bool)
    → ((nat_lt b 32 || nat_lt 126 b) || (nat_eq b 34 || nat_eq b 92)) ≡ test
    → (spelled : List ℕ) → spelled ≡ (if test then 92 ∷ (48 + b / 64) ∷ (48 + b / 8 % 8) ∷ (48 + b % 8) ∷ [] else b ∷ [])
    → mode_after (InQuotes line 34 letters) (spelled ++ more) ≡ mode_after (InQuotes line 34 (letters ++ spelled)) more
quoted_after line letters b more true h spelled e =
    let all : ((((letters ++ 92 ∷ []) ++ (48 + b / 64) ∷ []) ++ (48 + b / 8 % 8) ∷ []) ++ (48 + b % 8) ∷ []) ≡ letters ++ 92 ∷ (48 + b / 64) ∷ (48 + b / 8 % 8) ∷ (48 + b % 8) ∷ [] = simp append_assoc in
    let tail : List ℕ = (48 + b / 8 % 8) ∷ (48 + b % 8) ∷ more in
    rw e (slash_begins line letters ((48 + b / 64) ∷ tail)
    ∙ (slash_after line (letters ++ 92 ∷ []) (48 + b / 64) tail (ne_eqb (48 + b / 64) 10 (λ e. omega arith))
    ∙ (digit_after line ((letters ++ 92 ∷ []) ++ (48 + b / 64) ∷ []) (b / 8 % 8) ((48 + b % 8) ∷ more) (omega arith)
    ∙ (digit_after line (((letters ++ 92 ∷ []) ++ (48 + b / 64) ∷ []) ++ (48 + b / 8 % 8) ∷ []) (b % 8) more (omega arith)
    ∙ ap (λ w. mode_after (InQuotes line 34 w) more) all))))
quoted_after line letters b more false h spelled e =
    rw e (plain_after line letters b more (grind (arith, nat_tests)) (grind (arith, nat_tests)) (grind (arith, nat_tests)))

string_ends : (line : CLine) (letters bytes : List ℕ) → mode_after (InQuotes line 34 letters) (flat_map quoted_byte bytes ++ (34 ∷ [])) ≡ Between (after line (Str (letters ++ flat_map quoted_byte bytes)))
string_ends line letters [] = ap (λ w. Between (after line (Str w))) (sym (append-nil letters))
string_ends line letters (b ∷ bytes) =
    ap (mode_after (InQuotes line 34 letters)) (append_assoc (quoted_byte b) (flat_map quoted_byte bytes) (34 ∷ []))
    ∙ (quoted_after line letters b (flat_map quoted_byte bytes ++ (34 ∷ [])) _ refl (quoted_byte b) refl
    ∙ (string_ends line (letters ++ quoted_byte b) bytes
    ∙ ap (λ w. Between (after line (Str w))) (append_assoc letters (quoted_byte b) (flat_map quoted_byte bytes))))

-- the mode at an opening quote
quote_begun : (mode : Mode) → textual mode ≡ InQuotes Text 34 [] → (ys : List ℕ) → tokens_from mode ys ≡ tokens_from (InQuotes Text 34 []) ys
quote_begun (InQuotes Fresh quote letters) e ys =
    let q : quote ≡ 34 = cc in let l : letters ≡ [] = cc in
    ap (λ z. tokens_from (InQuotes Fresh z letters) ys) q ∙ (ap (λ z. tokens_from (InQuotes Fresh 34 z) ys) l ∙ line_free true 34 [] ys)
quote_begun (InQuotes Text quote letters) e ys = ap (λ m. tokens_from m ys) e
quote_begun (InQuotes Hash quote letters) e ys = cc
quote_begun (InQuotes Include quote letters) e ys = cc
quote_begun (InQuotes Directive quote letters) e ys = cc
quote_begun (Between line) e ys = cc
quote_begun (InWord line letters) e ys = cc
quote_begun (InSign line letters) e ys = cc
quote_begun (AfterBackslash line quote letters) e ys = cc
quote_begun (InHeader letters) e ys = cc

quote_rests : (mode : Mode) → textual mode ≡ InQuotes Text 34 [] → (bytes : List ℕ) → mode_after mode (flat_map quoted_byte bytes ++ (34 ∷ [])) ≡ Between Text
quote_rests (InQuotes Fresh quote letters) e bytes =
    let q : quote ≡ 34 = cc in
    ap (λ z. mode_after (InQuotes Fresh z letters) (flat_map quoted_byte bytes ++ (34 ∷ []))) q ∙ string_ends Fresh letters bytes
quote_rests (InQuotes Text quote letters) e bytes =
    let q : quote ≡ 34 = cc in
    ap (λ z. mode_after (InQuotes Text z letters) (flat_map quoted_byte bytes ++ (34 ∷ []))) q ∙ string_ends Text letters bytes
quote_rests (InQuotes Hash quote letters) e bytes = cc
quote_rests (InQuotes Include quote letters) e bytes = cc
quote_rests (InQuotes Directive quote letters) e bytes = cc
quote_rests (Between line) e bytes = cc
quote_rests (InWord line letters) e bytes = cc
quote_rests (InSign line letters) e bytes = cc
quote_rests (AfterBackslash line quote letters) e bytes = cc
quote_rests (InHeader letters) e bytes = cc

module _ (text : List ℕ) (last : ℕ) (at : IsAtRest text last) where
  abbrev mode : Mode
  mode = mode_after (Between Fresh) text

  -- bytes that glue nothing to the text
  joined_tokens : (b : ℕ) (more : List ℕ) → glue last b ≡ false → has_no_hash (b ∷ more) ≡ true → tokens_from mode (b ∷ more) ≡ closing mode ++ tokens_from (Between Fresh) (b ∷ more)
  unfolding tokens_from
  joined_tokens b more g h =
      let c = closes mode last b at.rests at.ends g (not_hash b more h) in
      let f = begin_alike (kind_of b) b (not_hash b more h) in
      let n = more_alike (step mode b).next (step (Between Fresh) b).next more (no_more_hash b more h) (c.1 ∙ sym f.1) in
      ap (λ t. t ++ tokens_from (step mode b).next more) c.0
      ∙ (append_assoc (closing mode) (step (Between Text) b).given (tokens_from (step mode b).next more)
      ∙ (ap (λ t. closing mode ++ (t ++ tokens_from (step mode b).next more)) (sym f.0) ∙ ap (λ t. closing mode ++ ((step (Between Fresh) b).given ++ t)) n))

  pub joined : (b : ℕ) (more : List ℕ) → glue last b ≡ false → has_no_hash (b ∷ more) ≡ true → c_tokens (text ++ b ∷ more) ≡ c_tokens text ++ c_tokens (b ∷ more)
  unfolding c_tokens
  joined b more g h =
      split (Between Fresh) text (b ∷ more)
      ∙ (ap (λ t. given_of (Between Fresh) text ++ t) (joined_tokens b more g h)
      ∙ (sym (append_assoc (given_of (Between Fresh) text) (closing mode) (tokens_from (Between Fresh) (b ∷ more)))
      ∙ ap (λ t. t ++ tokens_from (Between Fresh) (b ∷ more)) (sym (ended (Between Fresh) text))))

  joined_mode : (b : ℕ) (more : List ℕ) → glue last b ≡ false → has_no_hash (b ∷ more) ≡ true → textual (mode_after (Between Fresh) (text ++ b ∷ more)) ≡ textual (mode_after (Between Fresh) (b ∷ more))
  joined_mode b more g h =
      let c = closes mode last b at.rests at.ends g (not_hash b more h) in
      let f = begin_alike (kind_of b) b (not_hash b more h) in
      let n = given_alike (step mode b).next (step (Between Fresh) b).next more (no_more_hash b more h) (c.1 ∙ sym f.1) in
      ap textual (mode_append (Between Fresh) text (b ∷ more)) ∙ n.1

  joined_at_rest : (b : ℕ) (more : List ℕ) → glue last b ≡ false → is_whole_text (b ∷ more) ≡ true → is_at_rest (mode_after (Between Fresh) (text ++ b ∷ more)) ≡ true
  joined_at_rest b more g w =
      rest_alike (mode_after (Between Fresh) (text ++ b ∷ more)) (mode_after (Between Fresh) (b ∷ more)) (joined_mode b more g (left_of (has_no_hash (b ∷ more)) (is_at_rest (mode_after (Between Fresh) (b ∷ more))) w))
      ∙ right_of (has_no_hash (b ∷ more)) (is_at_rest (mode_after (Between Fresh) (b ∷ more))) w

  -- what is written by a text
  pub text_rests : (b : ℕ) (more : List ℕ) (front : List ℕ) (end : ℕ) → glue last b ≡ false → is_whole_text (b ∷ more) ≡ true → b ∷ more ≡ front ++ end ∷ [] → IsAtRest (text ++ b ∷ more) end
  text_rests b more front end g w e = record {
    rests = joined_at_rest b more g w;
    ends = ap (λ p. fits (mode_after (Between Fresh) (text ++ p)) end) e ∙ (ap (λ p. fits (mode_after (Between Fresh) p) end) (sym (append_assoc text front (end ∷ []))) ∙ last_fits (Between Fresh) (text ++ front) end);
    fresh = λ f. ap (λ p. mode_after (Between Fresh) (text ++ p)) e ∙ (ap (mode_after (Between Fresh)) (sym (append_assoc text front (end ∷ []))) ∙ (ap (λ z. mode_after (Between Fresh) ((text ++ front) ++ z ∷ [])) f ∙ last_feeds (Between Fresh) (text ++ front)));
  }

  pub text_written : (b : ℕ) (more : List ℕ) → glue last b ≡ false → is_whole_text (b ∷ more) ≡ true → c_tokens (text ++ b ∷ more) ≡ c_tokens text ++ c_tokens (b ∷ more)
  text_written b more g w = joined b more g (left_of (has_no_hash (b ∷ more)) (is_at_rest (mode_after (Between Fresh) (b ∷ more))) w)

  pub whole_rests : (bytes : List ℕ) → 0 < length bytes → glue last (get_or bytes 0 0) ≡ false → is_whole_text bytes ≡ true → IsAtRest (text ++ bytes) (get_or bytes (length bytes - 1) 0)
  whole_rests [] n g w = absurd (omega arith)
  whole_rests (b ∷ more) n g w = let r = cut_last b more in let e : length (b ∷ more) - 1 ≡ length more = omega arith in rw e (text_rests b more r.0 (get_or (b ∷ more) (length more) 0) g w r.1)

  pub whole_written : (bytes : List ℕ) → 0 < length bytes → glue last (get_or bytes 0 0) ≡ false → is_whole_text bytes ≡ true → c_tokens (text ++ bytes) ≡ c_tokens text ++ c_tokens bytes
  whole_written [] n g w = absurd (omega arith)
  whole_written (b ∷ more) n g w = text_written b more g w

  pub word_rests : (b : ℕ) (more : List ℕ) → glue last b ≡ false → AreWordBytes (b ∷ more) → IsAtRest (text ++ b ∷ more) 48
  word_rests b more g h =
      let n = joined_mode b more g (word_no_hash (b ∷ more) h) in
      let m : textual (mode_after (Between Fresh) (text ++ b ∷ more)) ≡ InWord Text (b ∷ more) = n ∙ ap textual (begun_word b more h) in
      record {
        rests = joined_at_rest b more g (word_whole b more h);
        ends = fits_textual (mode_after (Between Fresh) (text ++ b ∷ more)) 48 ∙ ap (λ m. fits m 48) m;
        fresh = λ e. cc;
      }

  pub word_written : (b : ℕ) (more : List ℕ) → glue last b ≡ false → AreWordBytes (b ∷ more) → c_tokens (text ++ b ∷ more) ≡ c_tokens text ++ Word (b ∷ more) ∷ []
  word_written b more g h = text_written b more g (word_whole b more h) ∙ ap (λ t. c_tokens text ++ t) (word_alone b more h)

  -- from what stands open to between tokens, at a quote
  quote_closes : Closes mode 34
  quote_closes = closes mode last 34 at.rests at.ends glue_quote refl
    where
      glue_quote : glue last 34 ≡ false
      glue_quote = go (is_word_byte last) (is_joining last)
        where
          go : (x y : Bool) → ((x && false) || (y && false)) ≡ false
          go true true = refl
          go true false = refl
          go false true = refl
          go false false = refl

  abbrev literal : List ℕ → List ℕ
  literal bytes = 34 ∷ (flat_map quoted_byte bytes ++ (34 ∷ []))

  pub string_written : (bytes : List ℕ) → c_tokens (text ++ literal bytes) ≡ c_tokens text ++ Str (flat_map quoted_byte bytes) ∷ []
  unfolding c_tokens tokens_from
  string_written bytes =
      let ys = flat_map quoted_byte bytes ++ (34 ∷ []) in
      split (Between Fresh) text (34 ∷ ys)
      ∙ (ap (λ t. given_of (Between Fresh) text ++ (t ++ tokens_from (step mode 34).next ys)) (quote_closes.0 ∙ append-nil (closing mode))
      ∙ (ap (λ t. given_of (Between Fresh) text ++ (closing mode ++ t)) (quote_begun (step mode 34).next quote_closes.1 ys ∙ string_tokens bytes [])
      ∙ (sym (append_assoc (given_of (Between Fresh) text) (closing mode) (Str (flat_map quoted_byte bytes) ∷ []))
      ∙ ap (λ t. t ++ Str (flat_map quoted_byte bytes) ∷ []) (sym (ended (Between Fresh) text)))))

  pub string_rests : (bytes : List ℕ) → IsAtRest (text ++ literal bytes) 34
  string_rests bytes =
      let ys = flat_map quoted_byte bytes ++ (34 ∷ []) in
      let m : mode_after (Between Fresh) (text ++ literal bytes) ≡ Between Text = mode_append (Between Fresh) text (34 ∷ ys) ∙ quote_rests (step mode 34).next quote_closes.1 bytes in
      record { rests = ap is_at_rest m; ends = ap (λ m. fits m 34) m; fresh = λ e. cc }

  -- a blank keeps the tokens
  pub glue_blank : glue last 32 ≡ false
  glue_blank = go (is_word_byte last) (is_joining last)
    where
      go : (x y : Bool) → ((x && false) || (y && false)) ≡ false
      go true true = refl
      go true false = refl
      go false true = refl
      go false false = refl

  pub blank_written : c_tokens (text ++ 32 ∷ []) ≡ c_tokens text
  unfolding c_tokens tokens_from
  blank_written = text_written 32 [] glue_blank refl ∙ append-nil (c_tokens text)

  pub blank_rests : IsAtRest (text ++ 32 ∷ []) 32
  blank_rests = text_rests 32 [] [] 32 glue_blank refl refl

  glue_feed : glue last 10 ≡ false
  glue_feed = go (is_word_byte last) (is_joining last)
    where
      go : (x y : Bool) → ((x && false) || (y && false)) ≡ false
      go true true = refl
      go true false = refl
      go false true = refl
      go false false = refl

  -- the end of a line keeps the tokens
  pub feed_written : c_tokens (text ++ 10 ∷ []) ≡ c_tokens text
  unfolding c_tokens tokens_from
  feed_written = text_written 10 [] glue_feed refl ∙ append-nil (c_tokens text)

  pub feed_rests : IsAtRest (text ++ 10 ∷ []) 10
  feed_rests = text_rests 10 [] [] 10 glue_feed refl refl

  -- a line of its own
  pub line_written : (line : List ℕ) → last ≡ 10 → c_tokens (text ++ line) ≡ c_tokens text ++ c_tokens line
  unfolding c_tokens
  line_written line f =
      split (Between Fresh) text line
      ∙ (ap (λ m. given_of (Between Fresh) text ++ tokens_from m line) (at.fresh f)
      ∙ ap (λ t. t ++ tokens_from (Between Fresh) line) (sym (append-nil (given_of (Between Fresh) text)) ∙ (ap (λ m. given_of (Between Fresh) text ++ closing m) (sym (at.fresh f)) ∙ sym (ended (Between Fresh) text))))

  pub line_rests : (line : List ℕ) → last ≡ 10 → mode_after (Between Fresh) line ≡ Between Fresh → IsAtRest (text ++ line) 10
  line_rests line f e =
      let m : mode_after (Between Fresh) (text ++ line) ≡ Between Fresh = mode_append (Between Fresh) text line ∙ (ap (λ m. mode_after m line) (at.fresh f) ∙ e) in
      record { rests = ap is_at_rest m; ends = ap (λ m. fits m 10) m; fresh = λ _. m }
