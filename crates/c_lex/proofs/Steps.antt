-- The steps of the reading, by what their tests say.
use Rattle.std.proofs.Common.{◌≡◌, ℕ, Bool, true, false, not, ◌&&◌, ◌||◌, List, [], ◌∷◌, ◌++◌, refl, sym, ap, ◌∙◌, append_assoc, drop, length, ◌+◌, ◌<◌, ◌≤◌, slice_index}
use Rattle.std.specs.Prelude.{nat_eq, if◌then◌else◌}
use Rattle.std.specs.List.{list_any, list_all}
use Rattle.std.specs.Str.{bytes_eq}
use Rattle.std.proofs.lemmas.Bool.{eq-eqb}
use Rattle.std.proofs.lemmas.Slice.Eq.{bytes_eq-Decides}
use Rattle.std.proofs.lemmas.List.{at_drop_more, at_drop_all}
use Rattle.c_token.specs.CTokens.{CToken, Word, Sign, CLine, Mode, Between, InWord, InSign, InQuotes, AfterBackslash, InHeader, Fresh, goes_on, ends, is_word_byte, is_long_sign, long_signs, step, tokens_from, c_tokens}

pub word_goes_on : (line : CLine) (letters : List ℕ) (b : ℕ) → is_word_byte b ≡ true → step (InWord line letters) b ≡ goes_on (InWord line (letters ++ b ∷ []))
word_goes_on line letters b h = ap (λ (t : Bool). if t then goes_on (InWord line (letters ++ b ∷ [])) else ends (Word letters) line b) h

pub word_ends : (line : CLine) (letters : List ℕ) (b : ℕ) → is_word_byte b ≡ false → step (InWord line letters) b ≡ ends (Word letters) line b
word_ends line letters b h = ap (λ (t : Bool). if t then goes_on (InWord line (letters ++ b ∷ [])) else ends (Word letters) line b) h

pub sign_goes_on : (line : CLine) (letters : List ℕ) (b : ℕ) → is_long_sign (letters ++ b ∷ []) ≡ true → step (InSign line letters) b ≡ goes_on (InSign line (letters ++ b ∷ []))
sign_goes_on line letters b h = ap (λ (t : Bool). if t then goes_on (InSign line (letters ++ b ∷ [])) else ends (Sign letters) line b) h

pub sign_ends : (line : CLine) (letters : List ℕ) (b : ℕ) → is_long_sign (letters ++ b ∷ []) ≡ false → step (InSign line letters) b ≡ ends (Sign letters) line b
sign_ends line letters b h = ap (λ (t : Bool). if t then goes_on (InSign line (letters ++ b ∷ [])) else ends (Sign letters) line b) h

pub quotes_go_on : (line : CLine) (quote : ℕ) (letters : List ℕ) (b : ℕ) → nat_eq b 10 ≡ false → nat_eq b 92 ≡ false → nat_eq b quote ≡ false
    → step (InQuotes line quote letters) b ≡ goes_on (InQuotes line quote (letters ++ b ∷ []))
quotes_go_on line quote letters b e f g = rw (e, f, g) refl

pub quotes_escape : (line : CLine) (quote : ℕ) (letters : List ℕ) (b : ℕ) → b ≡ 92 → step (InQuotes line quote letters) b ≡ goes_on (AfterBackslash line quote (letters ++ b ∷ []))
quotes_escape line quote letters b e = rw e refl

pub header_goes_on : (letters : List ℕ) (b : ℕ) → nat_eq b 10 ≡ false → nat_eq b 62 ≡ false → step (InHeader letters) b ≡ goes_on (InHeader (letters ++ b ∷ []))
header_goes_on letters b e f = rw (e, f) refl

-- ---- a sign ends at the end of the text

last_byte : List ℕ → ℕ
last_byte [] = 0
last_byte (x ∷ []) = x
last_byte (x ∷ y ∷ xs) = last_byte (y ∷ xs)

last_of : (front : List ℕ) (b : ℕ) → last_byte (front ++ b ∷ []) ≡ b
unfolding last_byte
last_of [] b = refl
last_of (x ∷ []) b = refl
last_of (x ∷ y ∷ front) b = last_of (y ∷ front) b

among : (signs : List (List ℕ)) (front : List ℕ) → list_all (λ s. not (nat_eq (last_byte s) 10)) signs ≡ true → list_any (bytes_eq (front ++ 10 ∷ [])) signs ≡ false
among [] front h = refl
among (sign ∷ signs) front h = go (nat_eq (last_byte sign) 10) (bytes_eq (front ++ 10 ∷ []) sign) refl refl h (among signs front)
  where
    go : (l e : Bool) → nat_eq (last_byte sign) 10 ≡ l → bytes_eq (front ++ 10 ∷ []) sign ≡ e → (not l && list_all (λ s. not (nat_eq (last_byte s) 10)) signs) ≡ true
        → (list_all (λ s. not (nat_eq (last_byte s) 10)) signs ≡ true → list_any (bytes_eq (front ++ 10 ∷ [])) signs ≡ false) → (e || list_any (bytes_eq (front ++ 10 ∷ [])) signs) ≡ false
    go true e x y u more = cc
    go false false x y u more = more u
    go false true x y u more =
        let same : front ++ 10 ∷ [] ≡ sign = (bytes_eq-Decides (front ++ 10 ∷ []) sign).0 y in
        let ten : last_byte sign ≡ 10 = ap last_byte (sym same) ∙ last_of front 10 in
        let test : nat_eq (last_byte sign) 10 ≡ true = eq-eqb (last_byte sign) 10 ten in
        cc

no_feed : (front : List ℕ) → is_long_sign (front ++ 10 ∷ []) ≡ false
unfolding last_byte
no_feed front = among long_signs front refl

pub sign_ends_there : (line : CLine) (letters : List ℕ) → step (InSign line letters) 10 ≡ ends (Sign letters) line 10
sign_ends_there line letters = sign_ends line letters 10 (no_feed letters)

-- ---- the rest of a text

pub from_start : (text : List ℕ) → c_tokens text ≡ tokens_from (Between Fresh) text
unfolding c_tokens
from_start text = refl

one_more : (mode : Mode) (text : List ℕ) (at : ℕ) → at < length text
    → tokens_from mode (drop at text) ≡ (step mode (slice_index text at)).given ++ tokens_from (step mode (slice_index text at)).next (drop (at + 1) text)
unfolding tokens_from
one_more mode text at h = at_drop_more (tokens_from mode) text at 0 h

none_more : (mode : Mode) (text : List ℕ) (at : ℕ) → length text ≤ at → tokens_from mode (drop at text) ≡ (step mode 10).given
unfolding tokens_from
none_more mode text at h = at_drop_all (tokens_from mode) text at h

-- one turn of the loop, and its end
pub turned : (all found more : List CToken) (mode next : Mode) (text : List ℕ) (at : ℕ) → at < length text → all ≡ found ++ tokens_from mode (drop at text)
    → more ≡ found ++ (step mode (slice_index text at)).given → next ≡ (step mode (slice_index text at)).next → all ≡ more ++ tokens_from next (drop (at + 1) text)
turned all found more mode next text at h same given goes =
    let b = slice_index text at in
    let rest = drop (at + 1) text in
    same
    ∙ (ap (λ t. found ++ t) (one_more mode text at h)
    ∙ (sym (append_assoc found (step mode b).given (tokens_from (step mode b).next rest))
    ∙ (ap (λ t. t ++ tokens_from (step mode b).next rest) (sym given)
    ∙ ap (λ m. more ++ tokens_from m rest) (sym goes))))

pub finished : (all found more : List CToken) (mode : Mode) (text : List ℕ) (at : ℕ) → length text ≤ at → all ≡ found ++ tokens_from mode (drop at text)
    → more ≡ found ++ (step mode 10).given → more ≡ all
finished all found more mode text at h same given = given ∙ (ap (λ t. found ++ t) (sym (none_more mode text at h)) ∙ sym same)
