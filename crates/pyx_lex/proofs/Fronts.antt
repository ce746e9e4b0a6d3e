-- The front of a text whose characters pass a test.
use Rattle.std.proofs.Common.{◌≡◌, ℕ, Bool, true, false, not, List, [], ◌∷◌, ◌++◌, length, take, drop, refl, sym, ap, ◌∙◌, arith}
use Rattle.std.specs.Prelude.{encode_utf8_all, chars, take_while}
use Rattle.std.specs.List.{prefix_len}
use Rattle.std.specs.Str.{IsUtf8, IsCharBoundary, NonePass, NoCharPasses}
use Rattle.std.specs.Str.Pattern.{HasCharAt}
use Rattle.std.proofs.lemmas.Str.{chars_from_encodes, chars-append, chars_past_char, IsUtf8-take, IsUtf8-drop}
use Rattle.std.proofs.lemmas.List.{take_at, take-append-drop}
use Rattle.std.proofs.Math.Seq.{take-length}

true_from_not : (b : Bool) → not b ≡ false → b ≡ true
true_from_not true h = refl
true_from_not false h = sym h

false_from_not : (b : Bool) → not b ≡ true → b ≡ false
false_from_not true h = sym h
false_from_not false h = refl

prefix_all : (p : ℕ → Bool) (cs : List ℕ) → NonePass (λ d. not (p d)) cs → prefix_len p cs ≡ length cs
prefix_all p [] none = refl
prefix_all p (c ∷ cs) none = rw (true_from_not (p c) none.0) (omega (arith, prefix_all p cs none.1))

prefix_front : (p : ℕ → Bool) (cs : List ℕ) (d : ℕ) (ds : List ℕ) → NonePass (λ d. not (p d)) cs → not (p d) ≡ true → prefix_len p (cs ++ d ∷ ds) ≡ length cs
prefix_front p [] d ds none stop = rw (false_from_not (p d) stop) refl
prefix_front p (c ∷ cs) d ds none stop =
    rw (true_from_not (p c) none.0) (omega (arith, prefix_front p cs d ds none.1 stop))

-- all characters of the text pass
pub whole_passes : (p : ℕ → Bool) (text : List ℕ) → IsUtf8 text → NoCharPasses (λ d. not (p d)) text
    → text ≡ encode_utf8_all (take_while p (chars text))
whole_passes p text utf8 none =
    let e : none.0 ≡ chars text = chars_from_encodes none.0 text utf8 none.1 in
    let whole : take (prefix_len p none.0) none.0 ≡ none.0 = ap (λ n. take n none.0) (prefix_all p none.0 none.2) ∙ take-length none.0 in
    sym none.1 ∙ ap encode_utf8_all (sym whole ∙ ap (λ cs. take (prefix_len p cs) cs) e)

-- the characters before a place pass, and the one there doesn't
pub front_passes : (p : ℕ → Bool) (text : List ℕ) (i j : ℕ) (c : ℕ) → IsUtf8 text → IsCharBoundary text i
    → NoCharPasses (λ d. not (p d)) (take i text) → not (p c) ≡ true → HasCharAt c text i j
    → take i text ≡ encode_utf8_all (take_while p (chars text))
front_passes p text i j c utf8 cut none stop at =
    let front : none.0 ≡ chars (take i text) = chars_from_encodes none.0 (take i text) (IsUtf8-take text i utf8 cut) none.1 in
    let back : chars (drop i text) ≡ c ∷ chars (drop j text) =
    chars_past_char (drop i text) (drop j text) c (IsUtf8-drop text i utf8 cut) at.split in
    let parts : chars text ≡ none.0 ++ c ∷ chars (drop j text) =
    ap chars (sym (take-append-drop i text)) ∙ (chars-append (take i text) (drop i text) (IsUtf8-take text i utf8 cut) ∙ (ap (λ cs. cs ++ chars (drop i text)) (sym front) ∙ ap (λ cs. none.0 ++ cs) back)) in
    sym none.1 ∙ ap encode_utf8_all (sym (ap (take_while p) parts ∙ (ap (λ n. take n (none.0 ++ c ∷ chars (drop j text))) (prefix_front p none.0 c (chars (drop j text)) none.2 stop) ∙ take_at none.0 (c ∷ chars (drop j text)) (length none.0) refl)))
