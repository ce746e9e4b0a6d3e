-- The laws of forms, with sets of classes. Their conditions on sets compute, so each is `refl`.
use Rattle.std.proofs.Common.{◌≡◌, ℕ, Bool, true, false, not, ◌&&◌, ◌||◌, List, refl, sym, ap, ◌∙◌}
use Rattle.std.specs.Prelude.{Option, Some, None}
use Rattle.pyx_lex.specs.declared.token.Token.{Token}
use Rattle.token_class.specs.declared.class.TokenClass.{TokenClass}
use Rattle.token_class.specs.Classes.{class_of}
use Rattle.token_class.specs.Every.{every}
use Rattle.token_class.specs.Sets.{Classes, of}
use Rattle.token_class.proofs.EveryOne.{every_one}
use Rattle.token_class.proofs.Samples.{class_for, sample}
use Rattle.forms.specs.Forms.{Form, none, either, kept, Apart, one, both, nothing, or, many, placed, over, guard, Sentence, Sentences}
use Rattle.forms.specs.Readers.{Reader, read_nothing, read_one, read_both, read_or, read_placed, read_guard, read_many, refuse}
use Rattle.forms.specs.Lists.{Row, trail, trail_upto, read_trail, read_trail_upto, many_upto, read_many_upto}
use Rattle.forms.specs.Exact.{Exact}
use Rattle.forms.proofs.Beginnings.{sentences_one, sentences_opened, some_one}
use Rattle.forms.proofs.OneLaws.{one_exact, nothing_exact}
use Rattle.forms.proofs.BothLaws.{both_exact}
use Rattle.forms.proofs.OrLaws.{or_exact}
use Rattle.forms.proofs.GuardLaws.{guard_exact, over_exact, placed_exact, exact_sets}
use Rattle.forms.proofs.Facts.{or_false}
use Rattle.forms.proofs.ListLaws.{or_no, or_off, many_exact, many_upto_exact}
use Rattle.forms.proofs.TrailLaws.{trail_exact, trail_upto_exact}

-- ---- tests

abbrev pub bool_same : Bool → Bool → Bool
bool_same true b = b
bool_same false b = not b

not_both : (a b : Bool) → not (a && b) ≡ true → a ≡ true → b ≡ false
not_both true true h k = sym h
not_both true false h k = refl
not_both false b h k = cc

same_bools : (a b : Bool) → bool_same a b ≡ true → a ≡ b
same_bools true true h = refl
same_bools true false h = sym h
same_bools false true h = h
same_bools false false h = refl

within_bools : (a b : Bool) → (not a || b) ≡ true → b ≡ false → a ≡ false
within_bools true true h k = k
within_bools true false h k = sym h
within_bools false b h k = refl

apart : (a b : Classes) → every (λ x. not (a x && b x)) ≡ true → Apart (of a) (of b)
apart a b h t k = let x = class_of t.kind in not_both (a x) (b x) (every_one (λ x. not (a x && b x)) h x) k

-- ---- forms of tokens by their classes

pub record ExactFor (A : Type 0) (L : Form Token A) (p : Reader Token A) (empty : Bool) (begins more : Classes) : Type 0 where
  pub exact : Exact Token A L p empty (of begins) (of more)

pub record SentencesFor (A : Type 0) (L : Form Token A) (begins : Classes) : Type 0 where
  pub sentences : Sentences Token A L false (of begins)

pub token : {A : Type 0} (b : Classes) (value : Token → A) (x : TokenClass) → b x ≡ true → ExactFor A (one (of b) value) (read_one (of b) value) false b none
token {A} b value x h = record { exact = one_exact Token A (of b) value (sample x) (ap b (class_for x) ∙ h) }

pub empty : {A : Type 0} (v : A) → ExactFor A (nothing v) (read_nothing v) true none none
empty {A} v = record { exact = nothing_exact Token A v }

pub seq : {A B C : Type 0} {L : Form Token A} {M : Form Token B} {p : Reader Token A} {q : Reader Token B} {e1 e2 : Bool} {b1 b2 m1 m2 : Classes} (f : A → B → C)
    → ExactFor A L p e1 b1 m1 → ExactFor B M q e2 b2 m2 → every (λ x. not (b2 x && m1 x)) ≡ true
    → ExactFor C (both f L M) (read_both f p q) (e1 && e2) (either b1 (kept e1 b2)) (either m2 (kept e2 m1))
seq {A} {B} {C} {L} {M} {p} {q} {e1} {e2} {b1} {b2} {m1} {m2} f X Y h = record { exact = both_exact Token A B C f L M p q e1 e2 (of b1) (of b2) (of m1) (of m2) X.exact Y.exact (apart b2 m1 h) }

pub choose : {A : Type 0} {L M : Form Token A} {p q : Reader Token A} {e2 : Bool} {b1 b2 m1 m2 : Classes} → ExactFor A L p false b1 m1 → ExactFor A M q e2 b2 m2 → every (λ x. not (b2 x && b1 x)) ≡ true
    → ExactFor A (or L M) (read_or (of b1) p q) e2 (either b1 b2) (either (either m1 m2) (kept e2 b1))
choose {A} {L} {M} {p} {q} {e2} {b1} {b2} {m1} {m2} X Y h = record { exact = or_exact Token A L M p q e2 (of b1) (of b2) (of m1) (of m2) X.exact Y.exact (apart b2 b1 h) }

pub place : {A B : Type 0} {L : Form Token A} {p : Reader Token A} {b m : Classes} (f : Token → A → B) → ExactFor A L p false b m → ExactFor B (placed f L) (read_placed f p) false b m
place {A} {B} {L} {p} {b} {m} f X = record { exact = placed_exact Token A B f L p (of b) (of m) X.exact }

pub loop : {A : Type 0} {L : Form Token A} {p : Reader Token A} {b m : Classes} → ExactFor A L p false b m → every (λ x. not (b x && m x)) ≡ true → ExactFor (List A) (many L) (read_many (of b) p) true b (either m b)
loop {A} {L} {p} {b} {m} X h = record { exact = many_exact Token A L p (of b) (of m) X.exact (apart b m h) }

pub loop_upto : {A : Type 0} {L M : Form Token A} {p q : Reader Token A} {b m : Classes} (n : ℕ) → ExactFor A L p false b m → ExactFor A M q false b m → every (λ x. not (b x && m x)) ≡ true
    → ExactFor (List A) (many_upto n L M) (read_many_upto n (of b) p q) true b (either m b)
loop_upto {A} {L} {M} {p} {q} {b} {m} n X Y h = record { exact = many_upto_exact Token A L p (of b) (of m) X.exact (apart b m h) n M q Y.exact }

pub list : {A : Type 0} {L : Form Token A} {p : Reader Token A} {b m : Classes} (sep : Classes) (x : TokenClass) → sep x ≡ true → ExactFor A L p false b m → every (λ x. not (sep x && m x)) ≡ true
    → ExactFor (Row A) (trail (of sep) L) (read_trail (of sep) (of b) p) true sep (either sep (either b m))
list {A} {L} {p} {b} {m} sep x k X h = record { exact = trail_exact Token A (of sep) (sample x) (ap sep (class_for x) ∙ k) L p (of b) (of m) X.exact (apart sep m h) }

pub list_upto : {A : Type 0} {L : Form Token A} {p : Reader Token A} {b m : Classes} (n : ℕ) (sep : Classes) (number : Token → ℕ) (x : TokenClass) → sep x ≡ true → ExactFor A L p false b m → every (λ x. not (sep x && m x)) ≡ true
    → ExactFor (Row A) (trail_upto n (of sep) number L) (read_trail_upto n (of sep) (of b) number p) true sep (either sep (either b m))
list_upto {A} {L} {p} {b} {m} n sep number x k X h = record { exact = trail_upto_exact Token A (of sep) (sample x) (ap sep (class_for x) ∙ k) L p (of b) (of m) X.exact (apart sep m h) n number }

-- a form that begins with a token of the set
pub opened : {A B C : Type 0} {M : Form Token B} (f : A → B → C) (b : Classes) (value : Token → A) (x : TokenClass) → b x ≡ true → Sentence Token B M → SentencesFor C (both f (one (of b) value) M) b
opened {A} {B} {C} {M} f b value x h some = record { sentences = sentences_opened Token A B C f (one (of b) value) M (of b) (sentences_one Token A (of b) value (sample x) (ap b (class_for x) ∙ h)) some }

pub some_token : {A : Type 0} (b : Classes) (value : Token → A) (x : TokenClass) → b x ≡ true → Sentence Token A (one (of b) value)
some_token b value x h = some_one (of b) value (sample x) (ap b (class_for x) ∙ h)

pub within_room : {A : Type 0} {L : Form Token A} {p : Reader Token A} {b m : Classes} (r : Bool) (number : Token → ℕ) → SentencesFor A L b → (r ≡ true → ExactFor A L p false b m)
    → ExactFor A (guard r number L) (read_guard r (of b) number p) false b m
within_room {A} {L} {p} {b} {m} r number S X = record { exact = guard_exact Token A number r L p (of b) (of m) S.sentences (λ h. (X h).exact) }

pub passing : {A : Type 0} {L : Form Token A} {p : Reader Token A} {b m : Classes} (number : Token → ℕ) → ExactFor A L p false b m → ExactFor A (over number L) (refuse (of b) number) false b m
passing {A} {L} {p} {b} {m} number X = record { exact = over_exact Token A number L (of b) (of m) X.exact.sentences }

-- the same sets, and no fewer classes with which it may go on
pub sets : {A : Type 0} {L : Form Token A} {p : Reader Token A} {e : Bool} {b m : Classes} (c n : Classes) → every (λ x. bool_same (b x) (c x)) ≡ true → every (λ x. not (m x) || n x) ≡ true → ExactFor A L p e b m → ExactFor A L p e c n
sets {A} {L} {p} {e} {b} {m} c n h g X = record {
  exact = exact_sets Token A L p e (of b) (of m) (of c) (of n)
      (λ t. let x = class_of t.kind in same_bools (b x) (c x) (every_one (λ x. bool_same (b x) (c x)) h x))
      (λ t k. let x = class_of t.kind in within_bools (m x) (n x) (every_one (λ x. not (m x) || n x) g x) k) X.exact;
}

-- ---- the same, where less may be empty

-- two forms, neither of which may be empty
pub after : {A B C : Type 0} {L : Form Token A} {M : Form Token B} {p : Reader Token A} {q : Reader Token B} {b1 b2 m1 m2 : Classes} (f : A → B → C)
    → ExactFor A L p false b1 m1 → ExactFor B M q false b2 m2 → every (λ x. not (b2 x && m1 x)) ≡ true → ExactFor C (both f L M) (read_both f p q) false b1 m2
after {A} {B} {C} {L} {M} {p} {q} {b1} {b2} {m1} {m2} f X Y h = record {
  exact = exact_sets Token C (both f L M) (read_both f p q) false (of (either b1 (kept false b2))) (of (either m2 (kept false m1))) (of b1) (of m2)
      (λ t. or_no (b1 (class_of t.kind))) (λ t k. or_off (m2 (class_of t.kind)) false k refl) (seq f X Y h).exact;
}

-- the second may be empty
pub after_maybe : {A B C : Type 0} {L : Form Token A} {M : Form Token B} {p : Reader Token A} {q : Reader Token B} {b1 b2 m1 m2 : Classes} (f : A → B → C)
    → ExactFor A L p false b1 m1 → ExactFor B M q true b2 m2 → every (λ x. not (b2 x && m1 x)) ≡ true → ExactFor C (both f L M) (read_both f p q) false b1 (either m2 m1)
after_maybe {A} {B} {C} {L} {M} {p} {q} {b1} {b2} {m1} {m2} f X Y h = record {
  exact = exact_sets Token C (both f L M) (read_both f p q) false (of (either b1 (kept false b2))) (of (either m2 (kept true m1))) (of b1) (of (either m2 m1))
      (λ t. or_no (b1 (class_of t.kind))) (λ t k. k) (seq f X Y h).exact;
}

pub either_of : {A : Type 0} {L M : Form Token A} {p q : Reader Token A} {b1 b2 m1 m2 : Classes} → ExactFor A L p false b1 m1 → ExactFor A M q false b2 m2 → every (λ x. not (b2 x && b1 x)) ≡ true
    → ExactFor A (or L M) (read_or (of b1) p q) false (either b1 b2) (either m1 m2)
either_of {A} {L} {M} {p} {q} {b1} {b2} {m1} {m2} X Y h = record {
  exact = exact_sets Token A (or L M) (read_or (of b1) p q) false (of (either b1 b2)) (of (either (either m1 m2) (kept false b1))) (of (either b1 b2)) (of (either m1 m2))
      (λ t. refl) (λ t k. or_off (either m1 m2 (class_of t.kind)) false k refl) (choose X Y h).exact;
}

-- the form or nothing
pub maybe : {A : Type 0} {L : Form Token A} {p : Reader Token A} {b m : Classes} (v : A) → ExactFor A L p false b m → ExactFor A (or L (nothing v)) (read_or (of b) p (read_nothing v)) true b (either m b)
maybe {A} {L} {p} {b} {m} v X = record {
  exact = exact_sets Token A (or L (nothing v)) (read_or (of b) p (read_nothing v)) true (of (either b none)) (of (either (either m none) (kept true b))) (of b) (of (either m b))
      (λ t. or_no (b (class_of t.kind)))
      (λ t k. let u = or_false (m (class_of t.kind)) (b (class_of t.kind)) k in or_off (either m none (class_of t.kind)) (kept true b (class_of t.kind)) (or_off (m (class_of t.kind)) false u.0 refl) u.1)
      (or_exact Token A L (nothing v) p (read_nothing v) true (of b) none (of m) none X.exact (nothing_exact Token A v) (λ x k. cc));
}

-- an optional form
abbrev pub only : {A : Type 0} → A → Unit {0} → Option A
only a u = Some a

pub optional : {A : Type 0} {L : Form Token A} {p : Reader Token A} {b m : Classes} → ExactFor A L p false b m
    → ExactFor (Option A) (or (both only L (nothing tt)) (nothing None)) (read_or (of b) (read_both only p (read_nothing tt)) (read_nothing None)) true b (either (either none m) b)
optional X = maybe None (after_maybe only X (empty tt) refl)
