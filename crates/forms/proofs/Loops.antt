-- A loop that collects, beside `read_many`.
use Rattle.std.proofs.Common.{◌≡◌, ℕ, suc, ◌+◌, ◌-◌, ◌<◌, ◌≤◌, true, false, List, [], ◌∷◌, ◌++◌, length, refl, sym, ◌∙◌, ap, append_assoc, append-nil, arith}
use Rattle.forms.specs.Forms.{Set}
use Rattle.forms.specs.Readers.{Fault, Outcome, did, bad, Reader, and_then, sees, read_nothing, read_turns, read_turned, read_one_more, read_many}
use Rattle.forms.proofs.Facts.{or_this, or_that}
use Rattle.forms.proofs.Pair.{both_then, both_at_first}

-- what was collected, and then what the rest gives
abbrev pub with_front : {T A : Type 0} → List A → Outcome T (List A) → Outcome T (List A)
with_front found o = and_then o (λ xs r. did (found ++ xs) r)

again : {T A : Type 0} (o : Outcome T (List A)) → o ≡ with_front [] o
again (did xs r) = refl
again (bad e r) = refl

shift : {T A : Type 0} (found : List A) (a : A) (o : Outcome T (List A)) → with_front found (and_then o (λ xs r. did (a ∷ xs) r)) ≡ with_front (found ++ a ∷ []) o
shift found a (did xs r) = ap (λ z. did z r) (sym (append_assoc found (a ∷ []) xs))
shift found a (bad e r) = refl

-- what a loop reads from now on, with so many turns left
abbrev pub left : {T A : Type 0} → ℕ → Set T → Reader T A → Reader T (List A)
left n b p = read_turns n (read_one_more b p) []

pub loop_begins : {T A : Type 0} (b : Set T) (p : Reader T A) (ts : List T) (n : ℕ) → n ≡ length ts → read_many b p ts ≡ with_front [] (left (n - 0) b p ts)
unfolding read_many read_turned
loop_begins b p ts n h = let e : n - 0 ≡ length ts = omega arith in again (left (length ts) b p ts) ∙ ap (λ k. with_front [] (left k b p ts)) (sym e)

module _ (T A : Type 0) (b : Set T) (p : Reader T A) (all : Outcome T (List A)) (found : List A) (n at : ℕ) (ts : List T) where
  one_more : at < n → all ≡ with_front found (left (n - at) b p ts) → all ≡ with_front found (left (suc (n - (at + 1))) b p ts)
  one_more h e = let k : n - at ≡ suc (n - (at + 1)) = omega arith in e ∙ ap (λ z. with_front found (left z b p ts)) k

  pub loop_stops : at < n → all ≡ with_front found (left (n - at) b p ts) → sees b ts ≡ false → all ≡ did found ts
  unfolding read_turns read_nothing
  loop_stops h e g = one_more h e ∙ ap (with_front found) (or_that b _ _ ts g) ∙ ap (λ z. did z ts) (append-nil found)

  pub loop_fails : (e : Fault) (r : List T) → at < n → all ≡ with_front found (left (n - at) b p ts) → sees b ts ≡ true → p ts ≡ bad e r → all ≡ bad e r
  unfolding read_turns
  loop_fails f r h e g k = one_more h e ∙ ap (with_front found) (or_this b _ _ ts g ∙ both_at_first _ p _ ts r f k)

  pub loop_goes_on : (a : A) (r : List T) → at < n → all ≡ with_front found (left (n - at) b p ts) → sees b ts ≡ true → p ts ≡ did a r → all ≡ with_front (found ++ a ∷ []) (left (n - (at + 1)) b p r)
  unfolding read_turns
  loop_goes_on a r h e g k = one_more h e ∙ ap (with_front found) (or_this b _ _ ts g ∙ both_then _ p _ ts r a _ k refl) ∙ shift found a (left (n - (at + 1)) b p r)

  pub loop_ends : n ≤ at → all ≡ with_front found (left (n - at) b p ts) → all ≡ did found ts
  unfolding read_turns read_nothing
  loop_ends h e = let k : n - at ≡ 0 = omega arith in e ∙ ap (λ z. with_front found (left z b p ts)) k ∙ ap (λ z. did z ts) (append-nil found)
