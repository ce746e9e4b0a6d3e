-- Readers of forms: they go through the tokens once, and look one token ahead.
use Rattle.std.specs.Prelude.{ℕ, zero, suc, Bool, true, false, cond, List, [], ◌∷◌, length}
use Rattle.forms.specs.Forms.{Set}

-- why a reader stops: no sentence goes on with the next token, or it passes the limit of that number
pub data Fault : Type 0 where
  unexpected : Fault
  limit : ℕ → Fault

-- a value and what is left, or a fault and what begins with the token that is at fault
pub data Outcome (T A : Type 0) : Type 0 where
  did : A → List T → Outcome T A
  bad : Fault → List T → Outcome T A

abbrev pub Reader : Type 0 → Type 0 → Type 0
Reader T A = List T → Outcome T A

abbrev pub and_then : {T A B : Type 0} → Outcome T A → (A → Reader T B) → Outcome T B
and_then (did a rest) f = f a rest
and_then (bad e rest) f = bad e rest

-- the tokens begin with one of the set
abbrev pub sees : {T : Type 0} → Set T → List T → Bool
sees b [] = false
sees b (x ∷ ts) = b x

unfoldable pub read_nothing : {T A : Type 0} → A → Reader T A
read_nothing a ts = did a ts

unfoldable pub read_one : {T A : Type 0} → Set T → (T → A) → Reader T A
read_one b value [] = bad unexpected []
read_one b value (x ∷ ts) = cond (b x) (did (value x) ts) (bad unexpected (x ∷ ts))

unfoldable pub read_both : {T A B C : Type 0} → (A → B → C) → Reader T A → Reader T B → Reader T C
read_both f p q ts = and_then (p ts) (λ a us. and_then (q us) (λ b vs. did (f a b) vs))

-- the first where the next token is of the set, else the second
unfoldable pub read_or : {T A : Type 0} → Set T → Reader T A → Reader T A → Reader T A
read_or b p q ts = cond (sees b ts) (p ts) (q ts)

unfoldable pub read_placed : {T A B : Type 0} → (T → A → B) → Reader T A → Reader T B
read_placed f p [] = bad unexpected []
read_placed f p (x ∷ ts) = and_then (p (x ∷ ts)) (λ a rest. did (f x a) rest)

abbrev pub limit_at : {T A : Type 0} → (T → ℕ) → List T → Outcome T A
limit_at number [] = bad unexpected []
limit_at number (x ∷ ts) = bad (limit (number x)) (x ∷ ts)

-- where there is no room for the form: a token with which it begins passes the limit
unfoldable pub refuse : {T A : Type 0} → Set T → (T → ℕ) → Reader T A
refuse b number ts = cond (sees b ts) (limit_at number ts) (bad unexpected ts)

unfoldable pub read_guard : {T A : Type 0} → Bool → Set T → (T → ℕ) → Reader T A → Reader T A
read_guard true b number p = p
read_guard false b number p = refuse b number

-- ---- any number of turns

-- at most n turns
unfoldable pub read_turns : {T A : Type 0} → ℕ → (Reader T A → Reader T A) → A → Reader T A
read_turns zero turn v = read_nothing v
read_turns (suc n) turn v = turn (read_turns n turn v)

-- Each turn takes a token, so there are no more of them than tokens.
unfoldable pub read_turned : {T A : Type 0} → (Reader T A → Reader T A) → A → Reader T A
read_turned turn v ts = read_turns (length ts) turn v ts

abbrev pub cons : {A : Type 0} → A → List A → List A
cons x xs = x ∷ xs

abbrev pub read_one_more : {T A : Type 0} → Set T → Reader T A → Reader T (List A) → Reader T (List A)
read_one_more b p q = read_or b (read_both cons p q) (read_nothing [])

-- any number of times
unfoldable pub read_many : {T A : Type 0} → Set T → Reader T A → Reader T (List A)
read_many b p = read_turned (read_one_more b p) []

-- ---- parts of outcomes

abbrev pub rest_of : {T A : Type 0} → Outcome T A → List T
rest_of (did a rest) = rest
rest_of (bad e rest) = rest

abbrev pub put : {T A : Type 0} → List T → Outcome T A → Outcome T A
put us (did a rest) = did a us
put us (bad e rest) = bad e us
