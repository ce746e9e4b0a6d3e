-- What it is for a reader to be exact for a form, and what an exact reader answers.
use Rattle.std.specs.Prelude.{◌≡◌, ℕ, Bool, false, List, [], ◌∷◌, ◌++◌, Option, Some, None}
use Rattle.forms.specs.Forms.{Mark, plain, IsClean, Form, Set, Sentences}
use Rattle.forms.specs.Readers.{Fault, unexpected, limit, Outcome, did, bad, Reader, sees, rest_of, put}

-- ---- what is read of a sentence

abbrev pub marked : {T A : Type 0} → Option ℕ → Outcome T A → List T → Outcome T A
marked None o ts = o
marked (Some n) o ts = bad (limit n) ts

-- its value, or the first limit that it passes
abbrev pub expected : {T A : Type 0} → List (Mark T) → A → List T → Outcome T A
expected [] a rest = did a rest
expected (x ∷ front) a rest = marked x.1 (expected front a rest) (x.0 ∷ (plain front ++ rest))

-- A sentence begins with the front; for a limit, with the front and the next token, which passes that limit.
abbrev pub Goes : {T A : Type 0} → Form T A → Fault → List (Mark T) → List T → Type 0
Goes {T} {A} L unexpected front rest = (later : List (Mark T)) × (a : A) × L (front ++ later) a
Goes L (limit n) front [] = ⊥
Goes {T} {A} L (limit n) front (x ∷ rest) = (later : List (Mark T)) × (a : A) × L (front ++ (x, Some n) ∷ later) a

-- ---- the laws

-- `more` has the tokens with which a sentence may go on.
pub record Exact (T A : Type 0) (L : Form T A) (p : Reader T A) (empty : Bool) (begins more : Set T) : Type 0 where
  pub sentences : Sentences T A L empty begins
  -- what is read is a sentence within the limits
  pub sound : (ts rest : List T) (a : A) → p ts ≡ did a rest → (front : List (Mark T)) × (ts ≡ plain front ++ rest) × L front a × IsClean front
  -- a sentence that no token follows with which it may go on is read
  pub takes : (front : List (Mark T)) (rest : List T) (a : A) → L front a → sees more rest ≡ false → p (plain front ++ rest) ≡ expected front a rest
  -- what stands before a fault begins a sentence
  pub viable : (ts rest : List T) (e : Fault) → p ts ≡ bad e rest → (front : List (Mark T)) × (ts ≡ plain front ++ rest) × IsClean front × Goes L e front rest
  -- no token after the next one matters
  pub near : (front mid r s : List T) (x : T) → rest_of (p (front ++ (mid ++ x ∷ r))) ≡ mid ++ x ∷ r
      → p (front ++ (mid ++ x ∷ s)) ≡ put (mid ++ x ∷ s) (p (front ++ (mid ++ x ∷ r)))
  -- where a token is unexpected, the end is too
  pub ends : (front r : List T) (x : T) → p (front ++ x ∷ r) ≡ bad unexpected (x ∷ r) → p front ≡ bad unexpected []

-- ---- the answer, said without the reader

-- some sentence begins with these tokens
abbrev pub Starts : {T A : Type 0} → Form T A → List T → Type 0
Starts {T} {A} L ts = (front : List (Mark T)) × (later : List (Mark T)) × (a : A) × (plain front ≡ ts) × L (front ++ later) a

-- no sentence begins with these tokens and the next
abbrev pub Stops : {T A : Type 0} → Form T A → List T → List T → Type 0
Stops L ts [] = Unit {0}
Stops L ts (x ∷ rest) = Starts L (ts ++ x ∷ []) → ⊥

-- No sentence that begins with the tokens of the run passes a limit in it.
abbrev pub Keeps : {T A : Type 0} → Form T A → List (Mark T) → Type 0
Keeps {T} {A} L run = (front later : List (Mark T)) (a : A) → plain front ≡ plain run → L (front ++ later) a → IsClean front

-- The run, which is as many tokens as some sentence begins with, spells this value alone, within the limits.
pub record Found (T A : Type 0) (L : Form T A) (ts rest : List T) (a : A) : Type 0 where
  pub run : List (Mark T)
  pub cut : ts ≡ plain run ++ rest
  pub spelled : L run a
  pub clean : Keeps L run
  pub only : (other : List (Mark T)) (b : A) → plain other ≡ plain run → L other b → b ≡ a
  pub longest : Stops L (plain run) rest

-- The run is within the limits so far, and no sentence.
pub record Wrong (T A : Type 0) (L : Form T A) (ts rest : List T) : Type 0 where
  pub run : List (Mark T)
  pub cut : ts ≡ plain run ++ rest
  pub goes : (later : List (Mark T)) × (a : A) × L (run ++ later) a
  pub clean : Keeps L run
  pub none : (other : List (Mark T)) (a : A) → plain other ≡ plain run → L other a → ⊥
  pub longest : Stops L (plain run) rest

-- Some sentence begins with the tokens up to the one at hand; each that does passes this limit there, and none before.
pub record Passed (T A : Type 0) (L : Form T A) (number : ℕ) (ts rest : List T) : Type 0 where
  pub before : List T
  pub token : T
  pub after : List T
  pub cut : ts ≡ before ++ token ∷ after
  pub here : rest ≡ token ∷ after
  pub goes : Starts L (before ++ token ∷ [])
  pub passes : (front : List (Mark T)) (mark : Mark T) (later : List (Mark T)) (a : A) → plain front ≡ before → mark.0 ≡ token
      → L (front ++ mark ∷ later) a → IsClean front × (mark.1 ≡ Some number)

abbrev pub Answers : {T A : Type 0} → Form T A → List T → Outcome T A → Type 0
Answers {T} {A} L ts (did a rest) = Found T A L ts rest a
Answers {T} {A} L ts (bad unexpected rest) = Wrong T A L ts rest
Answers {T} {A} L ts (bad (limit n) rest) = Passed T A L n ts rest

-- No tokens spell two values within the limits.
abbrev pub SpellsOne : {T A : Type 0} → Form T A → Type 0
SpellsOne {T} {A} L = (us vs : List (Mark T)) (a c : A) → L us a → IsClean us → L vs c → plain vs ≡ plain us → c ≡ a

-- Whoever reads a form exactly answers the one value of the longest run, or the first token that is wrong or passes a limit.
abbrev pub ExactReadersAnswer : Type 1
ExactReadersAnswer = (T A : Type 0) (L : Form T A) (p : Reader T A) (e : Bool) (b m : Set T) → Exact T A L p e b m → (ts : List T) → Answers L ts (p ts)
