-- Forms of a grammar: which tokens spell which values, and at which of these tokens a limit is passed.
-- The combinators are those of the extended Backus-Naur form (ISO/IEC 14977); the marks are the project's own.
use Rattle.std.specs.Prelude.{◌≡◌, ℕ, Bool, true, false, ◌&&◌, ◌||◌, List, [], ◌∷◌, ◌++◌, Option, Some, None}

-- a token, and the number of the limit that is passed at it
abbrev pub Mark : Type 0 → Type 0
Mark T = T × Option ℕ

-- the tokens without their marks
abbrev pub plain : {T : Type 0} → List (Mark T) → List T
plain [] = []
plain (x ∷ xs) = x.0 ∷ plain xs

-- no limit is passed
abbrev pub IsClean : {T : Type 0} → List (Mark T) → Type 0
IsClean [] = Unit {0}
IsClean (x ∷ xs) = (x.1 ≡ None) × IsClean xs

-- the marked tokens spell the value
abbrev pub Form : Type 0 → Type 0 → Type 1
Form T A = List (Mark T) → A → Type 0

-- ---- sets of tokens

abbrev pub Set : Type 0 → Type 0
Set T = T → Bool

abbrev pub none : {T : Type 0} → Set T
none x = false

abbrev pub either : {T : Type 0} → Set T → Set T → Set T
either a b x = a x || b x

-- the set, where the condition holds
abbrev pub kept : {T : Type 0} → Bool → Set T → Set T
kept e a x = e && a x

-- no token is in both
abbrev pub Apart : {T : Type 0} → Set T → Set T → Type 0
Apart {T} a b = (x : T) → a x ≡ true → b x ≡ false

-- ---- combinators

-- one token of the set
pub record One (T A : Type 0) (b : Set T) (value : T → A) (ts : List (Mark T)) (a : A) : Type 0 where
  pub token : T
  pub is : ts ≡ (token, None) ∷ []
  pub fits : b token ≡ true
  pub made : a ≡ value token

abbrev pub one : {T A : Type 0} → Set T → (T → A) → Form T A
one {T} {A} b value = One T A b value

-- one form after another
pub record Both (T A B C : Type 0) (f : A → B → C) (L : Form T A) (M : Form T B) (ts : List (Mark T)) (c : C) : Type 0 where
  pub a : A
  pub b : B
  pub front : List (Mark T)
  pub back : List (Mark T)
  pub cut : ts ≡ front ++ back
  pub left : L front a
  pub right : M back b
  pub made : c ≡ f a b

abbrev pub both : {T A B C : Type 0} → (A → B → C) → Form T A → Form T B → Form T C
both {T} {A} {B} {C} f L M = Both T A B C f L M

-- no token
abbrev pub nothing : {T A : Type 0} → A → Form T A
nothing v ts a = (ts ≡ []) × (a ≡ v)

-- one of two forms
pub data Or (T A : Type 0) (L M : Form T A) (ts : List (Mark T)) (a : A) : Type 0 where
  this : L ts a → Or T A L M ts a
  that : M ts a → Or T A L M ts a

abbrev pub or : {T A : Type 0} → Form T A → Form T A → Form T A
or {T} {A} L M = Or T A L M

-- one text after another
pub record Cut (T : Type 0) (P Q : List (Mark T) → Type 0) (ts : List (Mark T)) : Type 0 where
  pub front : List (Mark T)
  pub back : List (Mark T)
  pub cut : ts ≡ front ++ back
  pub left : P front
  pub right : Q back

-- any number of times the form
abbrev pub many : {T A : Type 0} → Form T A → List (Mark T) → List A → Type 0
many L ts [] = ts ≡ []
many {T} L ts (a ∷ more) = Cut T (λ us. L us a) (λ us. many L us more) ts

-- the form, with its first token at hand
pub record Placed (T A B : Type 0) (f : T → A → B) (L : Form T A) (ts : List (Mark T)) (b : B) : Type 0 where
  pub token : Mark T
  pub later : List (Mark T)
  pub a : A
  pub is : ts ≡ token ∷ later
  pub inside : L ts a
  pub made : b ≡ f token.0 a

abbrev pub placed : {T A B : Type 0} → (T → A → B) → Form T A → Form T B
placed {T} {A} {B} f L = Placed T A B f L

-- the form, which passes a limit at its first token
pub record Over (T A : Type 0) (number : T → ℕ) (L : Form T A) (ts : List (Mark T)) (a : A) : Type 0 where
  pub token : Mark T
  pub later : List (Mark T)
  pub inside : L (token ∷ later) a
  pub is : ts ≡ (token.0, Some (number token.0)) ∷ later

abbrev pub over : {T A : Type 0} → (T → ℕ) → Form T A → Form T A
over {T} {A} number L = Over T A number L

-- the form where there is room for it; else it passes a limit at its first token
abbrev pub guard : {T A : Type 0} → Bool → (T → ℕ) → Form T A → Form T A
guard true number L = L
guard false number L = over number L

-- ---- what a form's sentences begin with

-- Tokens that begin with one of the set, or none where that is allowed.
abbrev pub Begins : {T : Type 0} → Bool → Set T → List T → Type 0
Begins e b [] = e ≡ true
Begins e b (x ∷ ts) = b x ≡ true

pub record Sentence (T A : Type 0) (L : Form T A) : Type 0 where
  pub tokens : List (Mark T)
  pub value : A
  pub spelled : L tokens value

-- The sentences begin with the tokens of the set, and with no others; there is one, and where it may be empty an empty one.
pub record Sentences (T A : Type 0) (L : Form T A) (empty : Bool) (begins : Set T) : Type 0 where
  pub first : (front : List (Mark T)) (a : A) → L front a → Begins empty begins (plain front)
  pub some : Sentence T A L
  pub blank : empty ≡ true → (a : A) × L [] a
  pub starts : (x : T) → begins x ≡ true → (o : Option ℕ) × (later : List (Mark T)) × (a : A) × L ((x, o) ∷ later) a
