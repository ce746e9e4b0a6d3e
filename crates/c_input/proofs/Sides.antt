-- A literal is one word, or stands in brackets.
use Rattle.std.proofs.Common.{◌≡◌, ℕ, suc, ◌<◌, ◌^◌, ◌⊎◌, inl, inr, Bool, true, false, List, [], ◌∷◌, ◌++◌, Some, refl, sym, ap, ◌∙◌, arith}
use Rattle.std.specs.Prelude.{pos, negsuc, neg_ℤ, ◌≤ℤ◌, None, decimal, codes, nat_eq, if◌then◌else◌}
use Rattle.c_token.specs.CTokens.{Word, sign, word, c_tokens, tokens_from}
use Rattle.c_tree.specs.declared.value.Literal.{Literal}
use Rattle.c_tree.specs.declared.value.Literal.TheVariants as literal
use Rattle.c_tree.specs.Names.{text}
use Rattle.c_tree.specs.Values.{literal_spelling, negative}
use Rattle.c_input.specs.Literals.{behind_minus, negative_parts, IsBelow, IsNegative}
use Rattle.c_word.specs.Numbers.{Stops}
use Rattle.std.proofs.lemmas.Bool.{eqb-true}
use Rattle.std.proofs.lemmas.Grind.{common_steps}
use Rattle.std.proofs.lemmas.Int.{ints}

int_side : (b : Bool) (digits : List ℕ) → (if b then text "(-2147483647 - 1)" else negative digits)
    ≡ sign "(" ∷ sign "-" ∷ (if b then word "2147483647" ∷ sign "-" ∷ word "1" ∷ sign ")" ∷ [] else Word digits ∷ sign ")" ∷ [])
unfolding c_tokens tokens_from
int_side true digits = refl
int_side false digits = refl

long_side : (b : Bool) (digits : List ℕ) → (if b then text "(-9223372036854775807L - 1L)" else negative digits)
    ≡ sign "(" ∷ sign "-" ∷ (if b then word "9223372036854775807L" ∷ sign "-" ∷ word "1L" ∷ sign ")" ∷ [] else Word digits ∷ sign ")" ∷ [])
unfolding c_tokens tokens_from
long_side true digits = refl
long_side false digits = refl

pub negative_spelled : (l : Literal) → IsBelow l → literal_spelling l ≡ sign "(" ∷ sign "-" ∷ behind_minus l
negative_spelled (literal.Int (negsuc n)) h = int_side (nat_eq n 2147483647) (decimal (suc n))
negative_spelled (literal.Long (negsuc n)) h = long_side (nat_eq n 9223372036854775807) (decimal (suc n) ++ codes "L")
negative_spelled (literal.Int (pos n)) h = absurd h
negative_spelled (literal.Long (pos n)) h = absurd h
negative_spelled (literal.Unsigned n) h = absurd h
negative_spelled (literal.UnsignedLong n) h = absurd h

pub sides : (l : Literal) → IsBelow l ⊎ ((w : List ℕ) × (literal_spelling l ≡ Word w ∷ []))
sides (literal.Int (pos n)) = inr (decimal n, refl)
sides (literal.Int (negsuc n)) = inl tt
sides (literal.Long (pos n)) = inr (decimal n ++ codes "L", refl)
sides (literal.Long (negsuc n)) = inl tt
sides (literal.Unsigned n) = inr (decimal n ++ codes "u", refl)
sides (literal.UnsignedLong n) = inr (decimal n ++ codes "uL", refl)

-- a literal below zero that isn't the least of its type
pub record IsOrdinary (l : Literal) : Type 0 where
  pub number : ℕ
  pub letters : List ℕ
  pub small : number < 2 ^ 64
  pub stops : Stops letters
  pub parts : negative_parts l ≡ Some (number, letters)
  pub is : behind_minus l ≡ Word (decimal number ++ letters) ∷ sign ")" ∷ []

append_nil : (xs : List ℕ) → xs ++ [] ≡ xs
append_nil xs = grind (arith, common_steps)

within : (n m : ℕ) → neg_ℤ (pos (suc m)) ≤ℤ negsuc n → suc m < 2 ^ 64 → suc n < 2 ^ 64
within n m h k = omega (arith, ints)

pub kinds : (l : Literal) → IsNegative l → (l ≡ literal.Int (negsuc 2147483647)) ⊎ ((l ≡ literal.Long (negsuc 9223372036854775807)) ⊎ IsOrdinary l)
kinds (literal.Int (negsuc n)) h = go (nat_eq n 2147483647) refl
  where
    go : (b : Bool) → nat_eq n 2147483647 ≡ b → (literal.Int (negsuc n) ≡ literal.Int (negsuc 2147483647)) ⊎ ((literal.Int (negsuc n) ≡ literal.Long (negsuc 9223372036854775807)) ⊎ IsOrdinary (literal.Int (negsuc n)))
    go true e = inl (ap (λ k. literal.Int (negsuc k)) (eqb-true n 2147483647 e))
    go false e = inr (inr (record {
      number = suc n;
      letters = [];
      small = within n 2147483647 h.0.0 (omega arith);
      stops = tt;
      parts = ap (λ (t : Bool). if t then None else Some (suc n, [])) e;
      is = ap (λ (t : Bool). if t then word "2147483647" ∷ sign "-" ∷ word "1" ∷ sign ")" ∷ [] else Word (decimal (suc n)) ∷ sign ")" ∷ []) e ∙ ap (λ w. Word w ∷ sign ")" ∷ []) (sym (append_nil (decimal (suc n))));
    }))
kinds (literal.Long (negsuc n)) h = go (nat_eq n 9223372036854775807) refl
  where
    go : (b : Bool) → nat_eq n 9223372036854775807 ≡ b → (literal.Long (negsuc n) ≡ literal.Int (negsuc 2147483647)) ⊎ ((literal.Long (negsuc n) ≡ literal.Long (negsuc 9223372036854775807)) ⊎ IsOrdinary (literal.Long (negsuc n)))
    go true e = inr (inl (ap (λ k. literal.Long (negsuc k)) (eqb-true n 9223372036854775807 e)))
    go false e = inr (inr (record {
      number = suc n;
      letters = codes "L";
      small = within n 9223372036854775807 h.0.0 (omega arith);
      stops = refl;
      parts = ap (λ (t : Bool). if t then None else Some (suc n, codes "L")) e;
      is = ap (λ (t : Bool). if t then word "9223372036854775807L" ∷ sign "-" ∷ word "1L" ∷ sign ")" ∷ [] else Word (decimal (suc n) ++ codes "L") ∷ sign ")" ∷ []) e;
    }))
kinds (literal.Int (pos n)) h = absurd h.1
kinds (literal.Long (pos n)) h = absurd h.1
kinds (literal.Unsigned n) h = absurd h.1
kinds (literal.UnsignedLong n) h = absurd h.1
