-- Literals that are one word.
use Rattle.std.proofs.Common.{◌≡◌, ℕ, suc, ◌<◌, ◌^◌, Bool, true, false, List, [], ◌∷◌, ◌++◌, Some, refl, ◌∙◌, arith}
use Rattle.std.specs.Prelude.{pos, negsuc, ◌≤ℤ◌, decimal, codes, nat_eq, if◌then◌else◌}
use Rattle.std.proofs.lemmas.Grind.{common_steps}
use Rattle.std.proofs.lemmas.Int.{ints}
use Rattle.c_token.specs.CTokens.{CToken, Word, c_tokens, tokens_from}
use Rattle.c_word.specs.Numbers.{Stops}
use Rattle.c_tree.specs.declared.value.Literal.{Literal}
use Rattle.c_tree.specs.declared.value.Literal.TheVariants as literal
use Rattle.c_tree.specs.Forms.{IsLiteral}
use Rattle.c_tree.specs.Names.{text}
use Rattle.c_tree.specs.Values.{literal_spelling, negative}
use Rattle.c_input.specs.Literals.{plain_parts}

pub record IsWord (l : Literal) (w : List ℕ) (more : List CToken) : Type 0 where
  pub number : ℕ
  pub letters : List ℕ
  pub parts : plain_parts l ≡ Some (number, letters)
  pub small : number < 2 ^ 64
  pub stops : Stops letters
  pub is : decimal number ++ letters ≡ w
  pub rest : more ≡ []

append_nil : (xs : List ℕ) → xs ++ [] ≡ xs
append_nil xs = grind (arith, common_steps)

below : (n m : ℕ) → pos n ≤ℤ pos m → m < 2 ^ 64 → n < 2 ^ 64
below n m h k = omega (arith, ints)

no_word : (b : Bool) (digits : List ℕ) (w : List ℕ) (more : List CToken) → (if b then text "(-2147483647 - 1)" else negative digits) ≡ Word w ∷ more → ⊥
unfolding c_tokens tokens_from
no_word true digits w more e = cc
no_word false digits w more e = cc

no_long_word : (b : Bool) (digits : List ℕ) (w : List ℕ) (more : List CToken) → (if b then text "(-9223372036854775807L - 1L)" else negative digits) ≡ Word w ∷ more → ⊥
unfolding c_tokens tokens_from
no_long_word true digits w more e = cc
no_long_word false digits w more e = cc

pub literal_word : (l : Literal) (w : List ℕ) (more : List CToken) → IsLiteral l → literal_spelling l ≡ Word w ∷ more → IsWord l w more
literal_word (literal.Int (pos n)) w more h e = record { number = n; letters = []; parts = refl; small = below n _ h.1 (omega arith); stops = tt; is = append_nil (decimal n) ∙ cc; rest = cc }
literal_word (literal.Int (negsuc n)) w more h e = absurd (no_word (nat_eq n 2147483647) (decimal (suc n)) w more e)
literal_word (literal.Unsigned n) w more h e = record { number = n; letters = codes "u"; parts = refl; small = omega (arith, h); stops = refl; is = cc; rest = cc }
literal_word (literal.Long (pos n)) w more h e = record { number = n; letters = codes "L"; parts = refl; small = below n _ h.1 (omega arith); stops = refl; is = cc; rest = cc }
literal_word (literal.Long (negsuc n)) w more h e = absurd (no_long_word (nat_eq n 9223372036854775807) (decimal (suc n) ++ codes "L") w more e)
literal_word (literal.UnsignedLong n) w more h e = record { number = n; letters = codes "uL"; parts = refl; small = h; stops = refl; is = cc; rest = cc }
