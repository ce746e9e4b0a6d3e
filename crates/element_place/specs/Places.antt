-- Elements of a view: at which byte places they stand, and of which types (Python/C API manual, "Buffer Protocol"; Cython
-- documentation, "Typed Memoryviews").
use Rattle.std.specs.Prelude.{◌≡◌, ℕ, zero, suc, Bool, false, not, ◌&&◌, ◌||◌, List, [], ◌∷◌, Option, Some, None, ℤ, pos, negsuc, nat_eq, codes, ◌-ℤ◌, ◌*ℤ◌, ◌<ℤ◌}
use Rattle.std.specs.List.{list_any}
use Rattle.std.specs.Ordering.{int_eq}
use Rattle.cy_num.specs.declared.types.CNum.{CNum}
use Rattle.cy_num.specs.declared.types.CNum.TheVariants as number
use Rattle.api_model.specs.declared.info.Info.{Info}

-- an index of a dimension leads to the rest of the place
abbrev pub Leads : ℤ → (ℕ → Type 0) → Type 0
Leads n Rest = (i : ℕ) × (pos i <ℤ n) × Rest i

-- there are indexes, one for each dimension, each from 0 and below the length, whose products with the strides add up to
-- the place
abbrev pub Reaches : List ℤ → List ℤ → ℤ → Type 0
Reaches [] [] at = at ≡ pos 0
Reaches (n ∷ ns) (s ∷ ss) at = Leads n (λ i. Reaches ns ss (at -ℤ pos i *ℤ s))
Reaches _ _ at = ⊥

-- an element stands at the place; an indirect view has none
abbrev pub IsElementPlace : Info → ℤ → Type 0
IsElementPlace i at = (i.indirect ≡ false) × Reaches i.shape i.strides at

-- The same as tests.

-- whether some index below a length passes a test
abbrev pub any_below : ℕ → (ℕ → Bool) → Bool
any_below zero test = false
any_below (suc n) test = test n || any_below n test

abbrev pub any_index : ℤ → (ℕ → Bool) → Bool
any_index (pos n) test = any_below n test
any_index (negsuc n) test = false

abbrev pub reaches : List ℤ → List ℤ → ℤ → Bool
reaches (n ∷ ns) (s ∷ ss) at = any_index n (λ i. reaches ns ss (at -ℤ pos i *ℤ s))
reaches [] [] at = int_eq at (pos 0)
reaches _ _ at = false

abbrev pub is_element_place : Info → ℤ → Bool
is_element_place i at = not i.indirect && reaches i.shape i.strides at

-- ---- types

-- the letters of formats for an element type
abbrev pub letters_of : CNum → List ℕ
letters_of number.I8 = codes "b"
letters_of number.U8 = codes "B"
letters_of number.I16 = codes "h"
letters_of number.U16 = codes "H"
letters_of number.I32 = codes "i"
letters_of number.U32 = codes "I"
letters_of number.I64 = codes "lqn"
letters_of number.U64 = codes "LQN"

-- the letter of a format; an absent format is `B`
abbrev pub letter_of : Option ℕ → ℕ
letter_of None = 66
letter_of (Some letter) = letter

abbrev pub has_letter : List ℕ → Info → Bool
has_letter letters i = list_any (nat_eq (letter_of i.letter)) letters

-- an element of a type stands at a byte place
abbrev pub is_element : Info → CNum → ℤ → Bool
is_element i t at = not i.indirect && (has_letter (letters_of t) i && reaches i.shape i.strides at)
