-- Numbers that stand in one word.
use Rattle.std.proofs.Common.{◌≡◌, ℕ, List, ◌∷◌, ◌++◌, Some, ap, sym, ◌∙◌, append_assoc, decimal}
use Rattle.std.proofs.lemmas.List.{append_cancel_left}
use Rattle.c_tree.specs.declared.name.Numbered.{Numbered}
use Rattle.c_tree.specs.declared.name.FieldNumber.{FieldNumber}
use Rattle.c_word.specs.Numbers.{two_numbers}

abbrev pub as_numbered : ℕ × ℕ → Numbered
as_numbered r = record { «module» = r.0; index = r.1 }

pub numbered_same : (r s : ℕ × ℕ) → Some r ≡ Some s → Some (as_numbered r) ≡ Some (as_numbered s)
numbered_same r s e = let same : r ≡ s = cc in ap (λ t. Some (as_numbered t)) same

abbrev pub as_field : ℕ → ℕ × ℕ → FieldNumber
as_field m r = record { class = record { «module» = m; index = r.0 }; field = r.1 }

pub field_same : (m n : ℕ) (r s : ℕ × ℕ) → Some m ≡ Some n → Some r ≡ Some s → Some (as_field m r) ≡ Some (as_field n s)
field_same m n r s d e =
    let first : m ≡ n = cc in
    let same : r ≡ s = cc in
    λ t. Some (as_field (first t) (same t))

-- behind the letters stand three numbers
pub field_parts : (letters rest : List ℕ) (m k j : ℕ) → (letters ++ two_numbers m k) ++ 95 ∷ decimal j ≡ letters ++ rest → decimal m ++ 95 ∷ two_numbers k j ≡ rest
field_parts letters rest m k j e =
    sym (append_assoc (decimal m) (95 ∷ decimal k) (95 ∷ decimal j))
    ∙ append_cancel_left letters (two_numbers m k ++ 95 ∷ decimal j) rest (sym (append_assoc letters (two_numbers m k) (95 ∷ decimal j)) ∙ e)
