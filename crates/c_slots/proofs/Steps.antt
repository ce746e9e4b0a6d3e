-- What cannot be.
use Rattle.std.proofs.Common.{◌≡◌, Bool, true, false, Some, None}
use Rattle.std.specs.Prelude.{Option}

pub never : false ≡ true → ⊥
never e = cc

pub lost : {A : Type 0} {r : Option A} {a : A} → r ≡ None → r ≡ Some a → ⊥
lost e f = cc
