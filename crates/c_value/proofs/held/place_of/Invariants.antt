use Rattle.std.proofs.Common.{◌≡◌, ℕ, ◌++◌, take, drop}
use Rattle.c_value.specs.declared.value.Value.{Value}
use Rattle.c_value.specs.Parts.{put_part}
use Rattle.c_value.proofs.held.place_of.Given as goal

abbrev pub invariant-loop-at : goal.invariant-loop-at
invariant-loop-at l =
    (j : ℕ) (v : Value) → put_part l.parts l.class j v ≡ take l.at l.parts ++ put_part (drop l.at l.parts) l.class j v
