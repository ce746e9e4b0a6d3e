use Rattle.std.proofs.Common.{◌≡◌, drop}
use Rattle.c_state.specs.Calls.{same_kinds}
use Rattle.c_heads.proofs.heads.same_kinds.Given as goal

abbrev pub invariant-loop-at : goal.invariant-loop-at
invariant-loop-at l = same_kinds l.a l.b ≡ same_kinds (drop l.at l.a) (drop l.at l.b)
