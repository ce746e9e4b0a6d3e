use Rattle.std.proofs.Common.{◌≡◌, ◌++◌, drop}
use Rattle.thin_state.specs.Reads.{values_of}
use Rattle.thin_plan.proofs.entering.values_of.Given as goal

abbrev pub invariant-loop-v : goal.invariant-loop-v
invariant-loop-v l = values_of l.vs ≡ l.values ++ values_of (drop l.v-index l.vs)
