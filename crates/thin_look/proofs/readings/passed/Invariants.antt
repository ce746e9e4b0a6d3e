use Rattle.std.proofs.Common.{◌≡◌, ◌++◌, drop}
use Rattle.thin_state.specs.Reads.{passed}
use Rattle.thin_look.proofs.readings.passed.Given as goal

abbrev pub invariant-loop-v : goal.invariant-loop-v
invariant-loop-v l = passed l.vs ≡ l.objects ++ passed (drop l.v-index l.vs)
