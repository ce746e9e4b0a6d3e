use Rattle.std.proofs.Common.{◌≡◌, drop}
use Rattle.c_state.specs.Reads.{behind_dot}
use Rattle.c_state.proofs.names.behind_dot.Given as goal

abbrev pub invariant-loop-i : goal.invariant-loop-i
invariant-loop-i l = behind_dot l.name ≡ behind_dot (drop l.i l.name)
