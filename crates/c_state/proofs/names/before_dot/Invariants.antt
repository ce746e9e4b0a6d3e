use Rattle.std.proofs.Common.{◌≡◌, ◌++◌, drop}
use Rattle.c_state.specs.Reads.{before_dot}
use Rattle.c_state.proofs.names.before_dot.Given as goal

abbrev pub invariant-loop-byte : goal.invariant-loop-byte
invariant-loop-byte l = before_dot l.name ≡ l.bytes.items ++ before_dot (drop l.byte-index l.name)
