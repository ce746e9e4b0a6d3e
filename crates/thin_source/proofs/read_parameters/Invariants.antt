use Rattle.std.proofs.Common.{◌-◌, length}
use Rattle.thin_source.proofs.Names.{IsRead}
use Rattle.thin_source.proofs.read_parameters.Given as goal

abbrev pub invariant-loop-name : goal.invariant-loop-name
invariant-loop-name l = IsRead l.fn.text l.rest l.names

abbrev pub decreases-loop-name : goal.decreases-loop-name
decreases-loop-name l = 32 - length l.names
