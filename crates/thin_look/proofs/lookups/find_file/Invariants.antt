use Rattle.std.proofs.Common.{◌≡◌, drop}
use Rattle.thin_state.specs.Reads.{module_from}
use Rattle.thin_look.proofs.lookups.find_file.Given as goal

abbrev pub invariant-loop-k : goal.invariant-loop-k
invariant-loop-k l = module_from 0 l.files l.«module» ≡ module_from l.k (drop l.k l.files) l.«module»
