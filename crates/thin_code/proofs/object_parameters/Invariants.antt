use Rattle.std.proofs.Common.{◌≡◌, map}
use Rattle.std.specs.List.{range_with_len}
use Rattle.thin_code.specs.ThinC.{object_parameter}
use Rattle.thin_code.proofs.object_parameters.Given as goal

abbrev pub invariant-loop-number : goal.invariant-loop-number
invariant-loop-number l = l.parameters.items ≡ map object_parameter (range_with_len 0 l.number)
