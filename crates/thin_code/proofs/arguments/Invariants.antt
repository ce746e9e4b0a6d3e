use Rattle.std.proofs.Common.{◌≡◌, map}
use Rattle.std.specs.List.{range_with_len}
use Rattle.thin_state.specs.declared.CValue.TheVariants as value
use Rattle.thin_code.proofs.arguments.Given as goal

abbrev pub invariant-loop-number : goal.invariant-loop-number
invariant-loop-number l = l.values.items ≡ map value.Argument (range_with_len 0 l.number)
