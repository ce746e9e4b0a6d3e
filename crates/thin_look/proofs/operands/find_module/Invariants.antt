use Rattle.std.proofs.Common.{◌≡◌, drop}
use Rattle.thin_state.specs.Reads.{module_name}
use Rattle.thin_look.proofs.operands.find_module.Given as goal

abbrev pub invariant-loop-item : goal.invariant-loop-item
invariant-loop-item l = module_name l.items ≡ module_name (drop l.item-index l.items)
