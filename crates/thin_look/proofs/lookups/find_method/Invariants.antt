use Rattle.std.proofs.Common.{◌≡◌, drop}
use Rattle.thin_state.specs.Reads.{method_in}
use Rattle.thin_look.proofs.lookups.find_method.Given as goal

abbrev pub invariant-loop-item : goal.invariant-loop-item
invariant-loop-item l = method_in l.items l.name ≡ method_in (drop l.item-index l.items) l.name
