use Rattle.std.proofs.Common.{◌≡◌, drop}
use Rattle.thin_state.specs.Reads.{method_row}
use Rattle.thin_look.proofs.lookups.find_row.Given as goal

abbrev pub invariant-loop-row : goal.invariant-loop-row
invariant-loop-row l = method_row l.rows l.name ≡ method_row (drop l.row-index l.rows) l.name
