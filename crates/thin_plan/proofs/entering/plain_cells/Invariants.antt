use Rattle.std.proofs.Common.{◌≡◌, ◌++◌, drop}
use Rattle.thin_state.specs.Reads.{plain_cells}
use Rattle.thin_plan.proofs.entering.plain_cells.Given as goal

abbrev pub invariant-loop-i : goal.invariant-loop-i
invariant-loop-i l = plain_cells l.parameters l.values ≡ l.cells.items ++ plain_cells (drop l.i l.parameters) (drop l.i l.values)
