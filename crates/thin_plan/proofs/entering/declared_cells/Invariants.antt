use Rattle.std.proofs.Common.{◌≡◌, ◌++◌, drop, map}
use Rattle.thin_state.specs.Reads.{declared_cell}
use Rattle.thin_plan.proofs.entering.declared_cells.Given as goal

abbrev pub invariant-loop-declaration : goal.invariant-loop-declaration
invariant-loop-declaration l = map declared_cell l.declarations ≡ l.cells.items ++ map declared_cell (drop l.declaration-index l.declarations)
