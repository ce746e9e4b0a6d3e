use Rattle.std.proofs.Common.{◌≡◌, ◌++◌, drop, length}
use Rattle.name_table.specs.EntriesShown.{entries_shown}
use Rattle.cy_scope.specs.Declarations.{functions_from}
use Rattle.cy_scope.proofs.declare.note_c_functions.Given as goal

abbrev pub invariant-loop-top : goal.invariant-loop-top
invariant-loop-top l = entries_shown l.initial.out.items ++ functions_from l.«module» 0 l.tops ≡ entries_shown l.out.items ++ functions_from l.«module» (length l.before.items) (drop l.top-index l.tops)
