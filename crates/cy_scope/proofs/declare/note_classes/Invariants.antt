use Rattle.std.proofs.Common.{◌≡◌, ◌++◌, drop}
use Rattle.name_table.specs.EntriesShown.{entries_shown}
use Rattle.cy_mention.specs.Modules.{idents}
use Rattle.cy_scope.specs.Declarations.{classes_from}
use Rattle.cy_scope.proofs.declare.note_classes.Given as goal

abbrev pub invariant-loop-place : goal.invariant-loop-place
invariant-loop-place l = entries_shown l.initial.out.items ++ classes_from l.«module» 0 (idents l.names) ≡ entries_shown l.out.items ++ classes_from l.«module» l.place (idents (drop l.place l.names))
