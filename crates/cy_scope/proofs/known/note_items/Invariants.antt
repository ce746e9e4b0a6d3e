use Rattle.std.proofs.Common.{◌≡◌, ◌++◌, drop, map}
use Rattle.name_table.specs.EntriesShown.{entries_shown}
use Rattle.cy_scope.specs.Declarations.{item_from}
use Rattle.cy_scope.proofs.known.note_items.Given as goal

abbrev pub invariant-loop-item : goal.invariant-loop-item
invariant-loop-item l = entries_shown l.initial.out.items ++ map (item_from l.known l.outer) l.all ≡ entries_shown l.out.items ++ map (item_from l.known l.outer) (drop l.item-index l.all)
