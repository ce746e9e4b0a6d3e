use Rattle.std.proofs.Common.{◌≡◌, ◌++◌, take}
use Rattle.std.specs.List.{flat_map}
use Rattle.c_tree.specs.Items.{slot_spelling}
use Rattle.c_printer.proofs.structs.slots.Given as goal

abbrev pub invariant-loop-it : goal.invariant-loop-it
invariant-loop-it l = l.out ≡ l.initial.out ++ flat_map slot_spelling (take l.it-index l.all)
