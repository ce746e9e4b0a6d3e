use Rattle.std.proofs.Common.{◌≡◌, ◌++◌, drop}
use Rattle.c_tree.specs.Items.{fields_spelling}
use Rattle.c_printer.proofs.structs.fields.Given as goal

abbrev pub invariant-loop-it : goal.invariant-loop-it
invariant-loop-it l = (l.number ≡ l.it-index) × (l.initial.out ++ fields_spelling 0 l.all ≡ l.out ++ fields_spelling l.it-index (drop l.it-index l.all))
