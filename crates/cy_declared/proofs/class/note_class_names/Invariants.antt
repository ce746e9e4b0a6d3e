use Rattle.std.proofs.Common.{◌≡◌, ◌++◌, drop, map}
use Rattle.cy_declared.specs.Shown.{class_refs}
use Rattle.name_table.specs.EntriesShown.{slices}
use Rattle.cy_declared.proofs.class.note_class_names.Given as goal

abbrev pub invariant-loop-class : goal.invariant-loop-class
invariant-loop-class l = slices l.initial.out.items ++ map (λ c. c.name.text) (class_refs l.classes) ≡ slices l.out.items ++ map (λ c. c.name.text) (class_refs (drop l.class-index l.classes))
