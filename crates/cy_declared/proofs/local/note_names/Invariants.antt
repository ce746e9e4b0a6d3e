use Rattle.std.proofs.Common.{◌≡◌, ◌++◌, drop, map}
use Rattle.cy_declared.specs.Shown.{all_typed_shown}
use Rattle.name_table.specs.EntriesShown.{slices}
use Rattle.cy_declared.proofs.local.note_names.Given as goal

abbrev pub invariant-loop-entry : goal.invariant-loop-entry
invariant-loop-entry l = slices l.initial.out.items ++ map (λ t. t.0) (all_typed_shown l.typed) ≡ slices l.out.items ++ map (λ t. t.0) (all_typed_shown (drop l.entry-index l.typed))
