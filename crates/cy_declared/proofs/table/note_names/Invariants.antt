use Rattle.std.proofs.Common.{◌≡◌, ◌++◌, drop, map}
use Rattle.cy_declared.specs.Shown.{members_shown}
use Rattle.name_table.specs.EntriesShown.{slices}
use Rattle.cy_declared.proofs.table.note_names.Given as goal

abbrev pub invariant-loop-entry : goal.invariant-loop-entry
invariant-loop-entry l = slices l.initial.out.items ++ map (λ e. e.0) (members_shown l.entries) ≡ slices l.out.items ++ map (λ e. e.0) (members_shown (drop l.entry-index l.entries))
