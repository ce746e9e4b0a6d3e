use Rattle.std.proofs.Common.{◌≡◌, ◌++◌, drop, map}
use Rattle.cy_declared.specs.Shown.{members_shown}
use Rattle.cy_declared.proofs.table.note_said.Given as goal

abbrev pub invariant-loop-entry : goal.invariant-loop-entry
invariant-loop-entry l = l.initial.out ++ map (λ e. e.1) (members_shown l.entries) ≡ l.out ++ map (λ e. e.1) (members_shown (drop l.entry-index l.entries))
