use Rattle.std.proofs.Common.{◌≡◌, ◌++◌, drop, map}
use Rattle.cy_declared.specs.Shown.{all_typed_shown}
use Rattle.cy_declared.proofs.local.note_types.Given as goal

abbrev pub invariant-loop-entry : goal.invariant-loop-entry
invariant-loop-entry l = l.initial.out ++ map (λ t. t.1) (all_typed_shown l.typed) ≡ l.out ++ map (λ t. t.1) (all_typed_shown (drop l.entry-index l.typed))
