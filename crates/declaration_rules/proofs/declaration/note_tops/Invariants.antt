use Rattle.std.proofs.Common.{◌≡◌, ◌++◌, drop}
use Rattle.std.specs.List.{flat_map}
use Rattle.declaration_rules.specs.Declarations.{in_top}
use Rattle.declaration_rules.specs.DeclarationsShown.{declarations_shown}
use Rattle.declaration_rules.proofs.declaration.note_tops.Given as goal

abbrev pub invariant-loop-top : goal.invariant-loop-top
invariant-loop-top l = declarations_shown l.initial.out.items ++ flat_map in_top l.tops ≡ declarations_shown l.out.items ++ flat_map in_top (drop l.top-index l.tops)
