use Rattle.std.proofs.Common.{◌≡◌, ◌++◌, drop}
use Rattle.std.specs.List.{flat_map}
use Rattle.declaration_rules.specs.Declarations.{in_item}
use Rattle.declaration_rules.specs.DeclarationsShown.{declarations_shown}
use Rattle.declaration_rules.proofs.declaration.note_items.Given as goal

abbrev pub invariant-loop-item : goal.invariant-loop-item
invariant-loop-item l = declarations_shown l.initial.out.items ++ flat_map in_item l.items ≡ declarations_shown l.out.items ++ flat_map in_item (drop l.item-index l.items)
