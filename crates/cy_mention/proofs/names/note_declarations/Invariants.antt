use Rattle.std.proofs.Common.{◌≡◌, ◌++◌, drop}
use Rattle.std.specs.List.{flat_map}
use Rattle.cy_mention.specs.Modules.{idents, declared_by}
use Rattle.cy_mention.specs.Shown.{all_shown}
use Rattle.cy_mention.proofs.names.note_declarations.Given as goal

abbrev pub invariant-loop-mention : goal.invariant-loop-mention
invariant-loop-mention l = idents l.initial.out.items ++ flat_map declared_by (all_shown l.mentions) ≡ idents l.out.items ++ flat_map declared_by (all_shown (drop l.mention-index l.mentions))
