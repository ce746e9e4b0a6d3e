use Rattle.std.proofs.Common.{◌≡◌, ◌++◌, drop}
use Rattle.std.specs.List.{flat_map}
use Rattle.cy_mention.specs.Modules.{idents, made_local}
use Rattle.cy_mention.specs.Shown.{all_shown}
use Rattle.cy_mention.proofs.names.note_locals.Given as goal

abbrev pub invariant-loop-mention : goal.invariant-loop-mention
invariant-loop-mention l = idents l.initial.out.items ++ flat_map made_local (all_shown l.mentions) ≡ idents l.out.items ++ flat_map made_local (all_shown (drop l.mention-index l.mentions))
