use Rattle.std.proofs.Common.{◌≡◌, ◌++◌, drop}
use Rattle.cy_mention.specs.Modules.{idents}
use Rattle.name_rules.proofs.second.note_each.Given as goal

abbrev pub invariant-loop-name : goal.invariant-loop-name
invariant-loop-name l = idents l.initial.out.items ++ l.names ≡ idents l.out.items ++ drop l.name-index l.names
