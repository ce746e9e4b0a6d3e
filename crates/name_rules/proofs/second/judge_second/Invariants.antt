use Rattle.std.proofs.Common.{◌≡◌, ◌++◌, drop}
use Rattle.cy_mention.specs.Modules.{idents}
use Rattle.name_table.specs.Entries.{texts}
use Rattle.name_rules.specs.Breaches.{second}
use Rattle.name_rules.proofs.second.judge_second.Given as goal

abbrev pub invariant-loop-name : goal.invariant-loop-name
invariant-loop-name l = l.initial.out.items ++ second l.file (texts l.initial.seen) (idents l.names) ≡ l.out.items ++ second l.file (texts l.seen) (idents (drop l.name-index l.names))
