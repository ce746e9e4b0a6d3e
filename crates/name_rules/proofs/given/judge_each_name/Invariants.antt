use Rattle.std.proofs.Common.{◌≡◌, ◌++◌, drop}
use Rattle.std.specs.List.{flat_map}
use Rattle.cy_mention.specs.Modules.{idents}
use Rattle.name_table.specs.Entries.{texts}
use Rattle.name_rules.specs.Breaches.{name_refusal}
use Rattle.name_rules.proofs.given.judge_each_name.Given as goal

abbrev pub invariant-loop-name : goal.invariant-loop-name
invariant-loop-name l = l.initial.out.items ++ flat_map (name_refusal l.file (texts l.declared)) (idents l.names) ≡ l.out.items ++ flat_map (name_refusal l.file (texts l.declared)) (idents (drop l.name-index l.names))
