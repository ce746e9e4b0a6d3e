use Rattle.std.proofs.Common.{◌≡◌, ◌++◌, drop}
use Rattle.std.specs.List.{flat_map}
use Rattle.name_rules.specs.Breaches.{given_refusals}
use Rattle.name_rules.proofs.given.judge_members.Given as goal

abbrev pub invariant-loop-member : goal.invariant-loop-member
invariant-loop-member l = l.initial.out.items ++ flat_map (given_refusals l.file l.declared) l.members ≡ l.out.items ++ flat_map (given_refusals l.file l.declared) (drop l.member-index l.members)
