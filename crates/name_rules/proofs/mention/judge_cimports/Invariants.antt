use Rattle.std.proofs.Common.{◌≡◌, ◌++◌, drop}
use Rattle.std.specs.List.{flat_map}
use Rattle.cy_mention.specs.Modules.{cimports}
use Rattle.name_rules.specs.Breaches.{cimport_refusals}
use Rattle.name_rules.proofs.mention.judge_cimports.Given as goal

abbrev pub invariant-loop-cimport : goal.invariant-loop-cimport
invariant-loop-cimport l = l.initial.out.items ++ flat_map (cimport_refusals l.file l.known) (cimports l.all) ≡ l.out.items ++ flat_map (cimport_refusals l.file l.known) (cimports (drop l.cimport-index l.all))
