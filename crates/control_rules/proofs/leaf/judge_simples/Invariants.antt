use Rattle.std.proofs.Common.{Option, drop}
use Rattle.cy_base.specs.declared.place.Refusal.{Refusal}
use Rattle.control_rules.specs.Walk.{SimplesNoted}
use Rattle.control_rules.proofs.leaf.judge_simples.Given as goal

abbrev pub invariant-loop-simple : goal.invariant-loop-simple
invariant-loop-simple l =
    (last : Option Refusal) → SimplesNoted l.file l.around (drop l.simple-index l.simples) l.least last → SimplesNoted l.file l.around l.simples l.initial.least last
