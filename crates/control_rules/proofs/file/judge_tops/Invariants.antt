use Rattle.std.proofs.Common.{Option, drop}
use Rattle.cy_base.specs.declared.place.Refusal.{Refusal}
use Rattle.control_rules.specs.Walk.{TopsNoted}
use Rattle.control_rules.proofs.file.judge_tops.Given as goal

abbrev pub invariant-loop-top : goal.invariant-loop-top
invariant-loop-top l =
    (last : Option Refusal) → TopsNoted l.file (drop l.top-index l.tops) l.least last → TopsNoted l.file l.tops l.initial.least last
