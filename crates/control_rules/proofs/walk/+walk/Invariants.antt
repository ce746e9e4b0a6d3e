use Rattle.std.proofs.Common.{Option, drop}
use Rattle.cy_base.specs.declared.place.Refusal.{Refusal}
use Rattle.control_rules.specs.Walk.{ArmsNoted, HandlersNoted, StmtsNoted}
use Rattle.control_rules.proofs.walk.+walk.Given as goal

abbrev pub invariant-judge_arms-loop-arm : goal.invariant-judge_arms-loop-arm
invariant-judge_arms-loop-arm l =
    (last : Option Refusal) → ArmsNoted l.file l.around (drop l.arm-index l.arms) l.least last → ArmsNoted l.file l.around l.arms l.initial.least last

abbrev pub invariant-judge_handlers-loop-index : goal.invariant-judge_handlers-loop-index
invariant-judge_handlers-loop-index l =
    (last : Option Refusal) → HandlersNoted l.file l.around (drop l.index l.handlers) l.least last → HandlersNoted l.file l.around l.handlers l.initial.least last

abbrev pub invariant-judge_stmts-loop-stmt : goal.invariant-judge_stmts-loop-stmt
invariant-judge_stmts-loop-stmt l =
    (last : Option Refusal) → StmtsNoted l.file l.around (drop l.stmt-index l.stmts) l.least last → StmtsNoted l.file l.around l.stmts l.initial.least last
