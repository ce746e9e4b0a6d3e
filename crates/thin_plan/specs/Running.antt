-- What the next line of a frame comes to.
use Rattle.std.specs.Prelude.{List, [], drop}
use Rattle.thin_state.specs.declared.tree.Line.{Line}
use Rattle.thin_state.specs.declared.state.FaultKind.TheVariants as fault
use Rattle.thin_state.specs.declared.state.Doing.{Doing}
use Rattle.thin_state.specs.declared.state.Doing.TheVariants as doing
use Rattle.thin_plan.specs.declared.effects.Effect.{Effect}
use Rattle.thin_plan.specs.declared.effects.Effect.TheVariants as effect
use Rattle.thin_tables.specs.Lines.{Next, Lines, NoLine, next_line}
use Rattle.thin_plan.specs.Plans.{Scene, function_here, plan}

-- what the next line comes to: a body that ends without a return is stuck
abbrev pub next_effect : Scene → Next → Effect
next_effect s NoLine = effect.Fault fault.Stuck
next_effect s (Lines st ls) = plan s st

abbrev pub lines_after : Next → List Line
lines_after NoLine = []
lines_after (Lines st ls) = ls

abbrev pub next_here : Scene → Next
next_here s = next_line (drop s.here.line (function_here s).lines)

-- what a statement comes to in a frame, which runs or waits
abbrev pub running_effect : Doing → Effect → Effect
running_effect doing.Runs e = e
running_effect _ e = effect.Fault fault.Stuck

-- what a frame comes to, which runs or waits
abbrev pub doing_effect : Scene → Doing → Effect
doing_effect s d = running_effect d (next_effect s (next_here s))

abbrev pub effect_here : Scene → Effect
effect_here s = doing_effect s s.here.doing
