-- A frame that waits comes to no more than a fault.
use Rattle.std.proofs.Common.{◌≡◌, refl}
use Rattle.thin_state.specs.declared.state.Doing.{Doing}
use Rattle.thin_state.specs.declared.state.Doing.TheVariants as doing
use Rattle.thin_state.specs.declared.state.FaultKind.TheVariants as fault
use Rattle.thin_plan.specs.declared.effects.Effect.TheVariants as effect
use Rattle.thin_plan.specs.Running.{running_effect}

pub running-stuck : (d : Doing) → running_effect d (effect.Fault fault.Stuck) ≡ effect.Fault fault.Stuck
running-stuck doing.Runs = refl
running-stuck (doing.Waits x) = refl
running-stuck (doing.Asks o r x) = refl

pub ruleset stuck = (running-stuck)
