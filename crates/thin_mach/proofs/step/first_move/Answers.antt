use Rattle.std.proofs.Common.{◌∙◌, ap, drop}
use Rattle.thin_mach.specs.Deciding.{IsFirst}
use Rattle.thin_turn.specs.Turns.{Stage, Go, go, idle_go}
use Rattle.thin_turn.specs.declared.parts.Turn.{Turn}
use Rattle.thin_mach.proofs.step.first_move.Goals as goal

pub returns : goal.returns
unfolding IsFirst
returns c =
    ap (λ (t : Turn). go t (drop c.in_ok-first.first.taken c.args.script.now)) c.into_inner.ensures
    ∙ (c.in_ok-first.ensures ∙ ap (λ (s : Stage). idle_go s (drop c.args.core.now.taken c.args.script.now)) c.stage-stage.ensures)
