use Rattle.std.proofs.Common.{◌∙◌, ◌∷◌, [], ◌++◌, ap, List}
use Rattle.thin_state.specs.declared.space.Event.{Event}
use Rattle.thin_apply.specs.Applied.{Parts, parts_of, fixed}
use Rattle.thin_mach.specs.Deciding.{finished, finished_events}
use Rattle.thin_mach.proofs.Steps.{is-memory, start-fault, start-went, start-rests, begun-parts}
use Rattle.thin_mach.proofs.step.begin_with.Goals as goal

pub returns-in_default-clause-step : goal.returns-in_default-clause-step
returns-in_default-clause-step c = is-memory _ _ _ _ _ _ c.prepare.ensures.parts c.prepare.ensures.events

pub returns-in-Some-clause-step : goal.returns-in-Some-clause-step
returns-in-Some-clause-step c =
    start-fault (fixed c.args.core.now) (parts_of c.args.core.now) c.args.script.now c.args.events.now.items c.args.event c.args.begun c.args.taken c.args.frame
    c.in-Ok.decision.line c.in-Ok.decision.effect c.in-Ok.decision.next.taken c.in-Ok.decision.next.turn c.in-Some.fault _ _
    c.requires.empty c.requires.goes c.requires.starts c.in-Ok.ensures.decided c.in-Some.ensures c.prepare.ensures.parts c.prepare.ensures.events

pub returns-in-None-clause-step : goal.returns-in-None-clause-step
returns-in-None-clause-step c =
    start-went (fixed c.args.core.now) (parts_of c.args.core.now) c.args.script.now c.args.events.now.items c.args.event c.args.begun c.args.taken c.args.frame
    c.in-Ok.decision.line c.in-Ok.decision.effect c.in-Ok.decision.next.taken c.in-Ok.decision.next.turn _ _
    c.requires.empty c.requires.goes c.requires.starts c.in-Ok.ensures.decided c.in-None.ensures
    (c.complete.ensures.parts
    ∙ ap (λ (r : Parts). finished r c.args.frame c.in-Ok.decision.line c.in-Ok.decision.effect c.in-Ok.decision.next.taken c.in-Ok.decision.next.turn)
    (begun-parts (parts_of c.args.core.now) (parts_of c.prepare.new.core) c.args.begun c.args.taken c.args.frame c.prepare.ensures.parts c.requires.empty))
    (c.complete.ensures.events
    ∙ ap (λ (l : List Event). finished_events l c.in-Ok.decision.effect c.in-Ok.decision.next.turn)
    (c.put.ensures.items ∙ ap (λ (l : List Event). l ++ c.args.event ∷ []) c.prepare.ensures.events))

pub returns-in-None-clause-rests : goal.returns-in-None-clause-rests
returns-in-None-clause-rests c =
    start-rests (fixed c.args.core.now) (parts_of c.args.core.now) c.args.script.now c.args.events.now.items c.args.event c.args.begun c.args.taken c.args.frame
    c.in-Ok.decision.line c.in-Ok.decision.effect c.in-Ok.decision.next.taken c.in-Ok.decision.next.turn (parts_of c.complete.new.core)
    c.requires.empty c.requires.goes c.requires.starts c.in-Ok.ensures.decided c.in-None.ensures
    (c.complete.ensures.parts
    ∙ ap (λ (r : Parts). finished r c.args.frame c.in-Ok.decision.line c.in-Ok.decision.effect c.in-Ok.decision.next.taken c.in-Ok.decision.next.turn)
    (begun-parts (parts_of c.args.core.now) (parts_of c.prepare.new.core) c.args.begun c.args.taken c.args.frame c.prepare.ensures.parts c.requires.empty))
