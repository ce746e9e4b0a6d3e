use Rattle.std.proofs.Common.{◌∙◌, ap, List}
use Rattle.thin_state.specs.declared.space.Event.{Event}
use Rattle.thin_apply.specs.Applied.{Parts, parts_of, fixed}
use Rattle.thin_mach.specs.Deciding.{finished, finished_events}
use Rattle.thin_mach.proofs.Steps.{decides, is-memory, is-fault, is-went, went-rests, put-back}
use Rattle.thin_mach.proofs.step.go_on.Goals as goal

pub returns-in_default-prepare-clause-step : goal.returns-in_default-prepare-clause-step
returns-in_default-prepare-clause-step c =
    is-memory _ _ _ _ _ _
    (put-back (parts_of c.args.core.now) (parts_of c.prepare.new.core) c.pop.new.self.items c.in-Some.top c.put.new.items.items c.prepare.ensures.parts c.put.ensures.items c.in-Some.ensures.items)
    c.prepare.ensures.events

pub returns-in-Some-fault_of-clause-step : goal.returns-in-Some-fault_of-clause-step
returns-in-Some-fault_of-clause-step c =
    is-fault (fixed c.args.core.now) (parts_of c.args.core.now) c.args.script.now c.args.events.now.items c.pop.new.self.items c.in-Some.top c.in-Ok.decision.line c.in-Ok.decision.effect
    c.in-Ok.decision.next.taken c.in-Ok.decision.next.turn c.in-Some-fault_of.fault _ _
    (decides (fixed c.args.core.now) (parts_of c.args.core.now) c.args.script.now c.pop.new.self.items c.in-Some.top c.in-Ok.decision.line c.in-Ok.decision.effect
    c.in-Ok.decision.next.taken c.in-Ok.decision.next.turn c.in-Some.ensures.items c.requires.goes c.requires.rests c.in-Ok.ensures.decided)
    c.in-Some-fault_of.ensures
    (put-back (parts_of c.args.core.now) (parts_of c.prepare.new.core) c.pop.new.self.items c.in-Some.top c.put-in-Some-fault_of.new.items.items c.prepare.ensures.parts c.put-in-Some-fault_of.ensures.items c.in-Some.ensures.items)
    c.prepare.ensures.events

pub returns-in-None-clause-step : goal.returns-in-None-clause-step
returns-in-None-clause-step c =
    is-went (fixed c.args.core.now) (parts_of c.args.core.now) c.args.script.now c.args.events.now.items c.pop.new.self.items c.in-Some.top c.in-Ok.decision.line c.in-Ok.decision.effect
    c.in-Ok.decision.next.taken c.in-Ok.decision.next.turn _ _
    (decides (fixed c.args.core.now) (parts_of c.args.core.now) c.args.script.now c.pop.new.self.items c.in-Some.top c.in-Ok.decision.line c.in-Ok.decision.effect
    c.in-Ok.decision.next.taken c.in-Ok.decision.next.turn c.in-Some.ensures.items c.requires.goes c.requires.rests c.in-Ok.ensures.decided)
    c.in-None.ensures
    (c.complete.ensures.parts ∙ ap (λ (p : Parts). finished p c.in-Some.top c.in-Ok.decision.line c.in-Ok.decision.effect c.in-Ok.decision.next.taken c.in-Ok.decision.next.turn) c.prepare.ensures.parts)
    (c.complete.ensures.events ∙ ap (λ (l : List Event). finished_events l c.in-Ok.decision.effect c.in-Ok.decision.next.turn) c.prepare.ensures.events)

pub returns-in-None-clause-rests : goal.returns-in-None-clause-rests
returns-in-None-clause-rests c =
    went-rests (fixed c.args.core.now) (parts_of c.args.core.now) c.args.script.now c.args.events.now.items c.pop.new.self.items c.in-Some.top c.in-Ok.decision.line c.in-Ok.decision.effect
    c.in-Ok.decision.next.taken c.in-Ok.decision.next.turn _
    (decides (fixed c.args.core.now) (parts_of c.args.core.now) c.args.script.now c.pop.new.self.items c.in-Some.top c.in-Ok.decision.line c.in-Ok.decision.effect
    c.in-Ok.decision.next.taken c.in-Ok.decision.next.turn c.in-Some.ensures.items c.requires.goes c.requires.rests c.in-Ok.ensures.decided)
    c.in-None.ensures
    (c.complete.ensures.parts ∙ ap (λ (p : Parts). finished p c.in-Some.top c.in-Ok.decision.line c.in-Ok.decision.effect c.in-Ok.decision.next.taken c.in-Ok.decision.next.turn) c.prepare.ensures.parts)
