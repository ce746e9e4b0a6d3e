use Rattle.std.proofs.Common.{refl, subst}
use Rattle.thin_turn.specs.declared.parts.Turn.{Turn}
use Rattle.thin_apply.specs.Applied.{parts_of, fixed}
use Rattle.thin_mach.specs.Deciding.{IsFirst}
use Rattle.thin_mach.proofs.Steps.{is-memory, IsStart, first-start, starts-begin, starts-enter, first-ends}
use Rattle.thin_mach.proofs.step.start.Goals as goal

pub returns-in_default-clause-step : goal.returns-in_default-clause-step
returns-in_default-clause-step c = is-memory _ _ _ _ _ _ refl refl

pub begin_with-requires-clause-starts : goal.begin_with-requires-clause-starts
begin_with-requires-clause-starts c =
    starts-begin (fixed c.args.core.now) (parts_of c.args.core.now) c.args.script.now c.args.events.now.items c.in-Ok.first.taken c.in-Begin.name c.in-Begin.begun c.in-Begin.frame
    c.requires.empty c.requires.goes
    (subst (λ (t : Turn). IsFirst (fixed c.args.core.now) (parts_of c.args.core.now) c.args.script.now c.in-Ok.first.taken t) c.in-Begin.is c.in-Ok.ensures)

pub begin_with-requires-in-Enter-clause-starts : goal.begin_with-requires-in-Enter-clause-starts
begin_with-requires-in-Enter-clause-starts c =
    starts-enter (fixed c.args.core.now) (parts_of c.args.core.now) c.args.script.now c.args.events.now.items c.in-Ok.first.taken c.in-Enter.callee c.in-Enter.args c.in-Enter.frame
    c.requires.empty c.requires.goes
    (subst (λ (t : Turn). IsFirst (fixed c.args.core.now) (parts_of c.args.core.now) c.args.script.now c.in-Ok.first.taken t) c.in-Enter.is c.in-Ok.ensures)

pub returns-in-End-clause-step : goal.returns-in-End-clause-step
returns-in-End-clause-step c =
    c.end_run.ensures.step c.args.script.now
    (first-ends (fixed c.args.core.now) (parts_of c.args.core.now) c.args.script.now c.args.events.now.items c.in-Ok.first.taken c.requires.empty c.requires.goes
    (subst (λ (t : Turn). IsFirst (fixed c.args.core.now) (parts_of c.args.core.now) c.args.script.now c.in-Ok.first.taken t) c.in-End.is c.in-Ok.ensures))

pub unreachable-requires : goal.unreachable-requires
unreachable-requires c = subst (λ (t : Turn). IsStart t) c.in-Nothing.is (first-start _ _ _ _ _ c.in-Ok.ensures)

pub unreachable-requires-in-Stop : goal.unreachable-requires-in-Stop
unreachable-requires-in-Stop c = subst (λ (t : Turn). IsStart t) c.in-Stop.is (first-start _ _ _ _ _ c.in-Ok.ensures)

pub unreachable-requires-in-Answer : goal.unreachable-requires-in-Answer
unreachable-requires-in-Answer c = subst (λ (t : Turn). IsStart t) c.in-Answer.is (first-start _ _ _ _ _ c.in-Ok.ensures)
