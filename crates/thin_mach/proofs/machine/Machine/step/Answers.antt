use Rattle.thin_apply.specs.Applied.{parts_of, fixed}
use Rattle.thin_mach.proofs.Runs.{step-seen, kept-seen}
use Rattle.thin_mach.proofs.machine.Machine.step.Goals as goal

pub returns-clause-step : goal.returns-clause-step
returns-clause-step c =
    step-seen (fixed c.self.inside.core) (fixed c.step.new.core) (parts_of c.self.inside.core) c.args.script.now c.args.events.now.items c.step.result (parts_of c.step.new.core) c.step.new.events.items
    c.args.self.now c.step.ensures.step c.step.ensures.fixed c.self.view_is

pub returns-clause-kept : goal.returns-clause-kept
returns-clause-kept c =
    kept-seen (fixed c.self.inside.core) (fixed c.step.new.core) (parts_of c.self.inside.core) c.args.script.now c.args.events.now.items c.step.result (parts_of c.step.new.core) c.step.new.events.items
    c.args.self.now c.step.ensures.step c.step.ensures.fixed c.self.view_is
