use Rattle.cy_declared.specs.Shown.{owned_shown}
use Rattle.cy_declared.proofs.Agree.{around-function}
use Rattle.cy_declared.proofs.around.ScopeTypes.of_function.Goals as goal

pub returns : goal.returns
returns c = λ e. around-function c.args.set.now c.args.tables.now c.args.scope c.args.home (owned_shown c.args.owned) c.in_ok-locals.locals c.in_ok-locals.ensures e
