use Rattle.cy_declared.proofs.Agree.{around-module}
use Rattle.cy_declared.proofs.around.ScopeTypes.of_module.Goals as goal

pub returns : goal.returns
returns c = λ e. around-module c.args.set.now c.args.tables.now c.args.home c.no_types-locals.result c.no_types-locals.ensures e
