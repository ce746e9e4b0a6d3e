use Rattle.std.proofs.Common.{◌∙◌, ap}
use Rattle.cy_declared.specs.Tables.{function_at}
use Rattle.cy_declared.proofs.Agree.{function-is}
use Rattle.cy_declared.proofs.tables.Tables.function.Goals as goal

pub returns-clause-declared : goal.returns-clause-declared
returns-clause-declared c = λ set e. c.find_function.ensures ∙ ap (λ t. function_at t c.args.id) e ∙ function-is c.args.self.now.known set c.args.id
