use Rattle.std.proofs.Common.{◌∙◌, ap}
use Rattle.std.specs.Option.{option_copied}
use Rattle.cy_declared.specs.Tables.{type_at}
use Rattle.cy_declared.proofs.Agree.{type-first}
use Rattle.cy_declared.proofs.local.TypeTable.get.Goals as goal

pub returns-clause-first : goal.returns-clause-first
returns-clause-first c = λ typed e. c.get_named.ensures ∙ ap (λ t. type_at t (option_copied c.args.name)) e ∙ type-first typed (option_copied c.args.name)
