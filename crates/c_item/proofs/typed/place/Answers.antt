use Rattle.std.proofs.Common.{◌∷◌}
use Rattle.c_token.specs.CTokens.{sign}
use Rattle.c_tree.specs.declared.name.Variable.TheVariants as variable
use Rattle.c_item.proofs.typed.place.Goals as goal

pub returns-in_err-variable-clause-every : goal.returns-in_err-variable-clause-every
returns-in_err-variable-clause-every c = λ x rest form e. absurd (cc (c.in_err-variable.ensures.every (variable.Place x) (sign ";" ∷ rest) form e))

pub returns-in-Place-clause-every : goal.returns-in-Place-clause-every
returns-in-Place-clause-every c = λ x rest form e. cc (c.in_ok-variable.ensures.every (variable.Place x) (sign ";" ∷ rest) form e, c.in-Place.is)
