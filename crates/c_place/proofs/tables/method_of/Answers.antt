use Rattle.std.proofs.Common.{◌++◌, List, ap, ◌∙◌}
use Rattle.c_token.specs.CTokens.{CToken}
use Rattle.c_place.proofs.Fixed.{method_spelled}
use Rattle.c_place.proofs.tables.method_of.Goals as goal

pub returns-clause-every : goal.returns-clause-every
returns-clause-every c = λ x rest form e. c.told_method.ensures.every x rest form (e ∙ ap (λ (t : List CToken). t ++ rest) (method_spelled x))
