use Rattle.std.proofs.Common.{◌++◌, List, ap, ◌∙◌}
use Rattle.c_token.specs.CTokens.{CToken}
use Rattle.c_place.proofs.Fixed.{field_spelled}
use Rattle.c_place.proofs.fields.field.Goals as goal

pub returns-clause-every : goal.returns-clause-every
returns-clause-every c = λ x rest form e. c.told.ensures.every x rest form (e ∙ ap (λ (t : List CToken). t ++ rest) (field_spelled x))
