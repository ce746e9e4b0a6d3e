use Rattle.std.proofs.Common.{◌++◌, List, ap, ◌∙◌}
use Rattle.c_token.specs.CTokens.{CToken}
use Rattle.c_place.proofs.Fixed.{table_spelled}
use Rattle.c_place.proofs.tables.table_of.Goals as goal

pub returns-clause-every : goal.returns-clause-every
returns-clause-every c = λ y rest form e. c.told_table.ensures.every y rest form (e ∙ ap (λ (t : List CToken). t ++ rest) (table_spelled y))
