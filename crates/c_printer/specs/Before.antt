-- What stands before a call.
use Rattle.std.specs.Prelude.{List, [], ◌∷◌, Option, Some, None}
use Rattle.c_token.specs.CTokens.{CToken, sign}
use Rattle.c_tree.specs.declared.name.Variable.{Variable}
use Rattle.c_tree.specs.Names.{variable_token}

-- `x =`, or nothing
abbrev pub before : Option Variable → List CToken
before None = []
before (Some x) = variable_token x ∷ sign "=" ∷ []
