use Rattle.std.proofs.Common.{◌≡◌, ◌∷◌, ◌++◌, List, decimal}
use Rattle.c_token.specs.CTokens.{CToken, Word, sign}
use Rattle.c_tree.specs.declared.value.CValue.{CValue}
use Rattle.c_tree.specs.declared.value.CValue.TheVariants as value
use Rattle.c_tree.specs.declared.name.FixedParameter.TheVariants as fixed
use Rattle.c_tree.specs.declared.name.Variable.TheVariants as variable
use Rattle.c_tree.specs.Values.{value_spelling}
use Rattle.c_input.specs.Addresses.{IsStored}
use Rattle.c_input.proofs.operands.stored.Goals as goal

pub returns-in_err-variable-clause-every : goal.returns-in_err-variable-clause-every
returns-in_err-variable-clause-every c = λ v rest form no e. absurd (go v rest form e)
  where
    go : (v : CValue) (rest : List CToken) → IsStored v → c.args.input.now ≡ value_spelling v ++ rest → ⊥
    go (value.Variable x) rest form e = cc (c.in_err-variable.ensures.every x rest form e)
    go (value.Argument j) rest form e = cc (c.in_err-variable.ensures.every (variable.Fixed fixed.Arguments) (sign "[" ∷ Word (decimal j) ∷ sign "]" ∷ rest) tt e)
    go (value.Literal n) rest form e = absurd form
    go value.Null rest form e = absurd form
    go value.NoneObject rest form e = absurd form
    go value.TrueObject rest form e = absurd form
    go value.FalseObject rest form e = absurd form
    go (value.Exception x) rest form e = absurd form
    go (value.ClassObject n) rest form e = absurd form
    go (value.TypeAddress n) rest form e = absurd form
    go value.Definition rest form e = absurd form
