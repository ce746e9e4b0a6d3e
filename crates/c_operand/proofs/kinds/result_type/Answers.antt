use Rattle.std.proofs.Common.{◌≡◌, ◌++◌, List, Some, refl, sym, ◌∙◌}
use Rattle.c_token.specs.CTokens.{CToken}
use Rattle.c_tree.specs.declared.value.CResult.{CResult}
use Rattle.c_tree.specs.declared.value.CResult.TheVariants as given
use Rattle.c_tree.specs.Values.{result_spelling}
use Rattle.c_operand.proofs.Fixed.{type_not_void}
use Rattle.c_operand.proofs.kinds.result_type.Goals as goal

pub returns-then-fixed-clause-every : goal.returns-then-fixed-clause-every
returns-then-fixed-clause-every c = λ x rest form e. go x rest e
  where
    go : (x : CResult) (rest : List CToken) → c.args.input.now ≡ result_spelling x ++ rest → Some given.Void ≡ Some x
    go given.Void rest e = refl
    go (given.Value t) rest e = absurd (type_not_void t _ rest (sym c.if-fixed.ensures ∙ e))
