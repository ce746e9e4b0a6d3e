use Rattle.std.proofs.Common.{◌≡◌, ◌∷◌, List, Some, ◌⊎◌, inl, inr, ◌∙◌}
use Rattle.c_token.specs.CTokens.{CToken}
use Rattle.c_tree.specs.declared.statement.BinaryOp.{BinaryOp}
use Rattle.c_tree.specs.Statements.{op_spelling}
use Rattle.c_operand.specs.Operators.{IsArithmetic, IsBitwise, IsComparison}
use Rattle.c_operand.proofs.Signs.{sorts}
use Rattle.c_operand.proofs.operators.operator.Goals as goal

pub returns-clause-every : goal.returns-clause-every
returns-clause-every c = λ x rest form e. go x rest e (sorts x)
  where
    go : (x : BinaryOp) (rest : List CToken) → c.args.input.now ≡ op_spelling x ∷ rest → IsArithmetic x ⊎ (IsBitwise x ⊎ IsComparison x) → c.comparison.result ≡ Some x
    go x rest e (inl h) = cc (c.arithmetic.ensures.every x rest h e)
    go x rest e (inr (inl h)) = cc (c.bitwise.ensures.every x rest h (c.in_default.ensures.some ∙ e))
    go x rest e (inr (inr h)) = c.comparison.ensures.every x rest h (c.in_default-bitwise.ensures.some ∙ (c.in_default.ensures.some ∙ e))
