-- No two operators have one sign.
use Rattle.std.proofs.Common.{◌≡◌, Option, Some, None, refl, sym, ap, ◌∙◌, ◌⊎◌, inl, inr}
use Rattle.std.specs.Prelude.{if◌then◌else◌, codes}
use Rattle.std.specs.Str.{bytes_eq}
use Rattle.c_token.specs.CTokens.{CToken, Sign}
use Rattle.c_tree.specs.declared.statement.BinaryOp.{BinaryOp}
use Rattle.c_tree.specs.declared.statement.BinaryOp.TheVariants as op
use Rattle.c_tree.specs.Statements.{op_spelling}
use Rattle.c_operand.specs.Operators.{IsArithmetic, IsBitwise, IsComparison}

-- the operator with this sign
op_of : CToken → Option BinaryOp
op_of (Sign letters) =
    if bytes_eq letters (codes "+") then Some op.Add
    else if bytes_eq letters (codes "-") then Some op.Subtract
    else if bytes_eq letters (codes "*") then Some op.Multiply
    else if bytes_eq letters (codes "/") then Some op.Divide
    else if bytes_eq letters (codes "%") then Some op.Remainder
    else if bytes_eq letters (codes "&") then Some op.BitAnd
    else if bytes_eq letters (codes "|") then Some op.BitOr
    else if bytes_eq letters (codes "^") then Some op.BitXor
    else if bytes_eq letters (codes "<<") then Some op.ShiftLeft
    else if bytes_eq letters (codes ">>") then Some op.ShiftRight
    else if bytes_eq letters (codes "<") then Some op.Less
    else if bytes_eq letters (codes "<=") then Some op.LessEqual
    else if bytes_eq letters (codes "==") then Some op.Equal
    else if bytes_eq letters (codes "!=") then Some op.NotEqual
    else if bytes_eq letters (codes ">") then Some op.Greater
    else if bytes_eq letters (codes ">=") then Some op.GreaterEqual
    else None
op_of _ = None

told : (o : BinaryOp) → op_of (op_spelling o) ≡ Some o
unfolding op_of
told op.Add = refl
told op.Subtract = refl
told op.Multiply = refl
told op.Divide = refl
told op.Remainder = refl
told op.BitAnd = refl
told op.BitOr = refl
told op.BitXor = refl
told op.ShiftLeft = refl
told op.ShiftRight = refl
told op.Less = refl
told op.LessEqual = refl
told op.Equal = refl
told op.NotEqual = refl
told op.Greater = refl
told op.GreaterEqual = refl

pub same_op : (a b : BinaryOp) → op_spelling a ≡ op_spelling b → Some a ≡ Some b
same_op a b e = sym (told a) ∙ (ap op_of e ∙ told b)

pub sorts : (o : BinaryOp) → IsArithmetic o ⊎ (IsBitwise o ⊎ IsComparison o)
sorts op.Add = inl tt
sorts op.Subtract = inl tt
sorts op.Multiply = inl tt
sorts op.Divide = inl tt
sorts op.Remainder = inl tt
sorts op.BitAnd = inr (inl tt)
sorts op.BitOr = inr (inl tt)
sorts op.BitXor = inr (inl tt)
sorts op.ShiftLeft = inr (inl tt)
sorts op.ShiftRight = inr (inl tt)
sorts op.Less = inr (inr tt)
sorts op.LessEqual = inr (inr tt)
sorts op.Equal = inr (inr tt)
sorts op.NotEqual = inr (inr tt)
sorts op.Greater = inr (inr tt)
sorts op.GreaterEqual = inr (inr tt)
