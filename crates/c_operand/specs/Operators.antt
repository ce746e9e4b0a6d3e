-- Three sorts of operators between two operands (ISO/IEC 9899:2011 6.5.5 to 6.5.12).
use Rattle.std.specs.Prelude.{⊤}
use Rattle.c_tree.specs.declared.statement.BinaryOp.{BinaryOp}
use Rattle.c_tree.specs.declared.statement.BinaryOp.TheVariants as op

-- `+`, `-`, `*`, `/`, `%`
abbrev pub IsArithmetic : BinaryOp → Type 0
IsArithmetic op.Add = ⊤
IsArithmetic op.Subtract = ⊤
IsArithmetic op.Multiply = ⊤
IsArithmetic op.Divide = ⊤
IsArithmetic op.Remainder = ⊤
IsArithmetic _ = ⊥

-- `&`, `|`, `^`, `<<`, `>>`
abbrev pub IsBitwise : BinaryOp → Type 0
IsBitwise op.BitAnd = ⊤
IsBitwise op.BitOr = ⊤
IsBitwise op.BitXor = ⊤
IsBitwise op.ShiftLeft = ⊤
IsBitwise op.ShiftRight = ⊤
IsBitwise _ = ⊥

-- `<`, `<=`, `==`, `!=`, `>`, `>=`
abbrev pub IsComparison : BinaryOp → Type 0
IsComparison op.Less = ⊤
IsComparison op.LessEqual = ⊤
IsComparison op.Equal = ⊤
IsComparison op.NotEqual = ⊤
IsComparison op.Greater = ⊤
IsComparison op.GreaterEqual = ⊤
IsComparison _ = ⊥
