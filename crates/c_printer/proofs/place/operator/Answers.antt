use Rattle.c_token.specs.CTokens.{c_tokens, tokens_from}
use Rattle.c_printer.proofs.place.operator.Goals as goal

pub returns-in-Add : goal.returns-in-Add
unfolding c_tokens tokens_from
returns-in-Add c = rw c.in-Add.is c.text.ensures

pub returns-in-Subtract : goal.returns-in-Subtract
unfolding c_tokens tokens_from
returns-in-Subtract c = rw c.in-Subtract.is c.text-in-Subtract.ensures

pub returns-in-Multiply : goal.returns-in-Multiply
unfolding c_tokens tokens_from
returns-in-Multiply c = rw c.in-Multiply.is c.text-in-Multiply.ensures

pub returns-in-Divide : goal.returns-in-Divide
unfolding c_tokens tokens_from
returns-in-Divide c = rw c.in-Divide.is c.text-in-Divide.ensures

pub returns-in-Remainder : goal.returns-in-Remainder
unfolding c_tokens tokens_from
returns-in-Remainder c = rw c.in-Remainder.is c.text-in-Remainder.ensures

pub returns-in-BitAnd : goal.returns-in-BitAnd
unfolding c_tokens tokens_from
returns-in-BitAnd c = rw c.in-BitAnd.is c.text-in-BitAnd.ensures

pub returns-in-BitOr : goal.returns-in-BitOr
unfolding c_tokens tokens_from
returns-in-BitOr c = rw c.in-BitOr.is c.text-in-BitOr.ensures

pub returns-in-BitXor : goal.returns-in-BitXor
unfolding c_tokens tokens_from
returns-in-BitXor c = rw c.in-BitXor.is c.text-in-BitXor.ensures

pub returns-in-ShiftLeft : goal.returns-in-ShiftLeft
unfolding c_tokens tokens_from
returns-in-ShiftLeft c = rw c.in-ShiftLeft.is c.text-in-ShiftLeft.ensures

pub returns-in-ShiftRight : goal.returns-in-ShiftRight
unfolding c_tokens tokens_from
returns-in-ShiftRight c = rw c.in-ShiftRight.is c.text-in-ShiftRight.ensures

pub returns-in-Less : goal.returns-in-Less
unfolding c_tokens tokens_from
returns-in-Less c = rw c.in-Less.is c.text-in-Less.ensures

pub returns-in-LessEqual : goal.returns-in-LessEqual
unfolding c_tokens tokens_from
returns-in-LessEqual c = rw c.in-LessEqual.is c.text-in-LessEqual.ensures

pub returns-in-Equal : goal.returns-in-Equal
unfolding c_tokens tokens_from
returns-in-Equal c = rw c.in-Equal.is c.text-in-Equal.ensures

pub returns-in-NotEqual : goal.returns-in-NotEqual
unfolding c_tokens tokens_from
returns-in-NotEqual c = rw c.in-NotEqual.is c.text-in-NotEqual.ensures

pub returns-in-Greater : goal.returns-in-Greater
unfolding c_tokens tokens_from
returns-in-Greater c = rw c.in-Greater.is c.text-in-Greater.ensures

pub returns-in-GreaterEqual : goal.returns-in-GreaterEqual
unfolding c_tokens tokens_from
returns-in-GreaterEqual c = rw c.in-GreaterEqual.is c.text-in-GreaterEqual.ensures
