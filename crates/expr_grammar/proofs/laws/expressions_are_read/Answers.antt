use Rattle.expr_grammar.proofs.Answers.{expressions_are_read}
use Rattle.expr_grammar.proofs.laws.expressions_are_read.Goals as goal

pub returns : goal.returns
returns c = expressions_are_read
