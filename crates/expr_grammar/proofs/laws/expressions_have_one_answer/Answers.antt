use Rattle.expr_grammar.proofs.Answers.{expressions_have_one_answer}
use Rattle.expr_grammar.proofs.laws.expressions_have_one_answer.Goals as goal

pub returns : goal.returns
returns c = expressions_have_one_answer
