use Rattle.expr_grammar.proofs.Answers.{expressions_spell_one}
use Rattle.expr_grammar.proofs.laws.expressions_spell_one_tree.Goals as goal

pub returns : goal.returns
returns c = expressions_spell_one
