-- What reads an expression answers as it should.
use Rattle.pyx_lex.specs.declared.token.Token.{Token}
use Rattle.cy_tree.specs.declared.expr.Expr.{Expr}
use Rattle.token_class.specs.Sets.{of}
use Rattle.forms.proofs.Answering.{answers, one_value}
use Rattle.forms.proofs.OneAnswer.{one_answer}
use Rattle.expr_grammar.specs.Grammar.{Spells}
use Rattle.expr_grammar.specs.Reading.{reads}
use Rattle.expr_grammar.specs.Laws.{ExpressionsAreRead, ExpressionsSpellOne, ExpressionsHaveOneAnswer}
use Rattle.expr_grammar.proofs.LevelLaws.{begins_of, more_of, exact}

pub expressions_are_read : ExpressionsAreRead
expressions_are_read n l ts = answers Token Expr (Spells n l) (reads n l) _ (of (begins_of l)) (of (more_of l)) (exact n l).exact ts

pub expressions_spell_one : ExpressionsSpellOne
expressions_spell_one n l = one_value Token Expr (Spells n l) (reads n l) _ (of (begins_of l)) (of (more_of l)) (exact n l).exact

pub expressions_have_one_answer : ExpressionsHaveOneAnswer
expressions_have_one_answer n l = one_answer Token Expr (Spells n l)
