use Rattle.decl_grammar.proofs.Answers.{files_have_one_answer}
use Rattle.decl_grammar.proofs.laws.files_have_one_answer.Goals as goal

pub returns : goal.returns
returns c = files_have_one_answer
