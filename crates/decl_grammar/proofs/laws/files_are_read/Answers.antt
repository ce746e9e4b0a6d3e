use Rattle.decl_grammar.proofs.Answers.{files_are_read}
use Rattle.decl_grammar.proofs.laws.files_are_read.Goals as goal

pub returns : goal.returns
returns c = files_are_read
