use Rattle.decl_grammar.proofs.Answers.{files_spell_one}
use Rattle.decl_grammar.proofs.laws.files_spell_one_tree.Goals as goal

pub returns : goal.returns
returns c = files_spell_one
