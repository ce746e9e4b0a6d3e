use Rattle.decl_grammar.proofs.Answers.{factored_alike}
use Rattle.decl_grammar.proofs.laws.factored_forms_are_alike.Goals as goal

pub returns : goal.returns
returns c = factored_alike
