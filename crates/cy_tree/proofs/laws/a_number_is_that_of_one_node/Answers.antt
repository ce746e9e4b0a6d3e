use Rattle.cy_tree.proofs.Numbers.{Numbered-exists, Numbered-unique, Numbered-within}
use Rattle.cy_tree.proofs.laws.a_number_is_that_of_one_node.Goals as goal

pub returns-clause-exists : goal.returns-clause-exists
returns-clause-exists c = Numbered-exists

pub returns-clause-unique : goal.returns-clause-unique
returns-clause-unique c = Numbered-unique

pub returns-clause-within : goal.returns-clause-within
returns-clause-within c = Numbered-within
