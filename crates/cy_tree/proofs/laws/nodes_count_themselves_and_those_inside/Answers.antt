use Rattle.cy_tree.proofs.Counts.{nodes-children, nodes-some}
use Rattle.cy_tree.proofs.laws.nodes_count_themselves_and_those_inside.Goals as goal

pub returns-clause-count : goal.returns-clause-count
returns-clause-count c = nodes-children

pub returns-clause-some : goal.returns-clause-some
returns-clause-some c = nodes-some
