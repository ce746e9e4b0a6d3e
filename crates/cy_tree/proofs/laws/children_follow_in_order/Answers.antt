use Rattle.cy_tree.proofs.Linking.{child_follows}
use Rattle.cy_tree.proofs.laws.children_follow_in_order.Goals as goal

pub returns : goal.returns
returns c = child_follows
