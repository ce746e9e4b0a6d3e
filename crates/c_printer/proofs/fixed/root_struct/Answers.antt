use Rattle.c_tree.specs.Items.{item_spelling}
use Rattle.c_printer.proofs.fixed.root_struct.Goals as goal

pub returns : goal.returns
unfolding item_spelling
returns c = c.text.ensures
