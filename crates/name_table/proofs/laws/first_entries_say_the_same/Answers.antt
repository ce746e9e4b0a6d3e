use Rattle.name_table.proofs.Same.{same}
use Rattle.name_table.proofs.laws.first_entries_say_the_same.Goals as goal

pub returns : goal.returns
returns c = same
