use Rattle.thin_turn.proofs.outside.entry_turn.Goals as goal

pub returns-in-Enter : goal.returns-in-Enter
returns-in-Enter c = rw c.in-Enter.is (rw c.as_slice.ensures at (rw c.in-Enter.is at c.called_turn.ensures))
