use Rattle.c_printer.proofs.fixed.one_letter.Goals as goal

pub returns : goal.returns
returns c = c.text.ensures
