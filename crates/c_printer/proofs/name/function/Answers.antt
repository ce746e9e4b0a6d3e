use Rattle.c_printer.proofs.name.function.Goals as goal

pub returns-in-Init : goal.returns-in-Init
returns-in-Init c = rw c.in-Init.is c.numbered-in-Init.ensures

pub returns-in-Item : goal.returns-in-Item
returns-in-Item c = rw c.in-Item.is c.numbered-in-Item.ensures
