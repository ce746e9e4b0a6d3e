use Rattle.std.proofs.Common.{◌∙◌, ap, is_some}
use Rattle.name_table.proofs.Maps.{is_some-shown}
use Rattle.name_table.proofs.table.NameTable.has.Goals as goal

pub returns : goal.returns
returns c = c.is_some.ensures ∙ ap is_some c.get.ensures ∙ is_some-shown c.args.self.now c.args.name.now
