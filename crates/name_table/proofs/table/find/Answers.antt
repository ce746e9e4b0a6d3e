use Rattle.std.proofs.Common.{◌∙◌}
use Rattle.name_table.proofs.Maps.{lookup-shown}
use Rattle.name_table.proofs.table.find.Goals as goal

pub returns : goal.returns
returns c = c.copied.ensures ∙ c.get.ensures.value ∙ lookup-shown c.args.map.now.entries c.args.name.now
