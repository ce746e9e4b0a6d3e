use Rattle.std.proofs.Common.{◌∙◌, sym}
use Rattle.name_table.proofs.Maps.{added}
use Rattle.name_table.proofs.table.NameTable.add.Goals as goal

pub returns-clause-entries : goal.returns-clause-entries
returns-clause-entries c =
    added c.self.inside.map.entries c.insert.new.self.entries c.in_ok-key.key c.args.kind c.args.name.now c.args.self.now
    c.self.view_is c.in_ok-key.ensures.items (sym c.has.ensures ∙ c.if-has.false) c.in_ok-insert.ensures.entries
