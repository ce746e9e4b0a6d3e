use Rattle.std.proofs.Common.{List, sym, ap, ◌∙◌, arith}
use Rattle.thin_state.specs.declared.state.Cell.{Cell}
use Rattle.thin_state.specs.State.{put}
use Rattle.thin_tables.specs.Cells.{cell_from}
use Rattle.thin_tables.proofs.Tables.{cell-at, no-cell, cell_from-put, within}
use Rattle.thin_tables.proofs.cells.Cells.put.Goals as goal

pub set_value-requires : goal.set_value-requires
set_value-requires c =
    let at = within c.self.inside.cells.items c.args.variable c.in-Some.number (sym (c.self.invariant c.args.variable) ∙ sym c.find.ensures ∙ c.in-Some.is) in
    record { within = omega (arith, at, c.self.inside.cells.ok.0) }

pub invariant_of-self : goal.invariant_of-self
invariant_of-self c = λ y.
    let cell = cell-at c.self.inside.cells.items c.args.variable c.in-Some.number (sym (c.self.invariant c.args.variable) ∙ sym c.find.ensures ∙ c.in-Some.is) in
    c.self.invariant y
    ∙ sym (cell_from-put 0 c.self.inside.cells.items c.args.variable c.args.value y)
    ∙ ap (λ (cs : List Cell). cell_from 0 cs y) (cell.puts c.args.value ∙ sym (c.set_value.ensures cell.cell cell.there))

pub returns-in-Some : goal.returns-in-Some
returns-in-Some c =
    let cell = cell-at c.self.inside.cells.items c.args.variable c.in-Some.number (sym (c.self.invariant c.args.variable) ∙ sym c.find.ensures ∙ c.in-Some.is) in
    c.set_value.ensures cell.cell cell.there ∙ sym (cell.puts c.args.value) ∙ ap (λ (cs : List Cell). put cs c.args.variable c.args.value) c.self.view_is

pub returns-in_default : goal.returns-in_default
returns-in_default c =
    let none = no-cell 0 c.self.inside.cells.items c.args.variable (sym (c.self.invariant c.args.variable) ∙ sym c.find.ensures ∙ c.in_default.is) in
    sym (ap (λ (cs : List Cell). put cs c.args.variable c.args.value) (sym c.self.view_is) ∙ none.puts c.args.value ∙ c.self.view_is)
