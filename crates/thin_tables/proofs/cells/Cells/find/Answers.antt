use Rattle.std.proofs.Common.{List, sym, ap, subst, ◌∙◌, slice_get}
use Rattle.thin_state.specs.declared.state.Cell.{Cell}
use Rattle.thin_tables.specs.Tables.{AreNumbers}
use Rattle.thin_tables.proofs.Tables.{cell-at, no-cell}
use Rattle.thin_tables.proofs.cells.Cells.find.Goals as goal

pub returns-in-None : goal.returns-in-None
returns-in-None c =
    let are = subst (λ (cs : List Cell). AreNumbers cs c.self.inside.numbers) c.self.view_is c.self.invariant in
    sym ((no-cell 0 c.args.self.now c.args.variable (sym (are c.args.variable) ∙ sym c.find.ensures ∙ c.in-None.is)).looked)

pub returns-in-Some : goal.returns-in-Some
returns-in-Some c =
    let are = subst (λ (cs : List Cell). AreNumbers cs c.self.inside.numbers) c.self.view_is c.self.invariant in
    let cell = cell-at c.args.self.now c.args.variable c.in-Some.number (sym (are c.args.variable) ∙ sym c.find.ensures ∙ c.in-Some.is) in
    c.at.ensures ∙ ap (λ (cs : List Cell). slice_get cs c.in-Some.number) (c.as_slice.ensures.value ∙ c.self.view_is) ∙ cell.there ∙ sym cell.looked
