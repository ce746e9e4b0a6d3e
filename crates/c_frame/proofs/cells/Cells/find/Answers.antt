use Rattle.std.proofs.Common.{List, sym, ap, subst, ◌∙◌, slice_get}
use Rattle.c_value.specs.declared.frame.Cell.{Cell}
use Rattle.c_frame.specs.Tables.{AreCells}
use Rattle.c_frame.proofs.Firsts.{found-cell, no-cell}
use Rattle.c_frame.proofs.cells.Cells.find.Goals as goal

pub returns-in-None : goal.returns-in-None
returns-in-None c =
    let are = subst (λ (cs : List Cell). AreCells cs c.self.inside.numbers) c.self.view_is c.self.invariant in
    no-cell c.args.self.now c.args.variable (sym (are c.args.variable) ∙ sym c.find.ensures ∙ c.in-None.is)

pub returns-in-Some : goal.returns-in-Some
returns-in-Some c =
    let are = subst (λ (cs : List Cell). AreCells cs c.self.inside.numbers) c.self.view_is c.self.invariant in
    c.get.ensures.value ∙ ap (λ (cs : List Cell). slice_get cs c.in-Some.number) c.self.view_is
    ∙ found-cell c.args.self.now c.args.variable c.in-Some.number (sym (are c.args.variable) ∙ sym c.find.ensures ∙ c.in-Some.is)
