use Rattle.std.proofs.Common.{List, sym, ap, ◌∙◌}
use Rattle.c_value.specs.declared.frame.Cell.{Cell}
use Rattle.c_frame.specs.Cells.{put}
use Rattle.c_frame.specs.Tables.{is_cell}
use Rattle.c_frame.proofs.Firsts.{within, set-cell, no-cell-put, cells-kept}
use Rattle.c_frame.proofs.cells.Cells.put.Goals as goal

pub set_value-requires : goal.set_value-requires
set_value-requires c = record {
  within = within (is_cell c.args.variable) c.self.inside.cells c.in-Some.number (sym (c.self.invariant c.args.variable) ∙ sym c.find.ensures ∙ c.in-Some.is);
}

pub invariant_of-self : goal.invariant_of-self
invariant_of-self c = λ y.
    c.self.invariant y
    ∙ cells-kept c.self.inside.cells c.set_value.new.cells c.args.variable c.args.value c.in-Some.number y
    (sym (c.self.invariant c.args.variable) ∙ sym c.find.ensures ∙ c.in-Some.is) c.set_value.ensures

pub returns-in-Some : goal.returns-in-Some
returns-in-Some c =
    set-cell c.self.inside.cells c.set_value.new.cells c.args.variable c.args.value c.in-Some.number
    (sym (c.self.invariant c.args.variable) ∙ sym c.find.ensures ∙ c.in-Some.is) c.set_value.ensures
    ∙ ap (λ (cs : List Cell). put cs c.args.variable c.args.value) c.self.view_is

pub returns-in_default : goal.returns-in_default
returns-in_default c =
    let none = no-cell-put c.self.inside.cells c.args.variable c.args.value (sym (c.self.invariant c.args.variable) ∙ sym c.find.ensures ∙ c.in_default.is) in
    sym c.self.view_is ∙ none ∙ ap (λ (cs : List Cell). put cs c.args.variable c.args.value) c.self.view_is
