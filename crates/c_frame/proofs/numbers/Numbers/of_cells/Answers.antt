use Rattle.std.proofs.Common.{◌≡◌, ℕ, suc, ◌-◌, length, drop, subst, sym, refl, ◌∙◌, arith}
use Rattle.std.proofs.lemmas.Option.{slice_get_read}
use Rattle.c_value.specs.declared.frame.Cell.{Cell}
use Rattle.c_frame.specs.Tables.{AreCellsFrom, IsVariableNoted, is_cell}
use Rattle.c_frame.proofs.Firsts.{first_from-end, first_from-noted}
use Rattle.c_frame.proofs.numbers.Numbers.of_cells.Goals as goal

pub loop-at-init : goal.loop-at-init
loop-at-init c = λ x. c.none-numbers.ensures x ∙ first_from-end (is_cell x) c.args.cells.now

pub loop-at-preserved : goal.loop-at-preserved
loop-at-preserved c = λ x.
    let cs = c.args.cells.now in
    let next : c.loop-at.at ≡ suc (c.loop-at.at - 1) = omega (arith, c.loop-at-test.true) in
    subst (λ (d : Cell). IsVariableNoted c.loop-at.numbers d.variable (c.loop-at.at - 1) c.note.new.self) (sym c.index-cells-at.is) c.in_ok-note.ensures x
    ∙ first_from-noted (is_cell x) cs (c.loop-at.at - 1) c.loop-at.at c.index-cells-at.result _ next
    (slice_get_read cs (length cs) (c.loop-at.at - 1) c.index-cells-at.result refl (omega (arith, c.loop-at-test.true, c.loop-at.auto.at)) c.index-cells-at.is)
    (c.loop-at.invariant x)

pub returns : goal.returns
returns c =
    let done : c.loop-at.at ≡ 0 = omega (arith, c.loop-at-test.false) in
    subst (λ (n : ℕ). AreCellsFrom n (drop n c.args.cells.now) c.loop-at.numbers) done c.loop-at.invariant
