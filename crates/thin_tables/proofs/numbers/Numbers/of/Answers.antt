use Rattle.std.proofs.Common.{◌≡◌, ℕ, suc, ◌-◌, length, drop, subst, sym, refl, arith}
use Rattle.thin_state.specs.declared.state.Cell.{Cell}
use Rattle.std.proofs.lemmas.Option.{slice_get_read}
use Rattle.thin_tables.specs.Tables.{AreNumbersFrom, IsNoted}
use Rattle.thin_tables.proofs.Tables.{numbers-none, numbers-noted}
use Rattle.thin_tables.proofs.numbers.Numbers.of.Goals as goal

pub loop-at-init : goal.loop-at-init
loop-at-init c = numbers-none c.args.cells.now c.none-numbers.result c.none-numbers.ensures

pub loop-at-preserved : goal.loop-at-preserved
loop-at-preserved c =
    let cs = c.args.cells.now in
    let next : c.loop-at.at ≡ suc (c.loop-at.at - 1) = omega (arith, c.loop-at-test.true) in
    numbers-noted cs (c.loop-at.at - 1) c.loop-at.at c.index-cells-at.result c.loop-at.numbers c.note.new.self next
    (slice_get_read cs (length cs) (c.loop-at.at - 1) c.index-cells-at.result refl (omega (arith, c.loop-at-test.true, c.loop-at.auto.at)) c.index-cells-at.is)
    c.loop-at.invariant
    (subst (λ (d : Cell). IsNoted c.loop-at.numbers d.variable (c.loop-at.at - 1) c.note.new.self) (sym c.index-cells-at.is) c.in_ok-note.ensures)

pub returns : goal.returns
returns c =
    let done : c.loop-at.at ≡ 0 = omega (arith, c.loop-at-test.false) in
    subst (λ (n : ℕ). AreNumbersFrom n (drop n c.args.cells.now) c.loop-at.numbers) done c.loop-at.invariant
