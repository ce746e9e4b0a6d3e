use Rattle.std.proofs.Common.{◌≡◌, ◌<◌, ◌+◌, ◌^◌, suc, List, Some, length, refl, sym, subst, ap, ◌∙◌, arith}
use Rattle.std.specs.Prelude.{None}
use Rattle.c_tree.specs.declared.value.CType.{CType}
use Rattle.c_table.proofs.Fields.{fields_end, fields_read, fields_step, moved, no_field, one_longer, AreRead}
use Rattle.c_table.proofs.structs.fields.Goals as goal

pub returns-in_default-clause-every : goal.returns-in_default-clause-every
returns-in_default-clause-every c = λ x rest form e.
    let here = moved c.args.input.now c.loop-input.kinds c.loop-input.input c.fixed.new.self c.loop-input.invariant.0 c.loop-input-test.ensures.0 in
    absurd (no_field c.args.input.now c.loop-input.kinds c.fixed.new.self c.loop-input.number None here c.loop-input.invariant.1 refl
    (λ r z. c.loop-input-test.ensures.1 r (sym c.loop-input-test.ensures.0 ∙ z)) c.in_default.ensures.every x rest e)

pub loop-input-preserved : goal.loop-input-preserved
loop-input-preserved c =
    let here = moved c.args.input.now c.loop-input.kinds c.loop-input.input c.fixed.new.self c.loop-input.invariant.0 c.loop-input-test.ensures.0 in
    let step = fields_step c.args.input.now c.loop-input.kinds c.fixed.new.self c.field.new.input c.in-Some.kind c.loop-input.number here c.loop-input.invariant.1
    (λ r z. c.loop-input-test.ensures.1 r (sym c.loop-input-test.ensures.0 ∙ z)) c.in-Some.ensures.some.1 c.in-Some.ensures.every in
    let P : List CType → Type 0 = λ z. AreRead c.args.input.now z c.field.new.input in
    let next : c.in-Some-checked_add.next ≡ c.loop-input.number + 1 = grind arith in
    let small : c.in-Some-checked_add.next < 2 ^ 32 = grind arith in
    let number : c.in-Some-checked_add.next ≡ suc (length c.loop-input.kinds) = omega (arith, c.loop-input.invariant.1) in
    (subst P (sym c.in_ok-push.ensures.ok) step, number ∙ (sym (one_longer c.loop-input.kinds c.in-Some.kind) ∙ ap length (sym c.in_ok-push.ensures.ok)), small)

pub returns-clause-some : goal.returns-clause-some
returns-clause-some c =
    let small : length c.loop-input.kinds < 2 ^ 32 = omega (arith, c.loop-input.invariant.1, c.loop-input.invariant.2) in
    (small, fields_read c.args.input.now c.loop-input.kinds c.loop-input.input c.fixed.new.self c.loop-input.invariant.0 c.loop-input-test.ensures)

pub returns-clause-every : goal.returns-clause-every
returns-clause-every c = λ x rest form e.
    ap Some (fields_end c.args.input.now c.loop-input.kinds c.loop-input.input c.fixed.new.self c.loop-input.invariant.0 c.loop-input-test.ensures x rest e)
