use Rattle.std.proofs.Common.{List, Some, refl, sym, ap, subst, ◌∙◌}
use Rattle.std.specs.Prelude.{slice_get}
use Rattle.c_token.specs.CTokens.{CToken}
use Rattle.c_tree.specs.declared.name.FunctionName.{FunctionName}
use Rattle.c_tree.specs.Forms.{IsFunctionName}
use Rattle.c_input.proofs.Lists.{item_every, read_end, read_missed, read_step, IsRead}
use Rattle.c_slots.specs.Slots.{Closes}
use Rattle.c_slots.specs.Tables.{behind_comma}
use Rattle.c_slots.proofs.Firsts.{comma_no_close}
use Rattle.c_slots.proofs.Steps.{never}
use Rattle.c_slots.proofs.functions.functions_behind.Goals as goal

pub returns-in_default-clause-every : goal.returns-in_default-clause-every
returns-in_default-clause-every c = λ all rest f closes e. absurd
    (read_missed IsFunctionName behind_comma Closes c.args.input.now c.loop-alloc.functions.items c.loop-alloc.input c.in_ok-next.field-0 c.loop-alloc.invariant
    (λ z. comma_no_close c.loop-alloc.input (c.loop-alloc-test.ensures.0 refl) z) c.in_default.is
    (item_every IsFunctionName behind_comma Closes c.loop-alloc.input c.in_ok-next.field-0 c.in_ok-next.ensures.every) all rest f closes e)

pub loop-alloc-preserved : goal.loop-alloc-preserved
loop-alloc-preserved c =
    let P : List FunctionName → Type 0 = λ z. IsRead IsFunctionName behind_comma Closes c.args.input.now z c.function_behind.new.input in
    subst P (sym c.in_ok-push.ensures.items)
    (read_step IsFunctionName behind_comma Closes c.args.input.now c.loop-alloc.functions.items c.loop-alloc.input c.in_ok-next.field-0 c.in-Some.next c.function_behind.new.input c.loop-alloc.invariant
    (λ z. comma_no_close c.loop-alloc.input (c.loop-alloc-test.ensures.0 refl) z)
    c.in-Some.is c.in_ok-next.ensures.some (item_every IsFunctionName behind_comma Closes c.loop-alloc.input c.in_ok-next.field-0 c.in_ok-next.ensures.every))

pub returns-clause-every : goal.returns-clause-every
returns-clause-every c = λ all rest f closes e. ap (λ (t : List FunctionName). Some t)
    (c.from_vec.ensures
    ∙ (read_end IsFunctionName behind_comma Closes c.args.input.now c.loop-alloc.functions.items c.loop-alloc.input c.loop-alloc.invariant
    (λ y ys fy k. never (c.loop-alloc-test.ensures.1 (ap (λ (t : List CToken). slice_get t 0) k))) all rest f closes e).same)
