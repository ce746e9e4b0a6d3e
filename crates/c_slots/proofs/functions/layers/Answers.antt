use Rattle.std.proofs.Common.{List, Some, refl, sym, ap, subst, ◌∙◌}
use Rattle.c_tree.specs.declared.name.FunctionName.{FunctionName}
use Rattle.c_input.proofs.Lists.{read_end_within, read_missed, read_step, IsRead, ReadsItem}
use Rattle.c_slots.specs.Tables.{layer_tokens, AreFunctions, EndsTable}
use Rattle.c_slots.proofs.Firsts.{layer_no_end, layers_close}
use Rattle.c_slots.proofs.Steps.{never}
use Rattle.c_slots.proofs.functions.layers.Goals as goal

pub returns-in_default-clause-every : goal.returns-in_default-clause-every
returns-in_default-clause-every c = λ all rest f ends e.
    let every : ReadsItem AreFunctions layer_tokens EndsTable c.loop-alloc.input c.in_ok-next.field-0 =
    λ y more after fy fm s k. c.in_ok-next.ensures.every y _ fy (layers_close more after s) k in
    absurd
    (read_missed AreFunctions layer_tokens EndsTable c.args.input.now c.loop-alloc.layers.items c.loop-alloc.input c.in_ok-next.field-0 c.loop-alloc.invariant
    (λ z. never (c.loop-alloc-test.ensures.1 z.1)) c.in_default.is every all rest f ends e)

pub loop-alloc-preserved : goal.loop-alloc-preserved
loop-alloc-preserved c =
    let every : ReadsItem AreFunctions layer_tokens EndsTable c.loop-alloc.input c.in_ok-next.field-0 =
    λ y more after fy fm s k. c.in_ok-next.ensures.every y _ fy (layers_close more after s) k in
    let P : List (List FunctionName) → Type 0 = λ z. IsRead AreFunctions layer_tokens EndsTable c.args.input.now z c.layer.new.input in
    subst P (sym c.in_ok-push.ensures.items)
    (read_step AreFunctions layer_tokens EndsTable c.args.input.now c.loop-alloc.layers.items c.loop-alloc.input c.in_ok-next.field-0 c.in-Some.next c.layer.new.input c.loop-alloc.invariant
    (λ z. never (c.loop-alloc-test.ensures.1 z.1)) c.in-Some.is c.in_ok-next.ensures.some every)

pub returns-clause-every : goal.returns-clause-every
returns-clause-every c = λ all rest f ends e. ap (λ (t : List (List FunctionName)). Some t)
    (c.from_vec.ensures
    ∙ (read_end_within AreFunctions layer_tokens EndsTable c.args.input.now c.loop-alloc.layers.items c.loop-alloc.input c.loop-alloc.invariant
    (λ y more after fy fm s k. layer_no_end c.loop-alloc.input y more after (c.loop-alloc-test.ensures.0 refl) s k) all rest f ends e).same)
