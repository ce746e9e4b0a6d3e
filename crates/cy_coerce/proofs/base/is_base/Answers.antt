use Rattle.std.proofs.Common.{◌≡◌, ◌-◌, ℕ, ◌+◌, suc, Bool, ◌||◌, Option, Some, ap, sym, ◌∙◌, arith}
use Rattle.cy_tree.specs.declared.ty.ClassId.{ClassId}
use Rattle.cy_tree.specs.Bases.{base_of}
use Rattle.cy_coerce.proofs.Steps.{among, among-none, among-some}
use Rattle.cy_coerce.proofs.base.is_base.Goals as goal

pub returns-in-None : goal.returns-in-None
returns-in-None c =
    let n = 31 - c.loop-step._step in
    sym (c.loop-step.invariant ∙ ap (λ (o : Option ClassId). among n c.args.set.now c.args.base o) c.in-None.is ∙ among-none n c.args.set.now c.args.base)

pub returns-then-same_class : goal.returns-then-same_class
returns-then-same_class c =
    let set = c.args.set.now in
    let n = 31 - c.loop-step._step in
    let m = 31 - (c.loop-step._step + 1) in
    let one : n ≡ suc m = omega (arith, c.loop-step-test.true, c.loop-step.auto._step-end) in
    sym (c.loop-step.invariant
    ∙ ap (λ (o : Option ClassId). among n set c.args.base o) c.in-Some.is
    ∙ ap (λ (k : ℕ). among k set c.args.base (Some c.in-Some.above)) one
    ∙ among-some m set c.args.base c.in-Some.above
    ∙ ap (λ (b : Bool). b || among m set c.args.base (base_of set c.in-Some.above)) (sym c.same_class.ensures ∙ c.if-same_class.true))

pub loop-step-preserved : goal.loop-step-preserved
loop-step-preserved c =
    let set = c.args.set.now in
    let n = 31 - c.loop-step._step in
    let m = 31 - (c.loop-step._step + 1) in
    let one : n ≡ suc m = omega (arith, c.loop-step-test.true, c.loop-step.auto._step-end) in
    c.loop-step.invariant
    ∙ ap (λ (o : Option ClassId). among n set c.args.base o) c.in-Some.is
    ∙ ap (λ (k : ℕ). among k set c.args.base (Some c.in-Some.above)) one
    ∙ among-some m set c.args.base c.in-Some.above
    ∙ ap (λ (b : Bool). b || among m set c.args.base (base_of set c.in-Some.above)) (sym c.same_class.ensures ∙ c.if-same_class.false)
    ∙ ap (λ (o : Option ClassId). among m set c.args.base o) (sym c.base_of-found-in-Some.ensures)

pub returns : goal.returns
returns c =
    let n = 31 - c.loop-step._step in
    let done : n ≡ 0 = omega (arith, c.loop-step-test.false, c.loop-step.auto._step-end) in
    sym (c.loop-step.invariant ∙ ap (λ (k : ℕ). among k c.args.set.now c.args.base c.loop-step.found) done)
