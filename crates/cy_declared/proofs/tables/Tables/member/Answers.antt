use Rattle.std.proofs.Common.{◌≡◌, ◌-◌, ℕ, ◌+◌, suc, Option, Some, ap, sym, ◌∙◌, arith}
use Rattle.cy_tree.specs.declared.ty.ClassId.{ClassId}
use Rattle.cy_tree.specs.Bases.{found_from}
use Rattle.cy_declared.specs.Members.{as_said}
use Rattle.cy_declared.specs.Tables.{nearest_among}
use Rattle.cy_declared.proofs.Nearest.{nearest-above, nearest-here, nearest-none}
use Rattle.cy_declared.proofs.tables.Tables.member.Goals as goal

pub returns-in-None : goal.returns-in-None
returns-in-None c =
    let set = c.args.set.now in
    let t = c.args.self.now in
    let n = 32 - c.loop-step._step in
    sym (c.loop-step.invariant ∙ ap (λ (o : Option ClassId). nearest_among t (found_from n set o) c.args.name.now) c.in-None.is ∙ nearest-none n set t c.args.name.now)

pub returns-in-Some-as_said : goal.returns-in-Some-as_said
returns-in-Some-as_said c =
    let set = c.args.set.now in
    let t = c.args.self.now in
    let name = c.args.name.now in
    let n = 32 - c.loop-step._step in
    let m = 32 - (c.loop-step._step + 1) in
    let one : n ≡ suc m = omega (arith, c.loop-step-test.true, c.loop-step.auto._step-end) in
    sym (c.loop-step.invariant
    ∙ ap (λ (o : Option ClassId). nearest_among t (found_from n set o) name) c.in-Some.is
    ∙ ap (λ (k : ℕ). nearest_among t (found_from k set (Some c.in-Some.above)) name) one
    ∙ nearest-here m set t c.in-Some.above name c.in-Some-as_said.said (ap as_said (sym c.find_member.ensures) ∙ sym c.as_said.ensures ∙ c.in-Some-as_said.is))

pub loop-step-preserved : goal.loop-step-preserved
loop-step-preserved c =
    let set = c.args.set.now in
    let t = c.args.self.now in
    let name = c.args.name.now in
    let n = 32 - c.loop-step._step in
    let m = 32 - (c.loop-step._step + 1) in
    let one : n ≡ suc m = omega (arith, c.loop-step-test.true, c.loop-step.auto._step-end) in
    c.loop-step.invariant
    ∙ ap (λ (o : Option ClassId). nearest_among t (found_from n set o) name) c.in-Some.is
    ∙ ap (λ (k : ℕ). nearest_among t (found_from k set (Some c.in-Some.above)) name) one
    ∙ nearest-above m set t c.in-Some.above name (ap as_said (sym c.find_member.ensures) ∙ sym c.as_said.ensures ∙ c.in-None-as_said.is)
    ∙ ap (λ (o : Option ClassId). nearest_among t (found_from m set o) name) (sym c.base_of-found.ensures)

pub returns : goal.returns
returns c =
    let n = 32 - c.loop-step._step in
    let done : n ≡ 0 = omega (arith, c.loop-step-test.false, c.loop-step.auto._step-end) in
    sym (c.loop-step.invariant ∙ ap (λ (k : ℕ). nearest_among c.args.self.now (found_from k c.args.set.now c.loop-step.found) c.args.name.now) done)
