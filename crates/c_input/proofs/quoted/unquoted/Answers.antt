use Rattle.std.proofs.Common.{◌≡◌, [], sym, subst, arith, List, ℕ}
use Rattle.std.specs.Prelude.{◌≢◌}
use Rattle.std.proofs.lemmas.Grind.{common_steps}
use Rattle.c_input.proofs.Strings.{IsUndone, undone_every, undone_none, undone_step}
use Rattle.c_input.proofs.quoted.unquoted.Goals as goal

pub returns-in_default-clause-every : goal.returns-in_default-clause-every
returns-in_default-clause-every c = λ bytes form e.
    let some : c.loop-rest.rest.now ≢ [] = λ z. grind (arith, common_steps) in
    absurd (undone_none c.args.raw.now c.loop-rest.bytes.items c.loop-rest.rest.now c.loop-rest.invariant some (λ y ys small k. c.in_default.ensures.every y ys small k) bytes form e)

pub loop-rest-preserved : goal.loop-rest-preserved
loop-rest-preserved c =
    let some : c.loop-rest.rest.now ≢ [] = λ z. grind (arith, common_steps) in
    let P : List ℕ → Type 0 = λ z. IsUndone c.args.raw.now z c.in-Some.more.now in
    subst P (sym c.in_ok-push.ensures.items)
    (undone_step c.args.raw.now c.loop-rest.bytes.items c.loop-rest.rest.now c.in-Some.more.now c.in-Some.byte c.in-Some.ensures.some.0 c.loop-rest.invariant some c.in-Some.ensures.some.1 c.in-Some.ensures.every)

pub returns-clause-every : goal.returns-clause-every
returns-clause-every c = λ bytes form e.
    let none : c.loop-rest.rest.now ≡ [] = grind (arith, common_steps) in
    let same : c.loop-rest.bytes.items ≡ bytes = undone_every c.args.raw.now c.loop-rest.bytes.items c.loop-rest.rest.now c.loop-rest.invariant none bytes form e in
    cc
