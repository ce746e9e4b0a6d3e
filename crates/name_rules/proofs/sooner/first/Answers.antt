use Rattle.std.proofs.Common.{take, subst, List, sym}
use Rattle.std.proofs.lemmas.List.{take_more}
use Rattle.cy_base.specs.declared.place.Refusal.{Refusal}
use Rattle.name_rules.specs.First.{IsFirst}
use Rattle.name_rules.proofs.sooner.first.Goals as goal

pub loop-refusal-preserved : goal.loop-refusal-preserved
loop-refusal-preserved c =
    subst (λ (rs : List Refusal). IsFirst c.earliest.result rs) (sym (take_more c.args.refusals.now c.loop-refusal.refusal-index _ c.loop-refusal-test.true))
    (c.earliest.ensures (take c.loop-refusal.refusal-index c.args.refusals.now) c.loop-refusal.invariant)
