use Rattle.std.proofs.Common.{◌≡◌, ◌<◌, ap, ◌∙◌, sym, get_or, length, arith}
use Rattle.thin_state.specs.State.{put_spot}
use Rattle.thin_apply.proofs.Puts.{spot-hit}
use Rattle.thin_apply.proofs.apply.put_spot.Goals as goal

pub returns-then-same_place : goal.returns-then-same_place
returns-then-same_place c =
    let cell = c.index-as_slice-i.result in
    let h : c.loop-i.i < length c.loop-i.spots = rw c.loop-i.invariant.1 (omega arith) in
    let at : cell ≡ get_or c.loop-i.spots c.loop-i.i cell = c.index-as_slice-i.is ∙ ap (λ xs. get_or xs c.loop-i.i cell) c.as_slice.ensures in
    c.set.ensures
    ∙ (spot-hit c.loop-i.spots c.args.place c.args.value c.converted-value.result c.loop-i.i cell h at
    (sym c.same_place.ensures ∙ c.if-same_place.true) c.converted-value.ensures c.loop-i.invariant.0
    ∙ ap (λ xs. put_spot xs c.args.place c.args.value) c.loop-i.invariant.1)
