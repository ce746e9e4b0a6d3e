use Rattle.std.proofs.Common.{sym, ◌∙◌}
use Rattle.c_value.proofs.Putting.{found-part}
use Rattle.c_value.proofs.held.place_of.Goals as goal

pub returns-then-same_number : goal.returns-then-same_number
returns-then-same_number c = (
  c.loop-at-test.true,
  found-part c.args.parts.now c.loop-at.at c.args.class c.index-parts-at.result c.loop-at-test.true c.index-parts-at.is
      (sym c.same_number.ensures ∙ c.if-same_number.true) c.loop-at.invariant,
)
