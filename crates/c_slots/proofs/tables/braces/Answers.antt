use Rattle.std.proofs.Common.{◌++◌, drop, sym, ap, ◌∙◌}
use Rattle.std.specs.Prelude.{replicate}
use Rattle.c_token.specs.CTokens.{sign}
use Rattle.c_slots.proofs.Firsts.{first_of}
use Rattle.c_slots.proofs.tables.braces.Goals as goal

pub returns-else-fixed : goal.returns-else-fixed
returns-else-fixed c =
    let left = sym c.if-fixed.ensures.0 in (
      c.loop-count.invariant.0 ∙ ap (λ t. replicate c.loop-count.count (sign "{") ++ t) left,
      λ z. c.if-fixed.ensures.1 (drop 1 c.fixed.new.self) (left ∙ first_of c.fixed.new.self (sign "{") z),
    )
