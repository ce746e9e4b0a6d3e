use Rattle.std.proofs.Common.{◌≡◌, ◌++◌, List}
use Rattle.c_token.specs.CTokens.{CToken}
use Rattle.c_token.specs.Cutting.{item_start, items_from}
use Rattle.c_cut.specs.Shown.{item_shown, items_shown, place_shown}
use Rattle.c_cut.proofs.Cutting.{onto}
use Rattle.c_cut.proofs.items.cut.Given as goal

-- the items of the tokens so far and any further ones
abbrev pub invariant-loop-token : goal.invariant-loop-token
invariant-loop-token l =
    (rest : List CToken) → items_from item_start (item_shown l.yielded ++ rest) ≡ items_shown l.items ++ onto (item_shown l.item) (items_from (place_shown l.place) rest)
