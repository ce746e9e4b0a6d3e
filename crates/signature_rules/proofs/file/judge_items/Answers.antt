use Rattle.std.proofs.Common.{◌+◌, drop}
use Rattle.std.specs.List.{flat_map}
use Rattle.first_breach.specs.First.{IsLeastWith}
use Rattle.first_breach.proofs.Joins.{with-none}
use Rattle.signature_rules.specs.Rules.{in_item}
use Rattle.signature_rules.specs.Walk.{all_breaches}
use Rattle.signature_rules.proofs.Lists.{more-noted}
use Rattle.first_breach.proofs.Loops.{ended, next}
use Rattle.signature_rules.proofs.file.judge_items.Goals as goal

pub loop-item-preserved : goal.loop-item-preserved
loop-item-preserved c = λ last it.
    c.loop-item.invariant last
    (next (λ xs. IsLeastWith c.loop-item.least (all_breaches c.args.file (flat_map in_item xs)) last) c.args.items.now c.loop-item.item-index c.item-item.result c.loop-item-test.true c.item-item.is
    (more-noted c.args.file (in_item c.item-item.result) (flat_map in_item (drop (c.loop-item.item-index + 1) c.args.items.now)) c.judge_item-least.ensures it))

pub returns : goal.returns
returns c =
    c.loop-item.invariant c.loop-item.least
    (ended (λ xs. IsLeastWith c.loop-item.least (all_breaches c.args.file (flat_map in_item xs)) c.loop-item.least) c.args.items.now c.loop-item.item-index c.loop-item-test.false (with-none c.loop-item.least))
