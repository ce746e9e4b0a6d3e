use Rattle.c_token.specs.CTokens.{c_tokens, tokens_from}
use Rattle.c_printer.proofs.Joins.{behind}
use Rattle.c_printer.proofs.place.condition.Goals as goal

pub returns-in_ok-two-in-Compare : goal.returns-in_ok-two-in-Compare
unfolding c_tokens tokens_from
returns-in_ok-two-in-Compare c = rw c.in-Compare.is (behind _ c.args.out c.in_ok-text-in-Compare.field-0 _ _ c.in_ok-text-in-Compare.ensures (behind _ c.in_ok-text-in-Compare.field-0 c.in_ok-two-in-Compare.field-0 _ _ c.in_ok-two-in-Compare.ensures c.text-in-Compare.ensures))

pub returns-in-ErrorSet : goal.returns-in-ErrorSet
unfolding c_tokens tokens_from
returns-in-ErrorSet c = rw c.in-ErrorSet.is (c.text-in-ErrorSet.ensures)
