use Rattle.std.proofs.Common.{◌≡◌, ◌-◌, length, take, drop, ◌∙◌, ap, arith}
use Rattle.std.proofs.lemmas.List.{length-drop, take_all}
use Rattle.token_input.specs.Ended.{is_ended}
use Rattle.pyx_parse.proofs.Whole.{ended_behind}
use Rattle.pyx_parse.proofs.answer.from.Goals as goal

pub returns-clause-ended : goal.returns-clause-ended
returns-clause-ended c =
    let list = c.as_slice.result.now in
    let rest = drop c.args.at list in
    let e : take (length list - c.args.at) rest ≡ rest = take_all (length list - c.args.at) rest (omega (arith, length-drop c.args.at list)) in
    let same : rest ≡ drop c.args.at c.args.tokens.now.list = ap (drop c.args.at) c.as_slice.ensures in
    ap is_ended (e ∙ same) ∙ ended_behind _ _ c.requires.ended c.requires.within
