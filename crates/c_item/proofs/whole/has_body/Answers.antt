use Rattle.std.proofs.Common.{Some, sym, ap, ◌∙◌}
use Rattle.c_cut.specs.Shown.{token_shown}
use Rattle.c_token.specs.CTokens.{sign}
use Rattle.c_table.proofs.Steps.{some_same}
use Rattle.c_item.proofs.Lasts.{last_shown}
use Rattle.c_item.proofs.whole.has_body.Goals as goal

pub returns-in-len1-up : goal.returns-in-len1-up
returns-in-len1-up c =
    let last = last_shown c.args.tokens.now c.last-item.result c.in-len1-up.len_at_least c.last-item.is in
    (λ h. last ∙ ap Some (c.is_piece.ensures.0 h), λ h. c.is_piece.ensures.1 (some_same (token_shown c.last-item.result) (sign "}") (sym last ∙ h)))
