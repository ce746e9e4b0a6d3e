use Rattle.std.proofs.Common.{◌≡◌, subst, rules}
use Rattle.std.specs.Str.{IsCharBoundary}
use Rattle.pyx_lex.specs.Signs.{sign_len}
use Rattle.pyx_lex.proofs.Boundaries.{sign_cut}
use Rattle.pyx_lex.proofs.sign.sign_piece.Goals as goal

pub range-requires-clause-end_boundary : goal.range-requires-clause-end_boundary
range-requires-clause-end_boundary c =
    let text = c.args.text.now in
    let same : sign_len text ≡ c.sign_len-len.result = search rules in
    subst (IsCharBoundary text) same (sign_cut text c.utf8.text)
