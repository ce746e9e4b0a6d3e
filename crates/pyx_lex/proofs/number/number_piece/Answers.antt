use Rattle.std.proofs.Common.{◌≡◌, ◌+◌, subst, rules}
use Rattle.std.specs.Str.{IsCharBoundary}
use Rattle.pyx_lex.specs.Numbers.{number_len}
use Rattle.pyx_lex.proofs.Boundaries.{number_cut, number_some}
use Rattle.pyx_lex.proofs.number.number_piece.Goals as goal

pub range_from-requires : goal.range_from-requires
range_from-requires c =
    let text = c.args.text.now in
    let same : number_len text ≡ c.literal_at-literal.result.prefix + c.literal_at-literal.result.digits = search rules in
    λ pos. subst (IsCharBoundary text) same (number_cut text c.utf8.text (number_some text c.requires))
