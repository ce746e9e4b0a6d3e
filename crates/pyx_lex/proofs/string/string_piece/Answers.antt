use Rattle.std.proofs.Common.{◌≡◌, ◌+◌, subst, rules}
use Rattle.std.specs.Str.{IsCharBoundary}
use Rattle.pyx_lex.specs.Strings.{opening_at}
use Rattle.pyx_lex.proofs.Boundaries.{opening_cut, inside_cut, inside_bytes}
use Rattle.pyx_lex.proofs.string.string_piece.Goals as goal

pub range-inside-requires-clause-start_boundary : goal.range-inside-requires-clause-start_boundary
range-inside-requires-clause-start_boundary c =
    let text = c.args.text.now in
    let same : (opening_at text).len ≡ c.bounds_of-bounds.result.opening.len = search rules in
    λ pos. subst (IsCharBoundary text) same (opening_cut text c.utf8.text c.requires)

pub range-inside-requires-clause-end_boundary : goal.range-inside-requires-clause-end_boundary
range-inside-requires-clause-end_boundary c =
    let text = c.args.text.now in
    let same : (opening_at text).len + inside_bytes text ≡ c.bounds_of-bounds.result.opening.len + c.bounds_of-bounds.result.inside = search rules in
    subst (IsCharBoundary text) same (inside_cut text c.utf8.text c.requires)
