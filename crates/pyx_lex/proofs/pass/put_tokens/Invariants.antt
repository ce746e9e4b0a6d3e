use denote.Shadow.{shadow}
use denote.Text.{Utf8}
use Rattle.std.proofs.Common.{◌≡◌, ◌+◌, ◌≤◌, length, false}
use Rattle.pyx_lex.specs.Laid.{with_front, read}
use Rattle.pyx_lex.specs.Layout.{items_from, start_place}
use Rattle.pyx_lex.specs.Pieces.{pieces_from}
use Rattle.pyx_lex.proofs.Forward.{Goes}
use Rattle.pyx_lex.proofs.pass.put_tokens.Given as goal

abbrev pub invariant-loop-rest : goal.invariant-loop-rest
invariant-loop-rest l =
    shadow (Utf8 l.rest)
    × (l.at + length l.rest ≡ l.start + length l.text)
    × (l.lines.depth ≤ l.at)
    × Goes l.broken l.after_name (l.start + length l.text) l.at l.rest l.lines l.out.items
    (with_front l.initial.out.items (read (items_from l.broken (l.start + length l.text) start_place (pieces_from l.broken false 0 l.start l.text))))

abbrev pub decreases-loop-rest : goal.decreases-loop-rest
decreases-loop-rest l = length l.rest
