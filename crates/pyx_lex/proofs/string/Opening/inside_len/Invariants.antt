use Rattle.std.proofs.Common.{◌≡◌, ◌+◌, drop, false}
use Rattle.pyx_lex.specs.Strings.{inside_len}
use Rattle.pyx_lex.proofs.string.Opening.inside_len.Given as goal

abbrev pub invariant-loop-i : goal.invariant-loop-i
invariant-loop-i l = l.i + inside_len l.self l.taken (drop l.i l.text) ≡ inside_len l.self false l.text
