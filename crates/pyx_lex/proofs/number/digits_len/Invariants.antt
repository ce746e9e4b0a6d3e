use Rattle.std.proofs.Common.{◌≡◌, ◌+◌, drop}
use Rattle.pyx_lex.specs.Numbers.{digits_len}
use Rattle.pyx_lex.proofs.number.digits_len.Given as goal

abbrev pub invariant-loop-i : goal.invariant-loop-i
invariant-loop-i l = l.i + digits_len l.base (drop l.i l.text) ≡ digits_len l.base l.text
