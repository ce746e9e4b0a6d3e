use Rattle.std.proofs.Common.{◌≡◌, take}
use Rattle.pyx_lex.specs.Numbers.{digits_value}
use Rattle.pyx_lex.proofs.number.digits_value.Given as goal

abbrev pub invariant-loop-byte : goal.invariant-loop-byte
invariant-loop-byte l = l.value ≡ digits_value l.base (take l.byte-index l.run)
