use Rattle.std.proofs.Common.{rules, refl, arith}
use Rattle.pyx_lex.proofs.Digits.{value_beyond}
use Rattle.pyx_lex.proofs.number.digits_value.Goals as goal

pub returns-in-None : goal.returns-in-None
returns-in-None c =
    value_beyond c.args.base _ c.args.run.now c.loop-byte.byte-index _ c.requires (search rules) refl (search rules)
    (rw (← c.loop-byte.invariant, ← c.digit_value.ensures) (omega (arith, c.in-None.ensures)))
