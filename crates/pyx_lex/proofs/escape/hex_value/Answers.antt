use Rattle.std.proofs.Common.{ℕ, ◌<◌, ◌^◌, arith, lit<}
use Rattle.std.proofs.Math.Nat.{pow-le-pow_right}
use Rattle.pyx_lex.proofs.escape.hex_value.Goals as goal

few_digits : (i v : ℕ) → i < 8 → v < 16 ^ i → v < 268_435_456
few_digits i v few small = omega (arith, pow-le-pow_right {n = 16} (lit< tt) {i = i} {j = 7} (omega arith))

pub overflow_mul-value : goal.overflow_mul-value
overflow_mul-value c = omega (arith, few_digits c.loop-c.c-index c.loop-c.value (omega arith) c.loop-c.invariant.small)

pub overflow_add-value : goal.overflow_add-value
overflow_add-value c =
    omega (arith, c.in-Some.ensures.value.0, c.in-Some.ensures.value.1, few_digits c.loop-c.c-index c.loop-c.value (omega arith) c.loop-c.invariant.small)
