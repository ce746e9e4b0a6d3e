-- The turns of `for x in range(a, b, c)` (Python library reference, `range`), over whole numbers.
use Rattle.std.specs.Prelude.{ℕ, suc, List, map, ℤ, pos, negsuc, ◌+ℤ◌, ◌*ℤ◌, ◌<ℤ◌}
use Rattle.std.specs.Int.{int_gap, div_ceil}
use Rattle.std.specs.List.{range_with_len}

-- v lies before the end b, in the direction of the step c: below it, or above it where c is below 0
abbrev pub LiesBefore : ℤ → ℤ → ℤ → Type 0
LiesBefore b (pos c) v = v <ℤ b
LiesBefore b (negsuc c) v = b <ℤ v

-- the turn of number k, from 0
abbrev pub turn : ℤ → ℤ → ℕ → ℤ
turn a c k = a +ℤ pos k *ℤ c

-- how many turns lie before b, where the step isn't 0: the way to b by the step, rounded up
abbrev pub turn_count : ℤ → ℤ → ℤ → ℕ
turn_count a b (pos c) = div_ceil (int_gap a b) c
turn_count a b (negsuc c) = div_ceil (int_gap b a) (suc c)

-- the a + k * c, for k from 0 upwards, that lie before b
abbrev pub range_turns : ℤ → ℤ → ℤ → List ℤ
range_turns a b c = map (turn a c) (range_with_len 0 (turn_count a b c))
