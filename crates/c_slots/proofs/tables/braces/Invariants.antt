use Rattle.std.proofs.Common.{◌≡◌, ◌≤◌, ◌-◌, ◌++◌, length}
use Rattle.std.specs.Prelude.{replicate}
use Rattle.c_token.specs.CTokens.{sign}
use Rattle.c_slots.proofs.tables.braces.Given as goal

abbrev pub invariant-loop-count : goal.invariant-loop-count
invariant-loop-count l = (l.fn.input ≡ replicate l.count (sign "{") ++ l.input) × (l.count ≤ l.limit) × (l.limit ≡ length l.fn.input)

abbrev pub decreases-loop-count : goal.decreases-loop-count
decreases-loop-count l = l.limit - l.count
