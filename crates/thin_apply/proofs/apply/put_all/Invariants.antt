use Rattle.std.proofs.Common.{◌≡◌, ◌+◌, ◌≤◌, ◌++◌, length, reverse, vec_len, vec_capacity}
use Rattle.thin_apply.proofs.apply.put_all.Given as goal

abbrev pub invariant-loop-object : goal.invariant-loop-object
invariant-loop-object l =
    (l.initial.loans.items ++ reverse l.fn.lent ≡ l.loans.items ++ reverse l.lent)
    × (vec_len l.initial.loans + length l.fn.lent ≡ vec_len l.loans + length l.lent)
    × (vec_capacity l.initial.loans ≤ vec_capacity l.loans)

abbrev pub decreases-loop-object : goal.decreases-loop-object
decreases-loop-object l = length l.lent
