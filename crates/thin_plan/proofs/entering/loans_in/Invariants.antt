use Rattle.std.proofs.Common.{◌≡◌, ◌++◌, drop}
use Rattle.thin_plan.specs.Plans.{loans_in}
use Rattle.thin_plan.proofs.entering.loans_in.Given as goal

abbrev pub invariant-loop-i : goal.invariant-loop-i
invariant-loop-i l = loans_in l.ks l.vs ≡ l.lent ++ loans_in (drop l.i l.ks) (drop l.i l.vs)
