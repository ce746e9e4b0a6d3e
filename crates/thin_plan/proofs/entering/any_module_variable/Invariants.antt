use Rattle.std.proofs.Common.{◌≡◌, drop}
use Rattle.thin_state.specs.Reads.{any_module_variable}
use Rattle.thin_plan.proofs.entering.any_module_variable.Given as goal

abbrev pub invariant-loop-i : goal.invariant-loop-i
invariant-loop-i l = any_module_variable l.ks l.vs ≡ any_module_variable (drop l.i l.ks) (drop l.i l.vs)
