use Rattle.std.proofs.Common.{◌≡◌, ◌-◌}
use Rattle.std.specs.List.{list_any}
use Rattle.cy_tree.specs.Bases.{class_eq, found_from, is_base}
use Rattle.cy_coerce.proofs.base.is_base.Given as goal

abbrev pub invariant-loop-step : goal.invariant-loop-step
invariant-loop-step l = is_base l.set l.fn.base l.fn.class ≡ list_any (class_eq l.base) (found_from (31 - l._step) l.set l.found)
