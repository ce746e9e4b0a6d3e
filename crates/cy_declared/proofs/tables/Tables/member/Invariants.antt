use Rattle.std.proofs.Common.{◌≡◌, ◌-◌}
use Rattle.cy_tree.specs.Bases.{found_from}
use Rattle.cy_declared.specs.Tables.{nearest_among, nearest_member}
use Rattle.cy_declared.proofs.tables.Tables.member.Given as goal

abbrev pub invariant-loop-step : goal.invariant-loop-step
invariant-loop-step l = nearest_member l.set l.self l.fn.class l.name ≡ nearest_among l.self (found_from (32 - l._step) l.set l.found) l.name
