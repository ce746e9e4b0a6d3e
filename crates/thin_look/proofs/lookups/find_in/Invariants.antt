use Rattle.std.proofs.Common.{◌≡◌, drop}
use Rattle.thin_look.specs.Lookups.{standing_from}
use Rattle.thin_look.proofs.lookups.find_in.Given as goal

abbrev pub invariant-loop-item : goal.invariant-loop-item
invariant-loop-item l = standing_from l.file 0 l.wanted l.items ≡ standing_from l.file l.item l.wanted (drop l.item l.items)
