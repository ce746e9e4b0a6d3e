use Rattle.std.proofs.Common.{◌≡◌, drop}
use Rattle.thin_look.specs.Lookups.{standing_among}
use Rattle.thin_look.proofs.lookups.find_among.Given as goal

abbrev pub invariant-loop-file : goal.invariant-loop-file
invariant-loop-file l = standing_among l.from l.wanted (drop l.from l.files) ≡ standing_among l.file l.wanted (drop l.file l.files)
