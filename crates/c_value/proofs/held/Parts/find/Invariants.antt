use Rattle.std.proofs.Common.{◌≡◌, drop}
use Rattle.c_value.specs.Parts.{part_of}
use Rattle.c_value.proofs.held.Parts.find.Given as goal

abbrev pub invariant-loop-part : goal.invariant-loop-part
invariant-loop-part l = part_of l.self l.class ≡ part_of (drop l.part-index l.self) l.class
