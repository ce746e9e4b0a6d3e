use Rattle.std.proofs.Common.{◌≡◌, ◌++◌, drop, map}
use Rattle.name_rules.specs.Given.{member_table}
use Rattle.name_rules.specs.GivenShown.{class_refs}
use Rattle.name_rules.proofs.given.member_tables.Given as goal

abbrev pub invariant-loop-class : goal.invariant-loop-class
invariant-loop-class l = map member_table (class_refs l.classes) ≡ l.tables ++ map member_table (class_refs (drop l.class-index l.classes))
