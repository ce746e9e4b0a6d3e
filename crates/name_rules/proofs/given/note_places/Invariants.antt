use Rattle.std.proofs.Common.{◌≡◌, ◌++◌, drop}
use Rattle.name_rules.specs.Given.{places_from}
use Rattle.name_rules.specs.GivenShown.{class_refs}
use Rattle.name_table.specs.EntriesShown.{entries_shown}
use Rattle.name_rules.proofs.given.note_places.Given as goal

abbrev pub invariant-loop-place : goal.invariant-loop-place
invariant-loop-place l = entries_shown l.initial.out.items ++ places_from 0 (class_refs l.classes) ≡ entries_shown l.out.items ++ places_from l.place (class_refs (drop l.place l.classes))
