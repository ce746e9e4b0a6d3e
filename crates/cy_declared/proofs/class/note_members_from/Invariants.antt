use Rattle.std.proofs.Common.{◌≡◌, ◌++◌, drop, map}
use Rattle.cy_declared.specs.Shown.{class_refs}
use Rattle.cy_declared.specs.Members.{members_from}
use Rattle.std.proofs.Common.{length}
use Rattle.cy_declared.specs.Tables.{member_table}
use Rattle.cy_declared.proofs.class.note_members_from.Given as goal

abbrev pub invariant-loop-top : goal.invariant-loop-top
invariant-loop-top l = l.initial.out ++ map member_table (members_from l.known l.set l.«module» (class_refs l.classes) 0 l.tops) ≡ l.out ++ map member_table (members_from l.known l.set l.«module» (class_refs l.classes) (length l.functions.items) (drop l.top-index l.tops))
