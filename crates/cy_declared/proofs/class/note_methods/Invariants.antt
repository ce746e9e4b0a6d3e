use Rattle.std.proofs.Common.{◌≡◌, ◌++◌, drop}
use Rattle.cy_declared.specs.Shown.{members_shown}
use Rattle.cy_declared.specs.Members.{methods_from}
use Rattle.cy_declared.proofs.class.note_methods.Given as goal

abbrev pub invariant-loop-member : goal.invariant-loop-member
invariant-loop-member l = members_shown l.initial.out.items ++ methods_from l.«module» l.before l.members ≡ members_shown l.out.items ++ methods_from l.«module» l.count (drop l.member-index l.members)
