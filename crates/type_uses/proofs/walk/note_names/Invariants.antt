use Rattle.std.proofs.Common.{◌≡◌, ◌++◌, drop}
use Rattle.type_uses.specs.Shown.{all_shown}
use Rattle.type_uses.specs.Uses.{names_uses}
use Rattle.type_uses.proofs.walk.note_names.Given as goal

abbrev pub invariant-loop-declared : goal.invariant-loop-declared
invariant-loop-declared l = all_shown l.initial.out.items ++ names_uses l.kind l.names ≡ all_shown l.out.items ++ names_uses l.kind (drop l.declared-index l.names)
