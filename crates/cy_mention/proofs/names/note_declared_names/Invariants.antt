use Rattle.std.proofs.Common.{◌≡◌, ◌++◌, drop, map}
use Rattle.cy_mention.specs.Modules.{idents}
use Rattle.cy_mention.proofs.names.note_declared_names.Given as goal

abbrev pub invariant-loop-declared : goal.invariant-loop-declared
invariant-loop-declared l = idents l.initial.out.items ++ map (λ d. d.name) l.names ≡ idents l.out.items ++ map (λ d. d.name) (drop l.declared-index l.names)
