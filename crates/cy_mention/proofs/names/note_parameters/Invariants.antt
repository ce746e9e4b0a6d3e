use Rattle.std.proofs.Common.{◌≡◌, ◌++◌, drop, map}
use Rattle.cy_mention.specs.Modules.{idents}
use Rattle.cy_mention.proofs.names.note_parameters.Given as goal

abbrev pub invariant-loop-param : goal.invariant-loop-param
invariant-loop-param l = idents l.initial.out.items ++ map (λ p. p.name) l.params ≡ idents l.out.items ++ map (λ p. p.name) (drop l.param-index l.params)
