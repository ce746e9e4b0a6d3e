use Rattle.std.proofs.Common.{◌≡◌, ◌++◌, take, codes}
use Rattle.std.specs.List.{flat_map}
use Rattle.thin_print.specs.CText.{parameter_text}
use Rattle.thin_print.proofs.put_parameters.Given as goal

abbrev pub invariant-loop-parameter : goal.invariant-loop-parameter
invariant-loop-parameter l = l.out.items ≡ l.initial.out.items ++ flat_map (λ x. codes ", " ++ parameter_text x) (take l.parameter-index l.more)
