use Rattle.std.proofs.Common.{◌≡◌, ◌++◌, take, codes}
use Rattle.std.specs.List.{flat_map}
use Rattle.thin_print.specs.CText.{value_text}
use Rattle.thin_print.proofs.put_values.Given as goal

abbrev pub invariant-loop-value : goal.invariant-loop-value
invariant-loop-value l = l.out.items ≡ l.initial.out.items ++ flat_map (λ x. codes ", " ++ value_text x) (take l.value-index l.more)
