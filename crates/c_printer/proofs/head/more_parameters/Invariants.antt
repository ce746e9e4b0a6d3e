use Rattle.std.proofs.Common.{◌≡◌, ◌++◌, ◌∷◌, take}
use Rattle.std.specs.List.{flat_map}
use Rattle.c_token.specs.CTokens.{sign}
use Rattle.c_tree.specs.Items.{parameter_spelling}
use Rattle.c_printer.proofs.head.more_parameters.Given as goal

abbrev pub invariant-loop-p : goal.invariant-loop-p
invariant-loop-p l = l.out ≡ l.initial.out ++ flat_map (λ p. sign "," ∷ parameter_spelling p) (take l.p-index l.all)
