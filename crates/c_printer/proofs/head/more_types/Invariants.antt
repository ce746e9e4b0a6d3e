use Rattle.std.proofs.Common.{◌≡◌, ◌++◌, ◌∷◌, take}
use Rattle.std.specs.List.{flat_map}
use Rattle.c_token.specs.CTokens.{sign}
use Rattle.c_tree.specs.Values.{type_spelling}
use Rattle.c_printer.proofs.head.more_types.Given as goal

abbrev pub invariant-loop-it : goal.invariant-loop-it
invariant-loop-it l = l.out ≡ l.initial.out ++ flat_map (λ k. sign "," ∷ type_spelling k) (take l.it-index l.all)
