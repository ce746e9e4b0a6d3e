use Rattle.std.proofs.Common.{◌≡◌, ◌++◌, ◌∷◌, take}
use Rattle.std.specs.List.{flat_map}
use Rattle.c_token.specs.CTokens.{sign}
use Rattle.c_tree.specs.Statements.{argument_spelling}
use Rattle.c_printer.proofs.place.more_arguments.Given as goal

abbrev pub invariant-loop-it : goal.invariant-loop-it
invariant-loop-it l = l.out ≡ l.initial.out ++ flat_map (λ a. sign "," ∷ argument_spelling a) (take l.it-index l.all)
