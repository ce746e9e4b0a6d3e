use Rattle.std.proofs.Common.{◌≡◌, ◌++◌, ◌∷◌, take}
use Rattle.std.specs.List.{flat_map}
use Rattle.c_token.specs.CTokens.{sign}
use Rattle.c_tree.specs.Items.{behind}
use Rattle.c_printer.proofs.structs.layers.Given as goal

abbrev pub invariant-loop-it : goal.invariant-loop-it
invariant-loop-it l = l.out ≡ l.initial.out ++ flat_map (λ fs. sign "}" ∷ behind fs) (take l.it-index l.all)
