use Rattle.std.proofs.Common.{◌∷◌}
use Rattle.std.specs.List.{flat_map}
use Rattle.c_token.specs.CTokens.{sign}
use Rattle.c_tree.specs.Values.{type_spelling}
use Rattle.c_printer.proofs.Joins.{behind}
use Rattle.c_printer.proofs.Voids.{no_void}
use Rattle.c_printer.proofs.head.some_types.Goals as goal

pub returns-in_ok-kind-in-Some : goal.returns-in_ok-kind-in-Some
returns-in_ok-kind-in-Some c =
    rw (c.in-Some.ensures.cases.0, no_void c.in-Some.first.now (flat_map (λ k. sign "," ∷ type_spelling k) c.in-Some.more.now))
    (behind _ c.args.out c.in_ok-kind-in-Some.field-0 _ _ c.in_ok-kind-in-Some.ensures c.more_types.ensures)
