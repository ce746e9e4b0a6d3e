use Rattle.std.proofs.Common.{◌∷◌, append_assoc}
use Rattle.std.specs.List.{flat_map}
use Rattle.c_token.specs.CTokens.{sign}
use Rattle.c_tree.specs.Names.{variable_token}
use Rattle.c_tree.specs.Items.{parameter_spelling}
use Rattle.c_tree.specs.declared.name.Variable.TheVariants as variable
use Rattle.c_printer.proofs.Joins.{behind}
use Rattle.c_printer.proofs.Voids.{no_void}
use Rattle.c_printer.proofs.head.parameters.Goals as goal

pub returns-in_ok-parameter-in-Some : goal.returns-in_ok-parameter-in-Some
returns-in_ok-parameter-in-Some c =
    let p = c.in-Some.first.now in
    let rest = flat_map (λ p. sign "," ∷ parameter_spelling p) c.in-Some.more.now in
    rw (c.in-Some.ensures.cases.0, append_assoc, no_void p.kind (variable_token (variable.Parameter p.number) ∷ rest))
    (rw append_assoc at (behind _ c.args.out c.in_ok-parameter-in-Some.field-0 _ _ c.in_ok-parameter-in-Some.ensures c.more_parameters.ensures))
