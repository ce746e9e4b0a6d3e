use Rattle.std.proofs.Common.{◌≡◌, ◌++◌, ◌∷◌, [], List, ◌∙◌}
use Rattle.std.specs.Prelude.{⊤}
use Rattle.c_token.specs.CTokens.{sign}
use Rattle.c_tree.specs.Items.{types_spelling}
use Rattle.c_tree.specs.declared.value.CType.{CType}
use Rattle.c_input.proofs.Rows.{next}
use Rattle.c_table.proofs.Steps.{assoc}
use Rattle.c_item.proofs.typed.signature.Goals as goal

pub returns-else-fixed-clause-every : goal.returns-else-fixed-clause-every
returns-else-fixed-clause-every c = λ x rest form e.
    let left : c.word.new.self ≡ (types_spelling x.1 ++ (sign ";" ∷ [])) ++ rest = cc (c.in-Some.ensures.some, e) in
    let k = next (λ (z : List CType). ⊤) types_spelling c.word.new.self c.in_ok-kinds.field-0 c.types.new.input c.in-Some-3.kinds x.1 ((sign ";" ∷ []) ++ rest)
    c.in-Some-3.is c.in_ok-kinds.ensures.some c.in_ok-kinds.ensures.every tt (left ∙ assoc (types_spelling x.1) (sign ";" ∷ []) rest) in
    absurd (c.if-fixed.ensures.1 rest k.left)
