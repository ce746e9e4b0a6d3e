use Rattle.std.proofs.Common.{◌++◌, ◌∷◌, [], List, ◌<◌, ◌^◌, ◌∙◌, arith}
use Rattle.std.specs.Prelude.{⊤, decimal, codes}
use Rattle.c_token.specs.CTokens.{CToken, Word, sign}
use Rattle.c_tree.specs.declared.value.CType.{CType}
use Rattle.c_tree.specs.Names.{letter_token}
use Rattle.c_tree.specs.Values.{type_spelling}
use Rattle.c_tree.specs.Forms.{IsNumber}
use Rattle.c_table.proofs.Steps.{assoc, next, some_same}
use Rattle.c_table.proofs.parts.field.Goals as goal

pub returns-in_err-found-clause-every : goal.returns-in_err-found-clause-every
returns-in_err-found-clause-every c = λ x rest form e.
    let behind : List CToken = letter_token "f" c.args.number ∷ sign ";" ∷ [] in
    let k = next (λ (z : CType). ⊤) type_spelling c.args.input.now c.kind.new.input c.in_ok-kind.kind x (behind ++ rest) c.in_ok-kind.ensures.some c.in_ok-kind.ensures.every tt (e ∙ assoc (type_spelling x) behind rest) in
    let small : c.args.number < 2 ^ 32 = omega arith in
    absurd (cc (c.in_err-found.ensures.every c.args.number (sign ";" ∷ rest) small k.left))

pub returns-then-found-number-clause-every : goal.returns-then-found-number-clause-every
returns-then-found-number-clause-every c = λ x rest form e.
    let behind : List CToken = letter_token "f" c.args.number ∷ sign ";" ∷ [] in
    let k = next (λ (z : CType). ⊤) type_spelling c.args.input.now c.kind.new.input c.in_ok-kind.kind x (behind ++ rest) c.in_ok-kind.ensures.some c.in_ok-kind.ensures.every tt (e ∙ assoc (type_spelling x) behind rest) in
    let small : c.args.number < 2 ^ 32 = omega arith in
    absurd (c.if-found-number.true (some_same c.in_ok-found.found c.args.number (c.in_ok-found.ensures.every c.args.number (sign ";" ∷ rest) small k.left)))

pub returns-else-fixed-clause-every : goal.returns-else-fixed-clause-every
returns-else-fixed-clause-every c = λ x rest form e.
    let behind : List CToken = letter_token "f" c.args.number ∷ sign ";" ∷ [] in
    let k = next (λ (z : CType). ⊤) type_spelling c.args.input.now c.kind.new.input c.in_ok-kind.kind x (behind ++ rest) c.in_ok-kind.ensures.some c.in_ok-kind.ensures.every tt (e ∙ assoc (type_spelling x) behind rest) in
    let small : c.args.number < 2 ^ 32 = omega arith in
    let l = next IsNumber (λ n. Word (codes "f" ++ decimal n) ∷ []) c.kind.new.input c.lettered.new.self c.in_ok-found.found c.args.number (sign ";" ∷ rest) c.in_ok-found.ensures.some c.in_ok-found.ensures.every small k.left in
    absurd (c.if-fixed.ensures.1 rest l.left)
