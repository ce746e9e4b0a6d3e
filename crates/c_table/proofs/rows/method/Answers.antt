use Rattle.std.proofs.Common.{◌∷◌, []}
use Rattle.c_token.specs.CTokens.{sign}
use Rattle.c_tree.specs.Forms.{IsString}
use Rattle.c_tree.specs.Values.{string}
use Rattle.c_table.proofs.Steps.{behind, next_read}
use Rattle.c_table.proofs.rows.method.Goals as goal

pub returns-then-not-cast-clause-every : goal.returns-then-not-cast-clause-every
returns-then-not-cast-clause-every c = λ x rest form e.
    let a = behind (sign "{" ∷ []) c.args.input.now c.fixed.new.self _ c.if-not-fixed.ensures e in
    let k = next_read IsString (λ z. string z ∷ []) c.fixed.new.self c.in_ok-name.field-0 c.string.new.self c.in-Some.name x.name _ c.in-Some.is c.in_ok-name.ensures.some c.in_ok-name.ensures.every form.0 a in
    absurd (c.if-not-cast.ensures.1 _ k.left)
