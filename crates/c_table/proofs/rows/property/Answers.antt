use Rattle.std.proofs.Common.{◌∷◌, [], Some}
use Rattle.c_token.specs.CTokens.{sign}
use Rattle.c_tree.specs.Forms.{IsString}
use Rattle.c_tree.specs.Values.{string}
use Rattle.c_table.proofs.Steps.{behind, next_read, some_same}
use Rattle.c_table.proofs.rows.property.Goals as goal

pub returns-in_default-accessors-clause-every : goal.returns-in_default-accessors-clause-every
returns-in_default-accessors-clause-every c = λ x rest form e.
    let a = behind (sign "{" ∷ []) c.args.input.now c.fixed.new.self _ c.if-not-fixed.ensures e in
    let k = next_read IsString (λ z. string z ∷ []) c.fixed.new.self c.in_ok-name.field-0 c.string.new.self c.in-Some.name x.name _ c.in-Some.is c.in_ok-name.ensures.some c.in_ok-name.ensures.every form.0 a in
    let b = behind (sign "," ∷ []) c.string.new.self c.fixed-2.new.self _ c.if-not-fixed-2.ensures k.left in
    absurd (cc (c.in_default-accessors.ensures.every (x.getter, x.setter) rest (form.1, form.2) b))

pub returns-clause-every : goal.returns-clause-every
returns-clause-every c = λ x rest form e.
    let a = behind (sign "{" ∷ []) c.args.input.now c.fixed.new.self _ c.if-not-fixed.ensures e in
    let k = next_read IsString (λ z. string z ∷ []) c.fixed.new.self c.in_ok-name.field-0 c.string.new.self c.in-Some.name x.name _ c.in-Some.is c.in_ok-name.ensures.some c.in_ok-name.ensures.every form.0 a in
    let b = behind (sign "," ∷ []) c.string.new.self c.fixed-2.new.self _ c.if-not-fixed-2.ensures k.left in
    let both = some_same _ _ (c.in-Some-accessors.ensures.every (x.getter, x.setter) rest (form.1, form.2) b) in
    λ i. Some (record { name = k.same i; getter = (both i).0; setter = (both i).1 })
