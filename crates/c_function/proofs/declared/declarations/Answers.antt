use Rattle.std.proofs.Common.{◌≡◌, List, Some, false, sym, ap, subst, ◌∙◌}
use Rattle.c_token.specs.CTokens.{CToken}
use Rattle.c_tree.specs.declared.item.Declaration.{Declaration}
use Rattle.c_tree.specs.Forms.{IsDeclaration}
use Rattle.c_tree.specs.Items.{declaration_spelling}
use Rattle.c_input.proofs.Lists.{IsRead, item_every, read_end, read_missed, read_step}
use Rattle.c_operand.proofs.Opens.{not_false}
use Rattle.c_function.specs.Parts.{is_declared}
use Rattle.c_function.proofs.Rows.{declaration_declared}
use Rattle.c_function.proofs.declared.declarations.Goals as goal

abbrev stops : List CToken → Type 0
stops rest = is_declared rest ≡ false

pub returns-in_default-clause-every : goal.returns-in_default-clause-every
returns-in_default-clause-every c = λ all rest form end e. absurd
    (read_missed IsDeclaration declaration_spelling stops c.args.input.now c.loop-input.all.items c.loop-input.input c.declaration.result c.loop-input.invariant
    (λ z. not_false z (sym c.is_declared.ensures ∙ c.loop-input-test.true)) c.in_default.is
    (item_every IsDeclaration declaration_spelling stops c.loop-input.input c.declaration.result c.declaration.ensures.every) all rest form end e)

pub loop-input-preserved : goal.loop-input-preserved
loop-input-preserved c =
    let P : List Declaration → Type 0 = λ z. IsRead IsDeclaration declaration_spelling stops c.args.input.now z c.declaration.new.input in
    subst P (sym c.in_ok-push.ensures.items)
    (read_step IsDeclaration declaration_spelling stops c.args.input.now c.loop-input.all.items c.loop-input.input c.declaration.result c.in-Some.next c.declaration.new.input c.loop-input.invariant
    (λ z. not_false z (sym c.is_declared.ensures ∙ c.loop-input-test.true)) c.in-Some.is c.declaration.ensures.some
    (item_every IsDeclaration declaration_spelling stops c.loop-input.input c.declaration.result c.declaration.ensures.every))

pub returns-clause-every : goal.returns-clause-every
returns-clause-every c = λ all rest form end e.
    let r = read_end IsDeclaration declaration_spelling stops c.args.input.now c.loop-input.all.items c.loop-input.input c.loop-input.invariant
    (λ y ys f i. not_false (sym c.is_declared.ensures ∙ c.loop-input-test.false) (ap is_declared i ∙ declaration_declared y ys)) all rest form end e in
    ap (λ (t : List Declaration). Some t) (c.from_vec.ensures ∙ r.same)
