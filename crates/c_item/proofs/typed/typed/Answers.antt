use Rattle.std.proofs.Common.{◌≡◌, ◌++◌, List, Some, refl, sym, subst, ◌∙◌}
use Rattle.std.specs.Prelude.{⊤, Option}
use Rattle.c_token.specs.CTokens.{CToken}
use Rattle.c_tree.specs.declared.item.CItem.{CItem}
use Rattle.c_tree.specs.declared.item.CItem.TheVariants as item
use Rattle.c_tree.specs.declared.name.FunctionName.{FunctionName}
use Rattle.c_tree.specs.declared.value.CResult.{CResult}
use Rattle.c_tree.specs.declared.value.CType.{CType}
use Rattle.c_tree.specs.Forms.{IsFunctionName}
use Rattle.c_tree.specs.Values.{result_spelling}
use Rattle.c_input.specs.Reads.{Finds}
use Rattle.c_table.proofs.Steps as step
use Rattle.c_item.specs.Typed.{prototype, typed_tokens, variable, IsTyped}
use Rattle.c_item.proofs.Typing.{a_variable, behind_kind, kind_of, no_variable, prototype_read, signature_tokens, typed_split, variable_read}
use Rattle.c_item.proofs.typed.typed.Goals as goal

pub returns-in_default-clause-every : goal.returns-in_default-clause-every
returns-in_default-clause-every c = λ x rest form e. absurd (cc (c.in_default.ensures.every (kind_of x) (behind_kind x ++ rest) tt (e ∙ typed_split c.args.is_static x rest form)))

pub returns-in_default-place-clause-every : goal.returns-in_default-place-clause-every
returns-in_default-place-clause-every c = λ x rest form e.
    let k = step.next (λ (z : CResult). ⊤) result_spelling c.args.input.now c.result_type.new.input c.in-Some.result_type (kind_of x) (behind_kind x ++ rest) c.in-Some.ensures.some c.in-Some.ensures.every tt (e ∙ typed_split c.args.is_static x rest form) in
    absurd (go x rest form k.left)
  where
    go : (x : CItem) (rest : List CToken) → IsTyped c.args.is_static x → c.result_type.new.input ≡ behind_kind x ++ rest → ⊥
    go (item.Prototype kind f kinds) rest form e = no_variable f kinds c.result_type.new.input rest e (c.if-sees.ensures.0 refl)
    go (item.StaticPrototype kind f kinds) rest form e = no_variable f kinds c.result_type.new.input rest e (c.if-sees.ensures.0 refl)
    go (item.Static kind x) rest form e = cc (c.in_default-place.ensures.every x rest form.1 e)
    go _ rest form e = absurd form

pub returns-then-sees-clause-some : goal.returns-then-sees-clause-some
returns-then-sees-clause-some c =
    let P : Option CItem → Type 0 = λ z. Finds (IsTyped c.args.is_static) typed_tokens c.args.input.now z c.place.new.input in
    subst P (sym c.variable.ensures)
    (variable_read c.args.is_static c.in-Some.result_type c.in-Some-place.place c.args.input.now c.result_type.new.input c.place.new.input c.in-Some-place.ensures.some.0 c.in-Some.ensures.some.1 c.in-Some-place.ensures.some.1)

pub returns-then-sees-clause-every : goal.returns-then-sees-clause-every
returns-then-sees-clause-every c = λ x rest form e.
    let k = step.next (λ (z : CResult). ⊤) result_spelling c.args.input.now c.result_type.new.input c.in-Some.result_type (kind_of x) (behind_kind x ++ rest) c.in-Some.ensures.some c.in-Some.ensures.every tt (e ∙ typed_split c.args.is_static x rest form) in
    c.variable.ensures ∙ go x rest form k.same k.left
  where
    go : (x : CItem) (rest : List CToken) → IsTyped c.args.is_static x → c.in-Some.result_type ≡ kind_of x → c.result_type.new.input ≡ behind_kind x ++ rest
        → variable c.args.is_static c.in-Some.result_type c.in-Some-place.place ≡ Some x
    go (item.Prototype kind f kinds) rest form same e = absurd (no_variable f kinds c.result_type.new.input rest e (c.if-sees.ensures.0 refl))
    go (item.StaticPrototype kind f kinds) rest form same e = absurd (no_variable f kinds c.result_type.new.input rest e (c.if-sees.ensures.0 refl))
    go (item.Static kind x) rest form same e =
        let place = step.some_same _ _ (c.in-Some-place.ensures.every x rest form.1 e) in
        λ i. variable (form.0 i) (same i) (place i)
    go _ rest form same e = absurd form

pub returns-in_default-2-clause-every : goal.returns-in_default-2-clause-every
returns-in_default-2-clause-every c = λ x rest form e.
    let k = step.next (λ (z : CResult). ⊤) result_spelling c.args.input.now c.result_type.new.input c.in-Some.result_type (kind_of x) (behind_kind x ++ rest) c.in-Some.ensures.some c.in-Some.ensures.every tt (e ∙ typed_split c.args.is_static x rest form) in
    absurd (go x rest form k.left)
  where
    go : (x : CItem) (rest : List CToken) → IsTyped c.args.is_static x → c.result_type.new.input ≡ behind_kind x ++ rest → ⊥
    go (item.Prototype kind f kinds) rest form e = cc (sym c.in_default-2.is ∙ c.in_ok-name.ensures.every (f, kinds) rest form.1 e)
    go (item.StaticPrototype kind f kinds) rest form e = cc (sym c.in_default-2.is ∙ c.in_ok-name.ensures.every (f, kinds) rest form.1 e)
    go (item.Static kind x) rest form e = cc (c.if-sees.ensures.1 (a_variable x c.result_type.new.input rest e))
    go _ rest form e = absurd form

pub returns-clause-some : goal.returns-clause-some
returns-clause-some c =
    let Q : Option (FunctionName × List CType) → Type 0 = λ z. Finds (λ r. IsFunctionName r.0) (λ r. signature_tokens r.0 r.1) c.result_type.new.input z c.signature.new.input in
    let found = subst Q c.in-Some-2.is c.in_ok-name.ensures.some in
    let P : Option CItem → Type 0 = λ z. Finds (IsTyped c.args.is_static) typed_tokens c.args.input.now z c.signature.new.input in
    subst P (sym c.prototype.ensures)
    (prototype_read c.args.is_static c.in-Some.result_type c.in-Some-2.name c.in-Some-2.kinds c.args.input.now c.result_type.new.input c.signature.new.input found.0 c.in-Some.ensures.some.1 found.1)

pub returns-clause-every : goal.returns-clause-every
returns-clause-every c = λ x rest form e.
    let k = step.next (λ (z : CResult). ⊤) result_spelling c.args.input.now c.result_type.new.input c.in-Some.result_type (kind_of x) (behind_kind x ++ rest) c.in-Some.ensures.some c.in-Some.ensures.every tt (e ∙ typed_split c.args.is_static x rest form) in
    c.prototype.ensures ∙ go x rest form k.same k.left
  where
    go : (x : CItem) (rest : List CToken) → IsTyped c.args.is_static x → c.in-Some.result_type ≡ kind_of x → c.result_type.new.input ≡ behind_kind x ++ rest
        → prototype c.args.is_static c.in-Some.result_type c.in-Some-2.name c.in-Some-2.kinds ≡ Some x
    go (item.Prototype kind f kinds) rest form same e =
        let both = step.some_same _ _ (sym c.in-Some-2.is ∙ c.in_ok-name.ensures.every (f, kinds) rest form.1 e) in
        λ i. prototype (form.0 i) (same i) (both i).0 (both i).1
    go (item.StaticPrototype kind f kinds) rest form same e =
        let both = step.some_same _ _ (sym c.in-Some-2.is ∙ c.in_ok-name.ensures.every (f, kinds) rest form.1 e) in
        λ i. prototype (form.0 i) (same i) (both i).0 (both i).1
    go (item.Static kind x) rest form same e = absurd (cc (c.if-sees.ensures.1 (a_variable x c.result_type.new.input rest e)))
    go _ rest form same e = absurd form
