use Rattle.std.proofs.Common.{◌≡◌, ◌++◌, ◌∷◌, [], List, Some, sym, ap, subst, ◌∙◌}
use Rattle.std.specs.Prelude.{⊤}
use Rattle.std.specs.List.{AllByRecursion}
use Rattle.c_token.specs.CTokens.{CToken}
use Rattle.c_tree.specs.declared.item.CHead.{CHead}
use Rattle.c_tree.specs.declared.value.CResult.{CResult}
use Rattle.c_tree.specs.Forms.{IsParameter}
use Rattle.c_tree.specs.Items.{function_token, head_spelling}
use Rattle.c_tree.specs.Values.{result_spelling}
use Rattle.c_input.proofs.Rows.{next}
use Rattle.c_operand.proofs.Commas.{append_assoc, found}
use Rattle.c_function.specs.Heads.{plain_function, plain_head_of, IsPlainHead, IsPlainName}
use Rattle.c_function.specs.Parts.{parameters_spelling}
use Rattle.c_function.specs.declared.heads.PlainName.{PlainName}
use Rattle.c_function.proofs.HeadRows.{plain_in_form, plain_of, plain_spelled, IsPlainOf}
use Rattle.c_function.proofs.Rows.{one_value}
use Rattle.c_function.proofs.heads.plain_head.Goals as goal

abbrev spelled_name : PlainName → List CToken
spelled_name n = function_token (plain_function n) ∷ []

-- the result's spelling, and what stands behind it
first : (x : CHead) (p : IsPlainOf x) (rest old : List CToken) → old ≡ head_spelling x ++ rest → old ≡ result_spelling p.kind ++ (function_token (plain_function p.name) ∷ (parameters_spelling p.parameters ++ rest))
first x p rest old e = e ∙ (ap (λ (t : List CToken). t ++ rest) p.spelled ∙ append_assoc (result_spelling p.kind) (function_token (plain_function p.name) ∷ parameters_spelling p.parameters) rest)

pub returns-in_default-plain_name-clause-every : goal.returns-in_default-plain_name-clause-every
returns-in_default-plain_name-clause-every c = λ x rest form e.
    let p = plain_of x form in
    let after : List CToken = parameters_spelling p.parameters ++ rest in
    let n = next (λ (_ : CResult). ⊤) result_spelling c.args.input.now c.result_type.result c.result_type.new.input c.in-Some.given p.kind (function_token (plain_function p.name) ∷ after)
    c.in-Some.is c.result_type.ensures.some c.result_type.ensures.every tt (first x p rest c.args.input.now e) in
    absurd (cc (c.in_default-plain_name.ensures.every p.name after p.form n.left))

pub returns-in_default-2-clause-every : goal.returns-in_default-2-clause-every
returns-in_default-2-clause-every c = λ x rest form e.
    let p = plain_of x form in
    let after : List CToken = parameters_spelling p.parameters ++ rest in
    let n = next (λ (_ : CResult). ⊤) result_spelling c.args.input.now c.result_type.result c.result_type.new.input c.in-Some.given p.kind (function_token (plain_function p.name) ∷ after)
    c.in-Some.is c.result_type.ensures.some c.result_type.ensures.every tt (first x p rest c.args.input.now e) in
    let m = next IsPlainName spelled_name c.result_type.new.input c.plain_name.result c.plain_name.new.input c.in-Some-plain_name.name p.name after
    c.in-Some-plain_name.is c.plain_name.ensures.some c.plain_name.ensures.every p.form n.left in
    absurd (cc (c.in_default-2.is, c.in_ok-parameters.ensures.every p.parameters rest p.within m.left))

pub returns-clause-some : goal.returns-clause-some
returns-clause-some c =
    let parameters = found (AllByRecursion IsParameter) parameters_spelling c.plain_name.new.input c.in_ok-parameters.field-0 c.parameters.new.input c.in-Some-2.parameters c.in-Some-2.is c.in_ok-parameters.ensures.some in
    let given = c.in-Some.ensures.some.1 in
    let name = c.in-Some-plain_name.ensures.some in
    let token = function_token (plain_function c.in-Some-plain_name.name) in
    let spelled : c.args.input.now ≡ head_spelling (plain_head_of c.in-Some-plain_name.name c.in-Some.given c.in-Some-2.parameters) ++ c.parameters.new.input =
    given ∙ (ap (λ (t : List CToken). result_spelling c.in-Some.given ++ t) (name.1 ∙ ap (λ (t : List CToken). token ∷ t) parameters.1)
    ∙ (sym (append_assoc (result_spelling c.in-Some.given) (token ∷ parameters_spelling c.in-Some-2.parameters) c.parameters.new.input)
    ∙ ap (λ (t : List CToken). t ++ c.parameters.new.input) (sym (plain_spelled c.in-Some-plain_name.name c.in-Some.given c.in-Some-2.parameters)))) in
    let P : CHead → Type 0 = λ z. IsPlainHead z × (c.args.input.now ≡ head_spelling z ++ c.parameters.new.input) in
    subst P (sym c.plain.ensures) (plain_in_form c.in-Some-plain_name.name c.in-Some.given c.in-Some-2.parameters name.0 parameters.0, spelled)

pub returns-clause-every : goal.returns-clause-every
returns-clause-every c = λ x rest form e.
    let p = plain_of x form in
    let after : List CToken = parameters_spelling p.parameters ++ rest in
    let n = next (λ (_ : CResult). ⊤) result_spelling c.args.input.now c.result_type.result c.result_type.new.input c.in-Some.given p.kind (function_token (plain_function p.name) ∷ after)
    c.in-Some.is c.result_type.ensures.some c.result_type.ensures.every tt (first x p rest c.args.input.now e) in
    let m = next IsPlainName spelled_name c.result_type.new.input c.plain_name.result c.plain_name.new.input c.in-Some-plain_name.name p.name after
    c.in-Some-plain_name.is c.plain_name.ensures.some c.plain_name.ensures.every p.form n.left in
    let ps : c.in-Some-2.parameters ≡ p.parameters = one_value _ _ (sym c.in-Some-2.is ∙ c.in_ok-parameters.ensures.every p.parameters rest p.within m.left) in
    ap (λ z. Some z) (c.plain.ensures ∙ ((λ i. plain_head_of (m.same i) (n.same i) (ps i)) ∙ p.is))
