use Rattle.std.proofs.Common.{◌≡◌, ◌∷◌, ◌++◌, [], List, Some, None, sym, ap, subst, ◌∙◌}
use Rattle.std.specs.Prelude.{Option}
use Rattle.std.specs.List.{AllByRecursion}
use Rattle.c_token.specs.CTokens.{CToken, sign}
use Rattle.c_tree.specs.declared.item.Parameter.{Parameter}
use Rattle.c_tree.specs.Forms.{IsParameter}
use Rattle.c_tree.specs.Names.{listed}
use Rattle.c_tree.specs.Items.{parameter_spelling}
use Rattle.c_input.specs.Reads.{Finds}
use Rattle.c_input.proofs.Rows.{next_one, same_left}
use Rattle.c_operand.specs.Listed.{AreFilled}
use Rattle.c_operand.proofs.Closed.{closed, closed_empty}
use Rattle.c_function.proofs.Rows.{parameters_filled, parameters_not_void}
use Rattle.c_function.proofs.listing.parameters.Goals as goal

all : (ps : List Parameter) → AreFilled IsParameter ps → AllByRecursion IsParameter ps
all [] h = absurd h
all (p ∷ ps) h = h

pub returns-then-fixed-clause-every : goal.returns-then-fixed-clause-every
returns-then-fixed-clause-every c = λ x rest form e. go x rest form e
  where
    go : (x : List Parameter) (rest : List CToken) → AllByRecursion IsParameter x → c.args.input.now ≡ sign "(" ∷ closed parameter_spelling x rest → Some c.new.result ≡ Some x
    go [] rest h e = ap (λ (t : List Parameter). Some t) c.new.ensures
    go (t ∷ ts) rest h e = absurd (parameters_not_void t ts rest _ (sym c.if-fixed.ensures ∙ same_left (sign "(" ∷ []) _ _ (sym c.if-not-fixed.ensures ∙ e)))

pub returns-in_default-clause-every : goal.returns-in_default-clause-every
returns-in_default-clause-every c = λ x rest form e. go x rest form (same_left (sign "(" ∷ []) _ _ (sym c.if-not-fixed.ensures ∙ e))
  where
    go : (x : List Parameter) (rest : List CToken) → AllByRecursion IsParameter x → c.fixed.new.self ≡ closed parameter_spelling x rest → None ≡ Some x
    go [] rest h e = absurd (c.if-fixed.ensures.1 rest (e ∙ closed_empty parameter_spelling rest))
    go (t ∷ ts) rest h e = sym c.in_default.is ∙ c.in_ok-parameters.ensures.every (t ∷ ts) rest h (c.if-fixed.ensures.0 ∙ (e ∙ parameters_filled t ts rest))

pub returns-then-fixed-2-clause-some : goal.returns-then-fixed-2-clause-some
returns-then-fixed-2-clause-some c =
    let form : List Parameter → Type 0 = AreFilled IsParameter in
    let found : Finds form (listed parameter_spelling) c.fixed-2.new.self (Some c.in-Some.parameters) c.listed_parameters.new.input =
    subst (λ (r : Option (List Parameter)). Finds form (listed parameter_spelling) c.fixed-2.new.self r c.listed_parameters.new.input) c.in-Some.is c.in_ok-parameters.ensures.some in
    (all c.in-Some.parameters found.0, c.if-not-fixed.ensures ∙ ap (λ (z : List CToken). sign "(" ∷ z) (sym c.if-fixed.ensures.0 ∙ go c.in-Some.parameters found.0 found.1))
  where
    go : (x : List Parameter) → AreFilled IsParameter x → c.fixed-2.new.self ≡ listed parameter_spelling x ++ c.listed_parameters.new.input → c.fixed-2.new.self ≡ closed parameter_spelling x c.fixed-3.new.self
    go [] h e = absurd h
    go (t ∷ ts) h e = e ∙ (ap (λ (z : List CToken). listed parameter_spelling (t ∷ ts) ++ z) c.if-fixed-2.ensures ∙ sym (parameters_filled t ts c.fixed-3.new.self))

pub returns-then-fixed-2-clause-every : goal.returns-then-fixed-2-clause-every
returns-then-fixed-2-clause-every c = λ x rest form e. go x rest form (same_left (sign "(" ∷ []) _ _ (sym c.if-not-fixed.ensures ∙ e))
  where
    go : (x : List Parameter) (rest : List CToken) → AllByRecursion IsParameter x → c.fixed.new.self ≡ closed parameter_spelling x rest → Some c.in-Some.parameters ≡ Some x
    go [] rest h e = absurd (c.if-fixed.ensures.1 rest (e ∙ closed_empty parameter_spelling rest))
    go (t ∷ ts) rest h e = sym c.in-Some.is ∙ c.in_ok-parameters.ensures.every (t ∷ ts) rest h (c.if-fixed.ensures.0 ∙ (e ∙ parameters_filled t ts rest))

pub returns-else-fixed-2-clause-every : goal.returns-else-fixed-2-clause-every
returns-else-fixed-2-clause-every c = λ x rest form e. go x rest form (same_left (sign "(" ∷ []) _ _ (sym c.if-not-fixed.ensures ∙ e))
  where
    go : (x : List Parameter) (rest : List CToken) → AllByRecursion IsParameter x → c.fixed.new.self ≡ closed parameter_spelling x rest → None ≡ Some x
    go [] rest h e = absurd (c.if-fixed.ensures.1 rest (e ∙ closed_empty parameter_spelling rest))
    go (t ∷ ts) rest h e =
        let there : c.fixed-2.new.self ≡ listed parameter_spelling (t ∷ ts) ++ (sign ")" ∷ rest) = c.if-fixed.ensures.0 ∙ (e ∙ parameters_filled t ts rest) in
        let known = c.in_ok-parameters.ensures.every (t ∷ ts) rest h there in
        let n = next_one (AreFilled IsParameter) (listed parameter_spelling) c.fixed-2.new.self c.in_ok-parameters.field-0 c.listed_parameters.new.input c.in-Some.parameters (t ∷ ts) (sign ")" ∷ rest)
        c.in-Some.is c.in_ok-parameters.ensures.some known there in
        absurd (c.if-fixed-2.ensures.1 rest n.left)
