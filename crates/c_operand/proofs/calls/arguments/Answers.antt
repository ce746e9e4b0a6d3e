use Rattle.std.proofs.Common.{◌≡◌, ◌∷◌, ◌++◌, [], List, Some, None, refl, sym, ap, ◌∙◌}
use Rattle.std.specs.List.{AllByRecursion}
use Rattle.c_token.specs.CTokens.{CToken, sign}
use Rattle.c_tree.specs.declared.statement.Argument.{Argument}
use Rattle.c_tree.specs.declared.statement.Argument.TheVariants as argument
use Rattle.c_tree.specs.Forms.{IsArgument}
use Rattle.c_tree.specs.Names.{listed}
use Rattle.c_tree.specs.Statements.{argument_spelling}
use Rattle.c_input.proofs.Rows.{next_one, same_left}
use Rattle.c_operand.specs.Listed.{AreFilled}
use Rattle.c_operand.proofs.Commas.{append_assoc, behind}
use Rattle.c_operand.proofs.Opens.{value_no_close}
use Rattle.c_operand.proofs.calls.arguments.Goals as goal

no_close : (a : Argument) (rest more : List CToken) → IsArgument a → sign ")" ∷ more ≡ argument_spelling a ++ rest → ⊥
no_close (argument.Value k) rest more h e = value_no_close k rest (sign ")" ∷ more) more h e refl
no_close (argument.Str bytes) rest more h e = cc

pub returns-then-fixed-clause-every : goal.returns-then-fixed-clause-every
returns-then-fixed-clause-every c = λ x rest form e. go x rest form (sym c.if-fixed.ensures ∙ same_left (sign "(" ∷ []) _ _ (sym c.if-not-fixed.ensures ∙ e))
  where
    go : (x : List Argument) (rest : List CToken) → AllByRecursion IsArgument x → sign ")" ∷ c.fixed-2.new.self ≡ (listed argument_spelling x ++ (sign ")" ∷ [])) ++ rest → Some c.new.result ≡ Some x
    go [] rest h e = ap (λ (t : List Argument). Some t) c.new.ensures
    go (a ∷ more) rest h e = absurd (no_close a _ c.fixed-2.new.self h.0
        (e ∙ (append_assoc (listed argument_spelling (a ∷ more)) (sign ")" ∷ []) rest ∙ append_assoc (argument_spelling a) (behind argument_spelling more) (sign ")" ∷ rest))))

pub returns-else-fixed-2-clause-every : goal.returns-else-fixed-2-clause-every
returns-else-fixed-2-clause-every c = λ x rest form e. go x rest form (same_left (sign "(" ∷ []) _ _ (sym c.if-not-fixed.ensures ∙ e))
  where
    go : (x : List Argument) (rest : List CToken) → AllByRecursion IsArgument x → c.fixed.new.self ≡ (listed argument_spelling x ++ (sign ")" ∷ [])) ++ rest → None ≡ Some x
    go [] rest h e = absurd (c.if-fixed.ensures.1 rest e)
    go (a ∷ more) rest h e =
        let there : c.fixed-2.new.self ≡ listed argument_spelling (a ∷ more) ++ (sign ")" ∷ rest) = c.if-fixed.ensures.0 ∙ (e ∙ append_assoc (listed argument_spelling (a ∷ more)) (sign ")" ∷ []) rest) in
        let known = c.in_ok-all.ensures.every (a ∷ more) rest h there in
        let n = next_one (AreFilled IsArgument) (listed argument_spelling) c.fixed-2.new.self c.in_ok-all.field-0 c.listed_arguments.new.input c.in-Some.all (a ∷ more) (sign ")" ∷ rest)
        c.in-Some.is c.in_ok-all.ensures.some known there in
        absurd (c.if-fixed-2.ensures.1 rest n.left)
