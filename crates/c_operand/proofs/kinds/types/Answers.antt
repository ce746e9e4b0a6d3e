use Rattle.std.proofs.Common.{◌≡◌, ◌∷◌, ◌++◌, [], List, Some, None, sym, ap, subst, ◌∙◌}
use Rattle.std.specs.Prelude.{Option, ⊤}
use Rattle.std.specs.List.{AllByRecursion}
use Rattle.c_token.specs.CTokens.{CToken, sign}
use Rattle.c_tree.specs.declared.value.CType.{CType}
use Rattle.c_tree.specs.Names.{listed}
use Rattle.c_tree.specs.Values.{type_spelling}
use Rattle.c_input.specs.Reads.{Finds}
use Rattle.c_input.proofs.Rows.{next_one, same_left}
use Rattle.c_operand.specs.Listed.{AreFilled}
use Rattle.c_operand.proofs.Closed.{closed, closed_empty, types_filled, types_not_void}
use Rattle.c_operand.proofs.kinds.types.Goals as goal

all_types : (ts : List CType) → AllByRecursion (λ (_ : CType). ⊤) ts
all_types [] = tt
all_types (t ∷ ts) = (tt, all_types ts)

pub returns-then-fixed-clause-every : goal.returns-then-fixed-clause-every
returns-then-fixed-clause-every c = λ x rest form e. go x rest e
  where
    go : (x : List CType) (rest : List CToken) → c.args.input.now ≡ sign "(" ∷ closed type_spelling x rest → Some c.new.result ≡ Some x
    go [] rest e = ap (λ (t : List CType). Some t) c.new.ensures
    go (t ∷ ts) rest e = absurd (types_not_void t ts rest _ (sym c.if-fixed.ensures ∙ same_left (sign "(" ∷ []) _ _ (sym c.if-not-fixed.ensures ∙ e)))

pub returns-in_default-clause-every : goal.returns-in_default-clause-every
returns-in_default-clause-every c = λ x rest form e. go x rest (same_left (sign "(" ∷ []) _ _ (sym c.if-not-fixed.ensures ∙ e))
  where
    go : (x : List CType) (rest : List CToken) → c.fixed.new.self ≡ closed type_spelling x rest → None ≡ Some x
    go [] rest e = absurd (c.if-fixed.ensures.1 rest (e ∙ closed_empty type_spelling rest))
    go (t ∷ ts) rest e = sym c.in_default.is ∙ c.in_ok-kinds.ensures.every (t ∷ ts) rest (tt, all_types ts) (c.if-fixed.ensures.0 ∙ (e ∙ types_filled t ts rest))

pub returns-then-fixed-2-clause-some : goal.returns-then-fixed-2-clause-some
returns-then-fixed-2-clause-some c =
    let form : List CType → Type 0 = AreFilled (λ (_ : CType). ⊤) in
    let found : Finds form (listed type_spelling) c.fixed-2.new.self (Some c.in-Some.kinds) c.listed_types.new.input =
    subst (λ (r : Option (List CType)). Finds form (listed type_spelling) c.fixed-2.new.self r c.listed_types.new.input) c.in-Some.is c.in_ok-kinds.ensures.some in
    (tt, c.if-not-fixed.ensures ∙ ap (λ (z : List CToken). sign "(" ∷ z) (sym c.if-fixed.ensures.0 ∙ go c.in-Some.kinds found.0 found.1))
  where
    go : (x : List CType) → AreFilled (λ (_ : CType). ⊤) x → c.fixed-2.new.self ≡ listed type_spelling x ++ c.listed_types.new.input → c.fixed-2.new.self ≡ closed type_spelling x c.fixed-3.new.self
    go [] h e = absurd h
    go (t ∷ ts) h e = e ∙ (ap (λ (z : List CToken). listed type_spelling (t ∷ ts) ++ z) c.if-fixed-2.ensures ∙ sym (types_filled t ts c.fixed-3.new.self))

pub returns-then-fixed-2-clause-every : goal.returns-then-fixed-2-clause-every
returns-then-fixed-2-clause-every c = λ x rest form e. go x rest (same_left (sign "(" ∷ []) _ _ (sym c.if-not-fixed.ensures ∙ e))
  where
    go : (x : List CType) (rest : List CToken) → c.fixed.new.self ≡ closed type_spelling x rest → Some c.in-Some.kinds ≡ Some x
    go [] rest e = absurd (c.if-fixed.ensures.1 rest (e ∙ closed_empty type_spelling rest))
    go (t ∷ ts) rest e = sym c.in-Some.is ∙ c.in_ok-kinds.ensures.every (t ∷ ts) rest (tt, all_types ts) (c.if-fixed.ensures.0 ∙ (e ∙ types_filled t ts rest))

pub returns-else-fixed-2-clause-every : goal.returns-else-fixed-2-clause-every
returns-else-fixed-2-clause-every c = λ x rest form e. go x rest (same_left (sign "(" ∷ []) _ _ (sym c.if-not-fixed.ensures ∙ e))
  where
    go : (x : List CType) (rest : List CToken) → c.fixed.new.self ≡ closed type_spelling x rest → None ≡ Some x
    go [] rest e = absurd (c.if-fixed.ensures.1 rest (e ∙ closed_empty type_spelling rest))
    go (t ∷ ts) rest e =
        let there : c.fixed-2.new.self ≡ listed type_spelling (t ∷ ts) ++ (sign ")" ∷ rest) = c.if-fixed.ensures.0 ∙ (e ∙ types_filled t ts rest) in
        let known = c.in_ok-kinds.ensures.every (t ∷ ts) rest (tt, all_types ts) there in
        let n = next_one (AreFilled (λ (_ : CType). ⊤)) (listed type_spelling) c.fixed-2.new.self c.in_ok-kinds.field-0 c.listed_types.new.input c.in-Some.kinds (t ∷ ts) (sign ")" ∷ rest)
        c.in-Some.is c.in_ok-kinds.ensures.some known there in
        absurd (c.if-fixed-2.ensures.1 rest n.left)
