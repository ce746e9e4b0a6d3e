use Rattle.std.proofs.Common.{◌≡◌, ◌++◌, ◌∷◌, [], List, Some, sym, ap, drop, ◌∙◌}
use Rattle.c_token.specs.CTokens.{CToken, sign}
use Rattle.c_input.proofs.Rows.{left_of, value_of}
use Rattle.c_statement.proofs.Chain.{front_of, missing}
use Rattle.c_tree.specs.declared.statement.CTest.TheVariants as test
use Rattle.c_tree.specs.Statements.{op_spelling}
use Rattle.c_tree.specs.Values.{value_spelling}
use Rattle.c_statement.specs.Statements.{comparison_tokens}
use Rattle.c_statement.proofs.Behind.{close_behind, op_no_bracket}
use Rattle.c_tree.specs.declared.statement.CTest.{CTest}
use Rattle.c_statement.specs.Statements.{IsComparison}
use Rattle.c_statement.proofs.jumps.comparison.Goals as goal

pub returns-in_err-between-clause-every : goal.returns-in_err-between-clause-every
returns-in_err-between-clause-every c = λ s rest form e. absurd (go s rest form e)
  where
    go : (s : CTest) (rest : List CToken) → IsComparison s → c.args.input.now ≡ comparison_tokens s ++ rest → ⊥
    go (test.Compare a o b) rest form e =
        let e1 = front_of (value_spelling a) (op_spelling o ∷ (value_spelling b ++ (sign ")" ∷ []))) rest e in
        let first = c.in_ok-first.ensures.every a _ form.0 (op_no_bracket o ((value_spelling b ++ (sign ")" ∷ [])) ++ rest)) e1 in
        let e2 = left_of value_spelling first c.in_ok-first.ensures.some.1 e1 in
        missing (c.in_err-between.ensures.every o _ tt e2)
    go s rest form e = absurd form

pub returns-in_err-second-clause-every : goal.returns-in_err-second-clause-every
returns-in_err-second-clause-every c = λ s rest form e. absurd (go s rest form e)
  where
    go : (s : CTest) (rest : List CToken) → IsComparison s → c.args.input.now ≡ comparison_tokens s ++ rest → ⊥
    go (test.Compare a o b) rest form e =
        let e1 = front_of (value_spelling a) (op_spelling o ∷ (value_spelling b ++ (sign ")" ∷ []))) rest e in
        let first = c.in_ok-first.ensures.every a _ form.0 (op_no_bracket o ((value_spelling b ++ (sign ")" ∷ [])) ++ rest)) e1 in
        let e2 = left_of value_spelling first c.in_ok-first.ensures.some.1 e1 in
        let between = c.in_ok-between.ensures.every o _ tt e2 in
        let e3 = front_of (value_spelling b) (sign ")" ∷ []) rest (ap (drop 1) (sym c.in_ok-between.ensures.some.1 ∙ e2)) in
        missing (c.in_err-second.ensures.every b _ form.1 (close_behind rest) e3)
    go s rest form e = absurd form

pub returns-then-fixed-clause-every : goal.returns-then-fixed-clause-every
returns-then-fixed-clause-every c = λ s rest form e. go s rest form e
  where
    go : (s : CTest) (rest : List CToken) → IsComparison s → c.args.input.now ≡ comparison_tokens s ++ rest → Some (test.Compare c.in_ok-first.first c.in_ok-between.between c.in_ok-second.second) ≡ Some s
    go (test.Compare a o b) rest form e =
        let e1 = front_of (value_spelling a) (op_spelling o ∷ (value_spelling b ++ (sign ")" ∷ []))) rest e in
        let first = c.in_ok-first.ensures.every a _ form.0 (op_no_bracket o ((value_spelling b ++ (sign ")" ∷ [])) ++ rest)) e1 in
        let e2 = left_of value_spelling first c.in_ok-first.ensures.some.1 e1 in
        let between = c.in_ok-between.ensures.every o _ tt e2 in
        let e3 = front_of (value_spelling b) (sign ")" ∷ []) rest (ap (drop 1) (sym c.in_ok-between.ensures.some.1 ∙ e2)) in
        let second = c.in_ok-second.ensures.every b _ form.1 (close_behind rest) e3 in
        λ i. Some (test.Compare (value_of first i) (value_of between i) (value_of second i))
    go s rest form e = absurd form

pub returns-else-fixed-clause-every : goal.returns-else-fixed-clause-every
returns-else-fixed-clause-every c = λ s rest form e. absurd (go s rest form e)
  where
    go : (s : CTest) (rest : List CToken) → IsComparison s → c.args.input.now ≡ comparison_tokens s ++ rest → ⊥
    go (test.Compare a o b) rest form e =
        let e1 = front_of (value_spelling a) (op_spelling o ∷ (value_spelling b ++ (sign ")" ∷ []))) rest e in
        let first = c.in_ok-first.ensures.every a _ form.0 (op_no_bracket o ((value_spelling b ++ (sign ")" ∷ [])) ++ rest)) e1 in
        let e2 = left_of value_spelling first c.in_ok-first.ensures.some.1 e1 in
        let between = c.in_ok-between.ensures.every o _ tt e2 in
        let e3 = front_of (value_spelling b) (sign ")" ∷ []) rest (ap (drop 1) (sym c.in_ok-between.ensures.some.1 ∙ e2)) in
        let second = c.in_ok-second.ensures.every b _ form.1 (close_behind rest) e3 in
        c.if-fixed.ensures.1 _ (left_of value_spelling second c.in_ok-second.ensures.some.1 e3)
    go s rest form e = absurd form
