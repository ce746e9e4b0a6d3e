use Rattle.std.proofs.Common.{◌≡◌, ◌++◌, ◌∷◌, List, Some, sym, ap, drop, ◌∙◌}
use Rattle.c_token.specs.CTokens.{CToken}
use Rattle.c_input.proofs.Rows.{left_of, value_of}
use Rattle.c_statement.proofs.Chain.{front_of, joined, missing}
use Rattle.c_statement.specs.declared.source.Source.{Source}
use Rattle.c_statement.specs.declared.source.Source.TheVariants as source
use Rattle.c_statement.specs.declared.source_kind.SourceKind.TheVariants as kinds
use Rattle.c_statement.specs.Sources.{end, source_tokens, IsSourceOf}
use Rattle.c_tree.specs.Statements.{op_spelling}
use Rattle.c_tree.specs.Values.{value_spelling}
use Rattle.c_statement.specs.Sources.{ended_tokens}
use Rattle.c_statement.proofs.Behind.{end_behind, op_apart, op_no_bracket}
use Rattle.c_statement.proofs.operands.operands.Goals as goal

pub returns-in_err-first-clause-every : goal.returns-in_err-first-clause-every
returns-in_err-first-clause-every c = λ s rest form e. absurd (go s rest form e)
  where
    go : (s : Source) (rest : List CToken) → IsSourceOf kinds.Operand s → c.args.input.now ≡ source_tokens s ++ rest → ⊥
    go (source.Value k) rest form e =
        let e1 = front_of (value_spelling k) end rest e in
        missing (c.in_err-first.ensures.every k _ form.0 (end_behind rest) e1)
    go (source.Binary a o b) rest form e =
        let e1 = front_of (value_spelling a) (op_spelling o ∷ (value_spelling b ++ end)) rest e in
        missing (c.in_err-first.ensures.every a _ form.0.0 (op_no_bracket o ((value_spelling b ++ end) ++ rest)) e1)
    go s rest form e = absurd (cc (form.1))

pub returns-then-fixed-clause-some : goal.returns-then-fixed-clause-some
returns-then-fixed-clause-some c = (c.in_ok-first.ensures.some.0, joined (value_spelling c.in_ok-first.first) end c.fixed.new.self c.in_ok-first.ensures.some.1 c.if-fixed.ensures)

pub returns-then-fixed-clause-every : goal.returns-then-fixed-clause-every
returns-then-fixed-clause-every c = λ s rest form e. go s rest form e
  where
    go : (s : Source) (rest : List CToken) → IsSourceOf kinds.Operand s → c.args.input.now ≡ source_tokens s ++ rest → Some (source.Value c.in_ok-first.first) ≡ Some s
    go (source.Value k) rest form e =
        let e1 = front_of (value_spelling k) end rest e in
        let first = c.in_ok-first.ensures.every k _ form.0 (end_behind rest) e1 in
        let e2 = left_of value_spelling first c.in_ok-first.ensures.some.1 e1 in
        ap (λ v. Some (source.Value v)) (value_of first)
    go (source.Binary a o b) rest form e =
        let e1 = front_of (value_spelling a) (op_spelling o ∷ (value_spelling b ++ end)) rest e in
        let first = c.in_ok-first.ensures.every a _ form.0.0 (op_no_bracket o ((value_spelling b ++ end) ++ rest)) e1 in
        let e2 = left_of value_spelling first c.in_ok-first.ensures.some.1 e1 in
        absurd (op_apart o (sym c.if-fixed.ensures ∙ e2))
    go s rest form e = absurd (cc (form.1))

pub returns-in_err-between-clause-every : goal.returns-in_err-between-clause-every
returns-in_err-between-clause-every c = λ s rest form e. absurd (go s rest form e)
  where
    go : (s : Source) (rest : List CToken) → IsSourceOf kinds.Operand s → c.args.input.now ≡ source_tokens s ++ rest → ⊥
    go (source.Value k) rest form e =
        let e1 = front_of (value_spelling k) end rest e in
        let first = c.in_ok-first.ensures.every k _ form.0 (end_behind rest) e1 in
        let e2 = left_of value_spelling first c.in_ok-first.ensures.some.1 e1 in
        c.if-fixed.ensures.1 _ e2
    go (source.Binary a o b) rest form e =
        let e1 = front_of (value_spelling a) (op_spelling o ∷ (value_spelling b ++ end)) rest e in
        let first = c.in_ok-first.ensures.every a _ form.0.0 (op_no_bracket o ((value_spelling b ++ end) ++ rest)) e1 in
        let e2 = left_of value_spelling first c.in_ok-first.ensures.some.1 e1 in
        let e3 = c.if-fixed.ensures.0 ∙ e2 in
        missing (c.in_err-between.ensures.every o _ tt e3)
    go s rest form e = absurd (cc (form.1))

pub returns-in_err-second-clause-every : goal.returns-in_err-second-clause-every
returns-in_err-second-clause-every c = λ s rest form e. absurd (go s rest form e)
  where
    go : (s : Source) (rest : List CToken) → IsSourceOf kinds.Operand s → c.args.input.now ≡ source_tokens s ++ rest → ⊥
    go (source.Value k) rest form e =
        let e1 = front_of (value_spelling k) end rest e in
        let first = c.in_ok-first.ensures.every k _ form.0 (end_behind rest) e1 in
        let e2 = left_of value_spelling first c.in_ok-first.ensures.some.1 e1 in
        c.if-fixed.ensures.1 _ e2
    go (source.Binary a o b) rest form e =
        let e1 = front_of (value_spelling a) (op_spelling o ∷ (value_spelling b ++ end)) rest e in
        let first = c.in_ok-first.ensures.every a _ form.0.0 (op_no_bracket o ((value_spelling b ++ end) ++ rest)) e1 in
        let e2 = left_of value_spelling first c.in_ok-first.ensures.some.1 e1 in
        let e3 = c.if-fixed.ensures.0 ∙ e2 in
        let second = c.in_ok-between.ensures.every o _ tt e3 in
        let e4 = ap (drop 1) (sym c.in_ok-between.ensures.some.1 ∙ e3) in
        missing (c.in_err-second.ensures.every b _ form.0.1 e4)
    go s rest form e = absurd (cc (form.1))

pub returns-clause-every : goal.returns-clause-every
returns-clause-every c = λ s rest form e. go s rest form e
  where
    go : (s : Source) (rest : List CToken) → IsSourceOf kinds.Operand s → c.args.input.now ≡ source_tokens s ++ rest → Some (source.Binary c.in_ok-first.first c.in_ok-between.between c.in_ok-second.second) ≡ Some s
    go (source.Value k) rest form e =
        let e1 = front_of (value_spelling k) end rest e in
        let first = c.in_ok-first.ensures.every k _ form.0 (end_behind rest) e1 in
        let e2 = left_of value_spelling first c.in_ok-first.ensures.some.1 e1 in
        absurd (c.if-fixed.ensures.1 _ e2)
    go (source.Binary a o b) rest form e =
        let e1 = front_of (value_spelling a) (op_spelling o ∷ (value_spelling b ++ end)) rest e in
        let first = c.in_ok-first.ensures.every a _ form.0.0 (op_no_bracket o ((value_spelling b ++ end) ++ rest)) e1 in
        let e2 = left_of value_spelling first c.in_ok-first.ensures.some.1 e1 in
        let e3 = c.if-fixed.ensures.0 ∙ e2 in
        let second = c.in_ok-between.ensures.every o _ tt e3 in
        let e4 = ap (drop 1) (sym c.in_ok-between.ensures.some.1 ∙ e3) in
        let third = c.in_ok-second.ensures.every b _ form.0.1 e4 in
        λ i. Some (source.Binary (value_of first i) (value_of second i) (value_of third i))
    go s rest form e = absurd (cc (form.1))

pub returns-clause-some : goal.returns-clause-some
returns-clause-some c = (
  (c.in_ok-first.ensures.some.0, c.in_ok-second.ensures.some.0),
  joined (value_spelling c.in_ok-first.first) (op_spelling c.in_ok-between.between ∷ ended_tokens c.in_ok-second.second) c.ended.new.input c.in_ok-first.ensures.some.1
      (sym c.if-fixed.ensures.0 ∙ (c.in_ok-between.ensures.some.1 ∙ ap (λ t. op_spelling c.in_ok-between.between ∷ t) c.in_ok-second.ensures.some.1)),
)
