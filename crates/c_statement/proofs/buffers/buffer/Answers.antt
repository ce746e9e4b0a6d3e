use Rattle.std.proofs.Common.{◌≡◌, ◌++◌, ◌∷◌, List, Some, sym, ap, ◌∙◌}
use Rattle.c_token.specs.CTokens.{CToken, word, sign}
use Rattle.c_input.proofs.Rows.{left_of, value_of}
use Rattle.c_statement.proofs.Chain.{front_of, joined, missing}
use Rattle.c_statement.specs.declared.source.Source.{Source}
use Rattle.c_statement.specs.declared.source.Source.TheVariants as source
use Rattle.c_statement.specs.declared.source_kind.SourceKind.TheVariants as kinds
use Rattle.c_statement.specs.Sources.{end, source_tokens, IsSourceOf}
use Rattle.c_tree.specs.Statements.{buffer_of, number_spelling}
use Rattle.c_statement.proofs.Chain.{number_apart}
use Rattle.c_statement.proofs.buffers.buffer.Goals as goal

pub returns-then-fixed-clause-some : goal.returns-then-fixed-clause-some
returns-then-fixed-clause-some c = (c.in_ok-object.ensures.some.0, joined (buffer_of c.in_ok-object.object) (word "suboffsets" ∷ sign "!=" ∷ word "NULL" ∷ end) c.fixed.new.self c.in_ok-object.ensures.some.1 c.if-fixed.ensures)

pub returns-then-fixed-clause-every : goal.returns-then-fixed-clause-every
returns-then-fixed-clause-every c = λ s rest form e. go s rest form e
  where
    go : (s : Source) (rest : List CToken) → IsSourceOf kinds.Buffer s → c.args.input.now ≡ source_tokens s ++ rest → Some (source.Indirect c.in_ok-object.object) ≡ Some s
    go (source.Number y n) rest form e =
        let e1 = front_of (buffer_of y) _ rest e in
        let first = c.in_ok-object.ensures.every y _ form.0.0 e1 in
        let e2 = left_of buffer_of first c.in_ok-object.ensures.some.1 e1 in
        absurd (number_apart n _ rest (sym c.if-fixed.ensures ∙ e2))
    go (source.Indirect y) rest form e =
        let e1 = front_of (buffer_of y) _ rest e in
        let first = c.in_ok-object.ensures.every y _ form.0 e1 in
        let e2 = left_of buffer_of first c.in_ok-object.ensures.some.1 e1 in
        ap (λ o. Some (source.Indirect o)) (value_of first)
    go s rest form e = absurd (cc (form.1))

pub returns-in_err-number-clause-every : goal.returns-in_err-number-clause-every
returns-in_err-number-clause-every c = λ s rest form e. absurd (go s rest form e)
  where
    go : (s : Source) (rest : List CToken) → IsSourceOf kinds.Buffer s → c.args.input.now ≡ source_tokens s ++ rest → ⊥
    go (source.Number y n) rest form e =
        let e1 = front_of (buffer_of y) _ rest e in
        let first = c.in_ok-object.ensures.every y _ form.0.0 e1 in
        let e2 = left_of buffer_of first c.in_ok-object.ensures.some.1 e1 in
        let e3 = front_of (number_spelling n) end rest (c.if-fixed.ensures.0 ∙ e2) in
        missing (c.in_err-number.ensures.every n _ form.0.1 e3)
    go (source.Indirect y) rest form e =
        let e1 = front_of (buffer_of y) _ rest e in
        let first = c.in_ok-object.ensures.every y _ form.0 e1 in
        let e2 = left_of buffer_of first c.in_ok-object.ensures.some.1 e1 in
        c.if-fixed.ensures.1 _ e2
    go s rest form e = absurd (cc (form.1))

pub returns-then-fixed-2-clause-every : goal.returns-then-fixed-2-clause-every
returns-then-fixed-2-clause-every c = λ s rest form e. go s rest form e
  where
    go : (s : Source) (rest : List CToken) → IsSourceOf kinds.Buffer s → c.args.input.now ≡ source_tokens s ++ rest → Some (source.Number c.in_ok-object.object c.in_ok-number.number) ≡ Some s
    go (source.Number y n) rest form e =
        let e1 = front_of (buffer_of y) _ rest e in
        let first = c.in_ok-object.ensures.every y _ form.0.0 e1 in
        let e2 = left_of buffer_of first c.in_ok-object.ensures.some.1 e1 in
        let e3 = front_of (number_spelling n) end rest (c.if-fixed.ensures.0 ∙ e2) in
        let second = c.in_ok-number.ensures.every n _ form.0.1 e3 in
        λ i. Some (source.Number (value_of first i) (value_of second i))
    go (source.Indirect y) rest form e =
        let e1 = front_of (buffer_of y) _ rest e in
        let first = c.in_ok-object.ensures.every y _ form.0 e1 in
        let e2 = left_of buffer_of first c.in_ok-object.ensures.some.1 e1 in
        absurd (c.if-fixed.ensures.1 _ e2)
    go s rest form e = absurd (cc (form.1))

pub returns-else-fixed-2-clause-every : goal.returns-else-fixed-2-clause-every
returns-else-fixed-2-clause-every c = λ s rest form e. absurd (go s rest form e)
  where
    go : (s : Source) (rest : List CToken) → IsSourceOf kinds.Buffer s → c.args.input.now ≡ source_tokens s ++ rest → ⊥
    go (source.Number y n) rest form e =
        let e1 = front_of (buffer_of y) _ rest e in
        let first = c.in_ok-object.ensures.every y _ form.0.0 e1 in
        let e2 = left_of buffer_of first c.in_ok-object.ensures.some.1 e1 in
        let e3 = front_of (number_spelling n) end rest (c.if-fixed.ensures.0 ∙ e2) in
        let second = c.in_ok-number.ensures.every n _ form.0.1 e3 in
        c.if-fixed-2.ensures.1 _ (left_of number_spelling second c.in_ok-number.ensures.some.1 e3)
    go (source.Indirect y) rest form e =
        let e1 = front_of (buffer_of y) _ rest e in
        let first = c.in_ok-object.ensures.every y _ form.0 e1 in
        let e2 = left_of buffer_of first c.in_ok-object.ensures.some.1 e1 in
        c.if-fixed.ensures.1 _ e2
    go s rest form e = absurd (cc (form.1))
