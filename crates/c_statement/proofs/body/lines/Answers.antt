use Rattle.std.proofs.Common.{◌≡◌, ◌++◌, List, Some, sym, ap, subst, ◌∙◌}
use Rattle.std.specs.List.{flat_map}
use Rattle.std.proofs.lemmas.Bool.{false≢true}
use Rattle.c_tree.specs.declared.item.Line.{Line}
use Rattle.c_tree.specs.Forms.{IsLine}
use Rattle.c_tree.specs.Items.{line_spelling}
use Rattle.c_input.proofs.Lists.{IsRead, item_every, read_end, read_missed, read_step, shorter}
use Rattle.c_statement.specs.Lines.{ends_in_label, AreLines, IsClosed}
use Rattle.c_statement.proofs.Labels.{ends_of, ends_pushed, line_filled, none_closed, stand_of}
use Rattle.c_statement.proofs.body.lines.Goals as goal

pub returns-in_default-clause-every : goal.returns-in_default-clause-every
returns-in_default-clause-every c = λ all rest form end e. absurd
    (read_missed IsLine line_spelling IsClosed c.args.input.now c.loop-alloc.all.items c.loop-alloc.input c.in_ok-next.field-0 c.loop-alloc.invariant.0
    (λ h. false≢true (sym c.loop-alloc-test.true ∙ c.sees.ensures.1 h)) c.in_default.is
    (item_every IsLine line_spelling IsClosed c.loop-alloc.input c.in_ok-next.field-0 c.in_ok-next.ensures.every) all rest form.0 end e)

pub loop-alloc-smaller : goal.loop-alloc-smaller
loop-alloc-smaller c =
    shorter IsLine line_spelling c.loop-alloc.input c.in_ok-next.field-0 c.line.new.input c.in-Some.next c.in-Some.is c.in_ok-next.ensures.some (line_filled c.in-Some.next)

pub loop-alloc-preserved : goal.loop-alloc-preserved
loop-alloc-preserved c =
    let P : List Line → Type 0 = λ z. IsRead IsLine line_spelling IsClosed c.args.input.now z c.line.new.input in (
      subst P (sym c.in_ok-push.ensures.items)
          (read_step IsLine line_spelling IsClosed c.args.input.now c.loop-alloc.all.items c.loop-alloc.input c.in_ok-next.field-0 c.in-Some.next c.line.new.input c.loop-alloc.invariant.0
          (λ h. false≢true (sym c.loop-alloc-test.true ∙ c.sees.ensures.1 h)) c.in-Some.is c.in_ok-next.ensures.some
          (item_every IsLine line_spelling IsClosed c.loop-alloc.input c.in_ok-next.field-0 c.in_ok-next.ensures.every)),
      c.is_label-labelled.ensures ∙ (sym (ends_pushed c.loop-alloc.all.items c.in-Some.next) ∙ ap ends_in_label (sym c.in_ok-push.ensures.items)),
    )

pub returns-then-labelled-clause-every : goal.returns-then-labelled-clause-every
returns-then-labelled-clause-every c = λ all rest form end e.
    let closed = c.sees.ensures.0 c.loop-alloc-test.false in
    let r = read_end IsLine line_spelling IsClosed c.args.input.now c.loop-alloc.all.items c.loop-alloc.input c.loop-alloc.invariant.0 (λ y ys f i. none_closed y ys closed i) all rest form.0 end e in
    absurd (false≢true (sym (ends_of all form.1) ∙ (ap ends_in_label (sym r.same) ∙ (sym c.loop-alloc.invariant.1 ∙ c.if-labelled.true))))

pub returns-else-labelled-clause-some : goal.returns-else-labelled-clause-some
returns-else-labelled-clause-some c =
    let P : List Line → Type 0 = λ z. AreLines z × (c.args.input.now ≡ flat_map line_spelling z ++ c.loop-alloc.input) in
    let read = c.loop-alloc.invariant.0 in
    subst P (sym c.from_vec.ensures) ((read.within, stand_of c.loop-alloc.all.items (sym c.loop-alloc.invariant.1 ∙ c.if-labelled.false)), read.parts)

pub returns-else-labelled-clause-every : goal.returns-else-labelled-clause-every
returns-else-labelled-clause-every c = λ all rest form end e.
    let closed = c.sees.ensures.0 c.loop-alloc-test.false in
    let r = read_end IsLine line_spelling IsClosed c.args.input.now c.loop-alloc.all.items c.loop-alloc.input c.loop-alloc.invariant.0 (λ y ys f i. none_closed y ys closed i) all rest form.0 end e in
    ap (λ (t : List Line). Some t) (c.from_vec.ensures ∙ r.same)
