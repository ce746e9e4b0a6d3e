use Rattle.std.proofs.Common.{◌≡◌, ◌++◌, [], sym, subst, ap, ◌∙◌}
use Rattle.std.specs.Prelude.{Option}
use Rattle.c_tree.specs.declared.item.CItem.{CItem}
use Rattle.c_input.specs.Reads.{Finds}
use Rattle.c_input.proofs.Rows.{same_left}
use Rattle.c_item.specs.Kinds.{declared_tokens, IsDeclared}
use Rattle.c_item.specs.Words.{opening_at}
use Rattle.c_item.proofs.Opens.{opens}
use Rattle.c_item.proofs.Lasts.{append_nil}
use Rattle.c_item.proofs.whole.unbodied.Goals as goal

pub returns-then-is_done-clause-every : goal.returns-then-is_done-clause-every
returns-then-is_done-clause-every c = λ t form e.
    let is = sym (opens c.args.is_static t form) ∙ (ap opening_at e ∙ sym c.opening.ensures) in
    c.in_ok-found.ensures.every t [] form is (c.new-input.ensures ∙ (sym e ∙ sym (append_nil (declared_tokens t))))

pub returns-else-is_done-clause-every : goal.returns-else-is_done-clause-every
returns-else-is_done-clause-every c = λ t form e.
    let is = sym (opens c.args.is_static t form) ∙ (ap opening_at e ∙ sym c.opening.ensures) in
    let old : c.new-input.result ≡ declared_tokens t ++ [] = c.new-input.ensures ∙ (sym e ∙ sym (append_nil (declared_tokens t))) in
    let found = c.in_ok-found.ensures.every t [] form is old in
    let P : Option CItem → Type 0 = λ z. Finds (IsDeclared c.args.is_static) declared_tokens c.new-input.result z c.declared.new.input in
    let read = subst P found c.in_ok-found.ensures.some in
    let done = same_left (declared_tokens t) c.declared.new.input [] (sym read.1 ∙ old) in
    absurd (cc (c.if-is_done.ensures.1 done))
