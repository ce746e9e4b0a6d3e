use Rattle.std.proofs.Common.{◌≡◌, sym, subst, ap, ◌∙◌, false, List}
use Rattle.std.specs.Prelude.{IfSome}
use Rattle.pyx_lex.specs.Breaches.{IsFirst}
use Rattle.pyx_lex.specs.Laid.{Puts}
use Rattle.pyx_lex.specs.Layout.{Item}
use Rattle.pyx_lex.specs.Tokens.{items_of_text, is_broken, valid_text, breaches_among}
use Rattle.pyx_lex.proofs.Order.{whole_file}
use Rattle.pyx_lex.proofs.pass.put_file.Goals as goal
use Rattle.pyx_lex.proofs.pass.put_file.Goals.{In_ok-found-in-Ok}

same_items : (c : In_ok-found-in-Ok) → items_of_text false c.in-Ok.text.now ≡ items_of_text (is_broken c.args.bytes.now) (valid_text c.args.bytes.now)
same_items c =
    let whole = whole_file c.args.bytes.now c.in-Ok.ensures.cases.1 in
    ap (items_of_text false) (c.in-Ok.ensures.cases.0 ∙ sym whole.1) ∙ ap (λ b. items_of_text b (valid_text c.args.bytes.now)) (sym whole.0)

pub returns-in_ok-found-in-Ok-clause-puts : goal.returns-in_ok-found-in-Ok-clause-puts
returns-in_ok-found-in-Ok-clause-puts c =
    subst (Puts c.in_ok-found-in-Ok.found c.args.out.now.items c.put_text.new.out.items)
    (same_items (goal.at.returns-in_ok-found-in-Ok-clause-puts c).In_ok-found-in-Ok) c.in_ok-found-in-Ok.ensures.puts

pub returns-in_ok-found-in-Ok-clause-first : goal.returns-in_ok-found-in-Ok-clause-first
returns-in_ok-found-in-Ok-clause-first c =
    subst (λ (items : List Item). IfSome c.in_ok-found-in-Ok.found (λ b. IsFirst b (breaches_among items)))
    (same_items (goal.at.returns-in_ok-found-in-Ok-clause-first c).In_ok-found-in-Ok) c.in_ok-found-in-Ok.ensures.first
