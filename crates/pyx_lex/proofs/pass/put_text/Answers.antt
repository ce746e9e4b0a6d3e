use Rattle.std.proofs.Common.{◌≡◌, ◌+◌, length, sym, subst, arith}
use Rattle.std.specs.Str.{IsCharBoundary}
use Rattle.pyx_lex.specs.Laid.{Puts}
use Rattle.pyx_lex.specs.Tokens.{items_of_text}
use Rattle.pyx_lex.proofs.Order.{mark_cut, text_items, found_first}
use Rattle.pyx_lex.proofs.pass.put_text.Goals as goal
use Rattle.pyx_lex.proofs.pass.put_text.Goals.{In_ok-found}

pub range_from-requires : goal.range_from-requires
range_from-requires c = λ pos. subst (IsCharBoundary c.args.text.now) (sym c.mark_len-mark.ensures) (mark_cut c.args.text.now c.utf8.text)

puts_text : (c : In_ok-found) → Puts c.in_ok-found.found c.args.out.now.items c.put_tokens.new.out.items (items_of_text c.args.broken c.args.text.now)
puts_text c =
    let text = c.args.text.now in
    let mark = c.mark_len-mark.result in
    let cut : IsCharBoundary text mark = subst (IsCharBoundary text) (sym c.mark_len-mark.ensures) (mark_cut text c.utf8.text) in
    let fits : mark + length c.range_from.result.now ≡ length text = omega (arith, cut.0, c.range_from.ensures.len) in
    subst (Puts c.in_ok-found.found c.args.out.now.items c.put_tokens.new.out.items)
    (text_items c.args.broken text c.range_from.result.now mark c.mark_len-mark.ensures c.range_from.ensures.value fits)
    c.in_ok-found.ensures

pub returns-clause-puts : goal.returns-clause-puts
returns-clause-puts c = puts_text (goal.at.returns-clause-puts c).In_ok-found

pub returns-clause-first : goal.returns-clause-first
returns-clause-first c =
    found_first c.args.broken c.args.text.now c.in_ok-found.found c.args.out.now.items c.put_tokens.new.out.items c.utf8.text
    (puts_text (goal.at.returns-clause-first c).In_ok-found)
