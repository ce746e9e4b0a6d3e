use Rattle.std.proofs.Common.{◌≡◌, ◌<◌, [], ◌^◌, length, sym, subst, ap, ◌∙◌, arith, List}
use Rattle.pyx_lex.specs.Breaches.{IsFirst, breach}
use Rattle.pyx_lex.specs.Layout.{Item}
use Rattle.pyx_lex.specs.Tokens.{tokens, breaches, EndsOnce, items_of_text, is_broken, valid_text, breaches_among, tokens_among, limit}
use Rattle.pyx_lex.proofs.Order.{long_file, short_file, puts_nothing_before}
use Rattle.pyx_lex.proofs.Ends.{file_ends}
use Rattle.pyx_lex.proofs.Few.{few_tokens}
use Rattle.pyx_lex.proofs.pass.lex.Goals as goal
use Rattle.pyx_lex.proofs.pass.lex.Goals.{After-from_vec}

pub returns-then-bytes-clause-refused : goal.returns-then-bytes-clause-refused
returns-then-bytes-clause-refused c = λ refused e.
    let same : c.refusal.result ≡ refused = cc in
    (breach 9 limit, long_file c.args.bytes.now (omega arith), sym same ∙ c.refusal.ensures)

pub returns-in-Some-clause-refused : goal.returns-in-Some-clause-refused
returns-in-Some-clause-refused c = λ refused e.
    let same : c.refusal-in-Some.result ≡ refused = cc in
    let first = rw c.in-Some.is at c.in_ok-found.ensures.first in
    let short = short_file c.args.bytes.now (omega arith) in
    (c.in-Some.found, subst (λ (xs : List Item). IsFirst c.in-Some.found (breaches_among xs)) (sym short) first, sym same ∙ c.refusal-in-Some.ensures)

what_was_read : (c : After-from_vec) → (tokens_among (items_of_text (is_broken c.args.bytes.now) (valid_text c.args.bytes.now)) ≡ c.put_file.new.out.items)
    × (breaches_among (items_of_text (is_broken c.args.bytes.now) (valid_text c.args.bytes.now)) ≡ [])
what_was_read c =
    puts_nothing_before (items_of_text (is_broken c.args.bytes.now) (valid_text c.args.bytes.now)) _ _ c.new-list.ensures.items
    (rw c.in-None.is at c.in_ok-found.ensures.puts)

list_is : (c : After-from_vec) → c.from_vec.result ≡ tokens c.args.bytes.now
list_is c = c.from_vec.ensures ∙ (sym (what_was_read c).0 ∙ ap tokens_among (sym (short_file c.args.bytes.now (omega arith))))

none_broken : (c : After-from_vec) → breaches c.args.bytes.now ≡ []
none_broken c = ap breaches_among (short_file c.args.bytes.now (omega arith)) ∙ (what_was_read c).1

pub returns-in-None-clause-tokens : goal.returns-in-None-clause-tokens
returns-in-None-clause-tokens c = list_is (goal.at.returns-in-None-clause-tokens c).After-from_vec

pub returns-in-None-clause-accepted : goal.returns-in-None-clause-accepted
returns-in-None-clause-accepted c = none_broken (goal.at.returns-in-None-clause-accepted c).After-from_vec

pub returns-in-None-clause-few : goal.returns-in-None-clause-few
returns-in-None-clause-few c =
    subst (λ ts. length ts < 2 ^ 24) (sym (list_is (goal.at.returns-in-None-clause-few c).After-from_vec)) (few_tokens c.args.bytes.now)

pub returns-in-None-clause-ends : goal.returns-in-None-clause-ends
returns-in-None-clause-ends c =
    let all = (goal.at.returns-in-None-clause-ends c).After-from_vec in
    subst EndsOnce (sym (list_is all)) (file_ends c.args.bytes.now (omega arith) (none_broken all))
