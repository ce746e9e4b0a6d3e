use Rattle.std.proofs.Common.{◌≡◌, ◌++◌, List, [], ◌∷◌, Some, None, ap, sym, ◌∙◌}
use Rattle.std.specs.Option.{option_map}
use Rattle.c_token.specs.CTokens.{CToken}
use Rattle.c_token.specs.Cutting as spec
use Rattle.c_token.specs.Cutting.{item_start, items_from}
use Rattle.c_cut.specs.declared.token.Token.{Token}
use Rattle.c_cut.specs.Shown.{item_shown, items_shown, place_shown, token_shown}
use Rattle.c_cut.proofs.Cutting.{onto, goes-on, item-ends, token-more, item-more, items-more, each-itself, all-cut}
use Rattle.std.proofs.lemmas.Iterator.Adapters.{YieldsList-from_vec}
use Rattle.std.proofs.lemmas.Iterator.Consumers.{YieldsList-end}
use Rattle.c_cut.proofs.items.cut.Goals as goal

pub loop-token-preserved-in-Some-next : goal.loop-token-preserved-in-Some-next
loop-token-preserved-in-Some-next c = λ (rest : List CToken).
    let token = token_shown c.in-Some.token in
    let place = place_shown c.loop-token.place in
    let next = place_shown c.in-Some-next.next in
    let after : spec.place_after (spec.role_of token) place ≡ Some next =
    ap (λ r. spec.place_after r place) (sym c.role_of.ensures) ∙ sym c.in_ok-next.ensures ∙ ap (option_map place_shown) c.in-Some-next.is in
    ap (items_from item_start) (token-more c.loop-token.yielded c.in-Some.token rest)
    ∙ c.loop-token.invariant (token ∷ rest)
    ∙ ap (λ (xs : List (List CToken)). items_shown c.loop-token.items ++ xs)
    (goes-on (item_shown c.loop-token.item) place next token rest after
    ∙ ap (λ (ts : List CToken). onto ts (items_from next rest))
    (item-more c.loop-token.item c.in-Some.token ∙ ap item_shown (sym c.in_ok-push.ensures.ok)))

pub loop-token-preserved : goal.loop-token-preserved
loop-token-preserved c = λ (rest : List CToken).
    let token = token_shown c.in-Some.token in
    let place = place_shown c.loop-token.place in
    let after : spec.place_after (spec.role_of token) place ≡ None =
    ap (λ r. spec.place_after r place) (sym c.role_of.ensures) ∙ sym c.in_ok-next.ensures ∙ ap (option_map place_shown) c.in-None-next.is in
    ap (items_from item_start) (token-more c.loop-token.yielded c.in-Some.token rest)
    ∙ c.loop-token.invariant (token ∷ rest)
    ∙ ap (λ (xs : List (List CToken)). items_shown c.loop-token.items ++ xs)
    (item-ends (item_shown c.loop-token.item) place token rest after
    ∙ ap (λ (ts : List CToken). ts ∷ items_from item_start rest)
    (item-more c.loop-token.item c.in-Some.token ∙ ap item_shown (sym c.in_ok-push.ensures.ok)))
    ∙ items-more c.loop-token.items c.push.new.self (items_from item_start rest)
    ∙ ap (λ (xs : List (List Token)). items_shown xs ++ items_from item_start rest) (sym c.in_ok-push-in-None-next.ensures.ok)
    ∙ ap (λ (ts : List Token). items_shown c.push-in-None-next.new.self ++ onto (item_shown ts) (items_from item_start rest)) (sym c.new-item-in-None-next.ensures)

pub returns : goal.returns
returns c =
    let gives = c.into_iter-token-iterator.ensures.into_iter_gives in
    let all = YieldsList-end (YieldsList-from_vec c.args.tokens.items gives.0 (gives.1 ∙ c.args.tokens.ok.0)) c.loop-token.yielded c.loop-token.token-iterator c.loop-token.yielded_by c.next.result c.next.new.self c.in-None.is c.next.ensures.steps in
    let same : c.loop-token.yielded ≡ c.args.tokens.items = sym (each-itself c.loop-token.yielded) ∙ all.0 in
    all-cut c.args.tokens.items c.loop-token.yielded c.loop-token.items c.loop-token.item (place_shown c.loop-token.place) c.with_last.result
    same (c.loop-token.invariant []) c.with_last.ensures
