-- Items that are cut token by token.
use Rattle.std.proofs.Common.{◌≡◌, List, [], ◌∷◌, ◌++◌, true, false, Option, Some, None, is_none, unwrap_or, refl, ap, sym, ◌∙◌, append_assoc, map, Result, Ok, Err}
use Rattle.std.specs.Prelude.{IfOk}
use Rattle.c_token.specs.CTokens.{CToken}
use Rattle.c_cut.specs.declared.token.Token.{Token}
use Rattle.c_cut.specs.Shown.{item_shown, items_shown, left, token_shown}
use Rattle.c_token.specs.Cutting.{ItemPlace, c_items, item_start, items_from, place_after, role_of, with_token}

-- the items, where some tokens of the first were taken already
abbrev pub onto : List CToken → List (List CToken) → List (List CToken)
onto [] items = items
onto (t ∷ ts) [] = (t ∷ ts) ∷ []
onto (t ∷ ts) (first ∷ more) = (t ∷ ts ++ first) ∷ more

-- one token more of the first
onto-token : (ts : List CToken) (token : CToken) (items : List (List CToken)) → onto ts (with_token false token items) ≡ onto (ts ++ token ∷ []) items
onto-token [] token [] = refl
onto-token [] token (first ∷ more) = refl
onto-token (t ∷ ts) token [] = refl
onto-token (t ∷ ts) token (first ∷ more) = ap (λ (xs : List CToken). (t ∷ xs) ∷ more) (sym (append_assoc ts (token ∷ []) first))

-- the last token of the first
onto-last : (ts : List CToken) (token : CToken) (items : List (List CToken)) → onto ts (with_token true token items) ≡ (ts ++ token ∷ []) ∷ items
onto-last [] token items = refl
onto-last (t ∷ ts) token items = refl

items_from-token : (at : ItemPlace) (token : CToken) (tokens : List CToken) (next : Option ItemPlace) → place_after (role_of token) at ≡ next
    → items_from at (token ∷ tokens) ≡ with_token (is_none next) token (items_from (unwrap_or next item_start) tokens)
unfolding items_from
items_from-token at token tokens next e =
    ap (λ (n : Option ItemPlace). with_token (is_none n) token (items_from (unwrap_or n item_start) tokens)) e

-- a token that goes on with its item, and one that ends it
pub goes-on : (ts : List CToken) (at next : ItemPlace) (token : CToken) (tokens : List CToken) → place_after (role_of token) at ≡ Some next
    → onto ts (items_from at (token ∷ tokens)) ≡ onto (ts ++ token ∷ []) (items_from next tokens)
goes-on ts at next token tokens e =
    ap (onto ts) (items_from-token at token tokens (Some next) e) ∙ onto-token ts token (items_from next tokens)

pub item-ends : (ts : List CToken) (at : ItemPlace) (token : CToken) (tokens : List CToken) → place_after (role_of token) at ≡ None
    → onto ts (items_from at (token ∷ tokens)) ≡ (ts ++ token ∷ []) ∷ items_from item_start tokens
item-ends ts at token tokens e =
    ap (onto ts) (items_from-token at token tokens None e) ∙ onto-last ts token (items_from item_start tokens)

pub none-left : (at : ItemPlace) → items_from at [] ≡ []
unfolding items_from
none-left at = refl

pub from-start : (tokens : List CToken) → c_items tokens ≡ items_from item_start tokens
unfolding c_items
from-start tokens = refl

pub left-shown : (ts : List Token) → items_shown (left ts) ≡ onto (item_shown ts) []
left-shown [] = refl
left-shown (t ∷ ts) = refl

-- one token more of the tokens so far
pub token-more : (ts : List Token) (t : Token) (rest : List CToken) → item_shown (ts ++ t ∷ []) ++ rest ≡ item_shown ts ++ token_shown t ∷ rest
token-more [] t rest = refl
token-more (x ∷ ts) t rest = ap (λ (xs : List CToken). token_shown x ∷ xs) (token-more ts t rest)

pub item-more : (ts : List Token) (t : Token) → item_shown ts ++ token_shown t ∷ [] ≡ item_shown (ts ++ t ∷ [])
item-more [] t = refl
item-more (x ∷ ts) t = ap (λ (xs : List CToken). token_shown x ∷ xs) (item-more ts t)

pub items-more : (items : List (List Token)) (ts : List Token) (more : List (List CToken))
    → items_shown items ++ item_shown ts ∷ more ≡ items_shown (items ++ ts ∷ []) ++ more
items-more [] ts more = refl
items-more (x ∷ items) ts more = ap (λ (xs : List (List CToken)). item_shown x ∷ xs) (items-more items ts more)

pub items-joined : (items others : List (List Token)) → items_shown (items ++ others) ≡ items_shown items ++ items_shown others
items-joined [] others = refl
items-joined (x ∷ items) others = ap (λ (xs : List (List CToken)). item_shown x ∷ xs) (items-joined items others)

pub no-more : (ts : List CToken) → ts ++ [] ≡ ts
no-more [] = refl
no-more (t ∷ ts) = ap (λ (xs : List CToken). t ∷ xs) (no-more ts)

pub each-itself : {A : Type 0} (xs : List A) → map (λ (x : A). x) xs ≡ xs
each-itself [] = refl
each-itself (x ∷ xs) = ap (λ (ys : List _). x ∷ ys) (each-itself xs)

-- all tokens are taken, and what is left is the last item
pub all-cut : {E : Type 0} (tokens yielded : List Token) (items : List (List Token)) (item : List Token) (at : ItemPlace) (r : Result (List (List Token)) E)
    → yielded ≡ tokens → items_from item_start (item_shown yielded ++ []) ≡ items_shown items ++ onto (item_shown item) (items_from at [])
    → IfOk r (λ all. all ≡ items ++ left item) → IfOk r (λ all. items_shown all ≡ c_items (item_shown tokens))
all-cut tokens yielded items item at (Err x) same cut e = tt
all-cut tokens yielded items item at (Ok all) same cut e =
    ap items_shown e
    ∙ items-joined items (left item)
    ∙ ap (λ (xs : List (List CToken)). items_shown items ++ xs) (left-shown item ∙ ap (onto (item_shown item)) (sym (none-left at)))
    ∙ sym cut
    ∙ ap (items_from item_start) (no-more (item_shown yielded) ∙ ap item_shown same)
    ∙ sym (from-start (item_shown tokens))
