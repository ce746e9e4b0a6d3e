-- What is an item, and that it is cut off before what follows it.
use Rattle.std.proofs.Common.{◌≡◌, Bool, true, false, List, [], ◌∷◌, ◌++◌, refl, ap}
use Rattle.std.specs.Prelude.{Option, Some, None, is_none, unwrap_or, if◌then◌else◌}
use Rattle.c_token.specs.CTokens.{CToken}
use Rattle.c_token.specs.Cutting.{ItemPlace, item_start, place_after, role_of, with_token, items_from}

-- whether a list of tokens has no more tokens
abbrev pub is_end : List CToken → Bool
is_end [] = true
is_end (token ∷ tokens) = false

-- whether the tokens end an item, and do so at the last of them alone
abbrev pub is_item_from : ItemPlace → List CToken → Bool
is_item_from at [] = false
is_item_from at (token ∷ tokens) =
    let next = place_after (role_of token) at in
    if is_none next then is_end tokens else is_item_from (unwrap_or next item_start) tokens

cut_step : (next : Option ItemPlace) (token : CToken) (tokens rest : List CToken)
    → ((at : ItemPlace) → is_item_from at tokens ≡ true → items_from at (tokens ++ rest) ≡ tokens ∷ items_from item_start rest)
    → (if is_none next then is_end tokens else is_item_from (unwrap_or next item_start) tokens) ≡ true
    → with_token (is_none next) token (items_from (unwrap_or next item_start) (tokens ++ rest)) ≡ (token ∷ tokens) ∷ items_from item_start rest
cut_step None token [] rest more h = refl
cut_step None token (second ∷ tokens) rest more h = cc
cut_step (Some at) token tokens rest more h = ap (with_token false token) (more at h)

-- tokens that are an item are cut off before what follows them
pub cut_item : (at : ItemPlace) (tokens rest : List CToken) → is_item_from at tokens ≡ true
    → items_from at (tokens ++ rest) ≡ tokens ∷ items_from item_start rest
unfolding items_from
cut_item at [] rest h = cc
cut_item at (token ∷ tokens) rest h =
    cut_step (place_after (role_of token) at) token tokens rest (λ here. cut_item here tokens rest) h
