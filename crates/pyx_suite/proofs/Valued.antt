-- One token of a set, with a value made of it.
use Rattle.std.proofs.Common.{◌≡◌, Bool, true, false, cond, List, [], ◌∷◌, ◌∙◌, ap}
use Rattle.pyx_lex.specs.declared.token.Token.{Token}
use Rattle.forms.specs.Forms.{Set}
use Rattle.forms.specs.Readers.{unexpected, did, bad, read_one}
use Rattle.forms.specs.Lists.{itself}

pub valued : {A : Type 0} (b : Set Token) (f : Token → A) (ts r : List Token) (x : Token) → read_one b itself ts ≡ did x r → read_one b f ts ≡ did (f x) r
unfolding read_one
valued b f [] r x h = cc
valued {A} b f (y ∷ ts) r x h = go (b y) h
  where
    go : (c : Bool) → cond c (did y ts) (bad unexpected (y ∷ ts)) ≡ did x r → cond c (did (f y) ts) (bad unexpected (y ∷ ts)) ≡ did (f x) r
    go true h = let e : y ≡ x = cc in let k : ts ≡ r = cc in ap (λ z. did (f z) ts) e ∙ ap (λ z. did (f x) z) k
    go false h = cc
