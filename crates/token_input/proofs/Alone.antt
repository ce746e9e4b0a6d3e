-- The end is the one token that is left.
use Rattle.std.proofs.Common.{◌≡◌, true, cond, List, [], ◌∷◌, length, ap, arith}
use Rattle.pyx_lex.specs.declared.token.Token.{Token}
use Rattle.token_class.specs.Sets.{of}
use Rattle.forms.specs.Readers.{sees, did, bad, unexpected, read_one}
use Rattle.token_input.specs.Ended.{is_end, read_alone}

pub alone : (ts : List Token) → length ts ≡ 1 → sees (of is_end) ts ≡ true → (x : Token) × (read_alone ts ≡ did x [])
unfolding read_one
alone [] h g = cc
alone (x ∷ []) h g = (x, ap (λ c. cond c (did x []) (bad unexpected (x ∷ []))) g)
alone (x ∷ y ∷ ts) h g = absurd (omega (arith, h))
