use Rattle.std.proofs.Common.{◌≡◌, ◌++◌, List, Some, ◌⊎◌, inl, inr, refl}
use Rattle.std.specs.Prelude.{◌≢◌, slice_get, codes}
use Rattle.c_token.specs.CTokens.{CToken, sign}
use Rattle.c_tree.specs.declared.value.CValue.{CValue}
use Rattle.c_tree.specs.Values.{value_spelling}
use Rattle.c_input.specs.Addresses.{IsAddress}
use Rattle.c_operand.specs.Values.{IsBracketed, IsWorded}
use Rattle.c_operand.proofs.Opens.{address_at, bracketed_at, not_false, sorts, two_signs, worded_at}
use Rattle.c_operand.proofs.values.value.Goals as goal

pub returns-then-sees-clause-every : goal.returns-then-sees-clause-every
returns-then-sees-clause-every c = λ v rest form apart e. go v rest e (sorts v form)
  where
    go : (v : CValue) (rest : List CToken) → c.args.input.now ≡ value_spelling v ++ rest → IsAddress v ⊎ (IsBracketed v ⊎ IsWorded v) → c.address.result ≡ Some v
    go v rest e (inl h) = c.address.ensures.every v rest h e
    go v rest e (inr (inl h)) = absurd (two_signs c.args.input.now 0 (sign "(") (sign "&") refl (bracketed_at v rest _ h e) (c.sees.ensures.0 c.if-sees.true))
    go v rest e (inr (inr h)) = absurd (worded_at v rest _ (codes "&") h e (c.sees.ensures.0 c.if-sees.true))

pub returns-then-sees-2-clause-every : goal.returns-then-sees-2-clause-every
returns-then-sees-2-clause-every c = λ v rest form apart e. go v rest e (sorts v form)
  where
    go : (v : CValue) (rest : List CToken) → c.args.input.now ≡ value_spelling v ++ rest → IsAddress v ⊎ (IsBracketed v ⊎ IsWorded v) → c.bracketed.result ≡ Some v
    go v rest e (inl h) = absurd (two_signs c.args.input.now 0 (sign "&") (sign "(") refl (address_at v rest _ h e) (c.sees-2.ensures.0 c.if-sees-2.true))
    go v rest e (inr (inl h)) = c.bracketed.ensures.every v rest h e
    go v rest e (inr (inr h)) = absurd (worded_at v rest _ (codes "(") h e (c.sees-2.ensures.0 c.if-sees-2.true))

pub returns-clause-every : goal.returns-clause-every
returns-clause-every c = λ v rest form apart e. go v rest apart e (sorts v form)
  where
    go : (v : CValue) (rest : List CToken) → slice_get rest 0 ≢ Some (sign "[") → c.args.input.now ≡ value_spelling v ++ rest → IsAddress v ⊎ (IsBracketed v ⊎ IsWorded v) → c.worded.result ≡ Some v
    go v rest apart e (inl h) = absurd (not_false c.if-sees.false (c.sees.ensures.1 (address_at v rest _ h e)))
    go v rest apart e (inr (inl h)) = absurd (not_false c.if-sees-2.false (c.sees-2.ensures.1 (bracketed_at v rest _ h e)))
    go v rest apart e (inr (inr h)) = c.worded.ensures.every v rest h apart e
