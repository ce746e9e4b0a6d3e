-- Behind the last parameter that may stand.
use Rattle.std.proofs.Common.{◌≡◌, ℕ, Bool, true, false, cond, List, [], ◌∷◌, ◌++◌, refl, sym, ◌∙◌, ap, append-nil}
use Rattle.pyx_lex.specs.declared.token.Token.{Token}
use Rattle.forms.specs.Forms.{Set}
use Rattle.forms.specs.Readers.{Fault, unexpected, limit, Outcome, did, bad, Reader, sees, limit_at, refuse}
use Rattle.forms.specs.Lists.{Row, read_trailed, read_trail, read_trail_upto}
use Rattle.forms.proofs.RowLoops.{with_row, mark, row_stops, row_is_last, row_fails}
use Rattle.decl_grammar.specs.Grammar.{three}

again : {T A : Type 0} (o : Outcome T (Row A)) → o ≡ with_row [] o
again (did row r) = refl
again (bad e r) = refl

refuses : {T A : Type 0} (b : Set T) (number : T → ℕ) (us : List T) → sees b us ≡ true → refuse {T = T} {A = A} b number us ≡ limit_at number us
unfolding refuse
refuses {T} {A} b number us h = ap (λ c. cond c (limit_at {T = T} {A = A} number us) (bad unexpected us)) h

module _ (T A : Type 0) (sep b : Set T) (number : T → ℕ) (p : Reader T A) (ts us : List T) where
  now : read_trail_upto 0 sep b number p ts ≡ with_row [] (read_trailed sep b (refuse b number) (read_trail sep b p) ts)
  unfolding read_trail_upto
  now = again (read_trailed sep b (refuse b number) (read_trail sep b p) ts)

  pub none_stops : mark sep ts ≡ did false us → read_trail_upto 0 sep b number p ts ≡ did ([], false) us
  none_stops h = row_stops T A sep b (refuse b number) (read_trail sep b p) _ [] ts us now h

  pub none_is_last : mark sep ts ≡ did true us → sees b us ≡ false → read_trail_upto 0 sep b number p ts ≡ did ([], true) us
  none_is_last h g = row_is_last T A sep b (refuse b number) (read_trail sep b p) _ [] ts us now h g

  pub none_fails : (f : Fault) (r : List T) → mark sep ts ≡ did true us → sees b us ≡ true → limit_at {T = T} {A = A} number us ≡ bad f r → read_trail_upto 0 sep b number p ts ≡ bad f r
  none_fails f r h g k = row_fails T A sep b (refuse b number) (read_trail sep b p) _ [] ts us now f r h g (refuses {T = T} {A = A} b number us g ∙ k)

-- the limit that the next token passes
pub third : {A : Type 0} (b : Set Token) (us : List Token) → sees b us ≡ true → limit_at {T = Token} {A = A} three us ≡ bad (limit 3) us
third b [] h = cc
third b (x ∷ ts) h = refl

module _ (T A : Type 0) (all : Outcome T (Row A)) (found : List A) (w : Outcome T (Row A)) (e : all ≡ with_row found w) (us : List T) where
  pub ends_with : (comma : Bool) → w ≡ did ([], comma) us → all ≡ did (found, comma) us
  ends_with comma h = e ∙ ap (with_row found) h ∙ ap (λ z. did (z, comma) us) (append-nil found)

  pub fails_with : (f : Fault) → w ≡ bad f us → all ≡ bad f us
  fails_with f h = e ∙ ap (with_row found) h
