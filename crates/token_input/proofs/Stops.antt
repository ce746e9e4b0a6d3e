-- From what is read to what a file is refused for, whatever the form.
use Rattle.std.proofs.Common.{◌≡◌, ℕ, ◌⊎◌, inl, inr, List, [], ◌∷◌, refl, sym, ◌∙◌, ap, subst}
use Rattle.std.specs.Prelude.{◌≢◌, Result, Err}
use Rattle.cy_base.specs.declared.place.Refusal.{Refusal}
use Rattle.cy_base.specs.declared.error.Stop.{Stop}
use Rattle.cy_base.specs.declared.error.Stop.TheVariants as stop
use Rattle.pyx_lex.specs.declared.token.Token.{Token}
use Rattle.forms.specs.Forms.{Form}
use Rattle.forms.specs.Readers.{Fault, unexpected, limit, Outcome, did, bad}
use Rattle.forms.specs.Exact.{Found, Answers}
use Rattle.forms.proofs.OneAnswer.{one_answer}
use Rattle.token_input.specs.declared.halt.Halt.{Halt}
use Rattle.token_input.specs.declared.halt.Halt.TheVariants.{Unexpected, Limit, Memory}
use Rattle.token_input.specs.Reads.{fault_of, refusal_at, IsStop}
use Rattle.token_input.specs.Answer.{Breaks, IsFirstBreach}

same_fault : {A : Type 0} (f g : Fault) (file : ℕ) (x y : Token) (ts us : List Token) → ◌≡◌ {A = Outcome Token A} (bad f (x ∷ ts)) (bad g (y ∷ us)) → refusal_at file f x ≡ refusal_at file g y
same_fault f g file x y ts us h = let e : f ≡ g = cc in let k : x ≡ y = cc in ap (λ z. refusal_at file z x) e ∙ ap (refusal_at file g) k

-- The reader's outcome is an answer.
module _ (A : Type 0) (L : Form Token A) (ts : List Token) (o : Outcome Token A) (answer : Answers L ts o) where
  -- it is the only one
  pub once : (v w : Outcome Token A) → o ≡ v → Answers L ts w → v ≡ w
  once v w h a = sym h ∙ one_answer Token A L ts o w answer a

  pub answered : (v : Outcome Token A) → o ≡ v → Answers L ts v
  answered v h = let P : Outcome Token A → Type 0 = λ w. Answers L ts w in subst P h answer

  pub no_breach : (a : A) (new : List Token) (file : ℕ) (refused : Refusal) → o ≡ did a new → IsFirstBreach A L file ts refused → ⊥
  no_breach a new file refused h b = go b.fault b.breaks
    where
      go : (f : Fault) → Breaks L f ts (b.token ∷ b.after) → ⊥
      go unexpected k = let q = once (did a new) (bad unexpected (b.token ∷ b.after)) h k in cc
      go (limit n) k = let q = once (did a new) (bad (limit n) (b.token ∷ b.after)) h k in cc

  not_found : (f : Fault) (new rest : List Token) (a : A) → o ≡ bad f new → Found Token A L ts rest a → ⊥
  not_found f new rest a h t = let q = once (bad f new) (did a rest) h t in cc

  breach : (file : ℕ) (f : Fault) (x : Token) (more : List Token) → o ≡ bad f (x ∷ more) → IsFirstBreach A L file ts (refusal_at file f x)
  breach file unexpected x more h = record { fault = unexpected; token = x; after = more; breaks = answered (bad unexpected (x ∷ more)) h; is = refl }
  breach file (limit n) x more h = record { fault = limit n; token = x; after = more; breaks = answered (bad (limit n) (x ∷ more)) h; is = refl }

  the_breach : (file : ℕ) (f : Fault) (x : Token) (more : List Token) (refused : Refusal) → o ≡ bad f (x ∷ more) → IsFirstBreach A L file ts refused → refused ≡ refusal_at file f x
  the_breach file f x more refused h b = go b.fault b.breaks b.is
    where
      go : (g : Fault) → Breaks L g ts (b.token ∷ b.after) → refused ≡ refusal_at file g b.token → refused ≡ refusal_at file f x
      go unexpected k e = e ∙ sym (same_fault f unexpected file x b.token more b.after (once (bad f (x ∷ more)) (bad unexpected (b.token ∷ b.after)) h k))
      go (limit n) k e = e ∙ sym (same_fault f (limit n) file x b.token more b.after (once (bad f (x ∷ more)) (bad (limit n) (b.token ∷ b.after)) h k))

  -- ---- what a halt becomes

  pub stop_found : (file : ℕ) (e : Halt) (new : List Token) (s : Stop) (rest : List Token) (a : A) → (e ≢ Memory → o ≡ bad (fault_of e) new) → IsStop file new e s → Found Token A L ts rest a → s ≡ stop.Memory
  stop_found file Memory new s rest a h k t = k
  stop_found file Unexpected new s rest a h k t = absurd (not_found unexpected new rest a (h (λ z. cc)) t)
  stop_found file (Limit m) new s rest a h k t = absurd (not_found (limit m) new rest a (h (λ z. cc)) t)

  pub stop_refused : (file : ℕ) (e : Halt) (new : List Token) (s : Stop) (refused : Refusal) → (e ≢ Memory → o ≡ bad (fault_of e) new) → IsStop file new e s → s ≡ stop.Refused refused → IsFirstBreach A L file ts refused
  stop_refused file Memory new s refused h k t = cc
  stop_refused file Unexpected [] s refused h k t = absurd k
  stop_refused file (Limit m) [] s refused h k t = absurd k
  stop_refused file Unexpected (x ∷ more) s refused h k t =
      let P : Refusal → Type 0 = λ z. IsFirstBreach A L file ts z in
      let e : refusal_at file unexpected x ≡ refused = cc in subst P e (breach file unexpected x more (h (λ z. cc)))
  stop_refused file (Limit m) (x ∷ more) s refused h k t =
      let P : Refusal → Type 0 = λ z. IsFirstBreach A L file ts z in
      let e : refusal_at file (limit m) x ≡ refused = cc in subst P e (breach file (limit m) x more (h (λ z. cc)))

  pub stop_breach : (file : ℕ) (e : Halt) (new : List Token) (s : Stop) (refused : Refusal) → (e ≢ Memory → o ≡ bad (fault_of e) new) → IsStop file new e s → IsFirstBreach A L file ts refused → (s ≡ stop.Refused refused) ⊎ (s ≡ stop.Memory)
  stop_breach file Memory new s refused h k b = inr k
  stop_breach file Unexpected [] s refused h k b = absurd k
  stop_breach file (Limit m) [] s refused h k b = absurd k
  stop_breach file Unexpected (x ∷ more) s refused h k b = inl (k ∙ ap stop.Refused (sym (the_breach file unexpected x more refused (h (λ z. cc)) b)))
  stop_breach file (Limit m) (x ∷ more) s refused h k b = inl (k ∙ ap stop.Refused (sym (the_breach file (limit m) x more refused (h (λ z. cc)) b)))

pub in_err : {A : Type 0} {s t u : Stop} → (s ≡ t) ⊎ (s ≡ u) → (◌≡◌ {A = Result A Stop} (Err s) (Err t)) ⊎ (◌≡◌ {A = Result A Stop} (Err s) (Err u))
in_err (inl e) = inl (ap Err e)
in_err (inr e) = inr (ap Err e)
