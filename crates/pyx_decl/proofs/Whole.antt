-- From what is read of a file to what is answered.
use Rattle.std.proofs.Common.{◌≡◌, ℕ, ◌⊎◌, inl, inr, List, [], ◌∷◌, refl, sym, ◌∙◌, ap, subst}
use Rattle.std.specs.Prelude.{◌≢◌, Result, Ok, Err, IfOk, IfErr}
use Rattle.cy_base.specs.declared.place.Refusal.{Refusal}
use Rattle.cy_base.specs.declared.error.Stop.{Stop}
use Rattle.cy_base.specs.declared.error.Stop.TheVariants as stop
use Rattle.pyx_lex.specs.declared.token.Token.{Token}
use Rattle.cy_tree.specs.declared.content.Content.{Content}
use Rattle.forms.specs.Forms.{Form}
use Rattle.forms.specs.Readers.{Fault, unexpected, limit, Outcome, did, bad, Reader}
use Rattle.decl_grammar.specs.Files.{IsFile, Whole, read_whole}
use Rattle.token_input.specs.declared.halt.Halt.{Halt}
use Rattle.token_input.specs.declared.halt.Halt.TheVariants.{Unexpected, Limit, Memory}
use Rattle.token_input.specs.Reads.{fault_of, refusal_at, IsStop}
use Rattle.pyx_decl.specs.Answer.{IsFirstBreach}

same_fault : (f g : Fault) (file : ℕ) (x y : Token) (ts us : List Token) → ◌≡◌ {A = Outcome Token Content} (bad f (x ∷ ts)) (bad g (y ∷ us)) → refusal_at file f x ≡ refusal_at file g y
same_fault f g file x y ts us h = let e : f ≡ g = cc in let k : x ≡ y = cc in ap (λ z. refusal_at file z x) e ∙ ap (refusal_at file g) k

module _ (L : Form Token Content) (p : Reader Token Content) (ts : List Token) (is : IsFile L ts (read_whole p ts)) (one : (o w : Outcome Token Content) → IsFile L ts o → IsFile L ts w → o ≡ w) where
  answer : (o : Outcome Token Content) → read_whole p ts ≡ o → IsFile L ts o
  answer o h = let P : Outcome Token Content → Type 0 = λ w. IsFile L ts w in subst P h is

  once : (o w : Outcome Token Content) → read_whole p ts ≡ o → IsFile L ts w → o ≡ w
  once o w h a = one o w (answer o h) a

  pub is_tree : (tree : Content) → read_whole p ts ≡ did tree [] → Whole L ts tree
  is_tree tree h = (answer (did tree []) h).1

  pub the_tree : (tree other : Content) → read_whole p ts ≡ did tree [] → Whole L ts other → tree ≡ other
  the_tree tree other h w = let e = once (did tree []) (did other []) h (refl, w) in cc

  -- what making the tree answers
  pub made_tree : (content : Content) (r : Result Content Stop) → read_whole p ts ≡ did content [] → IfOk r (λ tree. tree ≡ content) → IfOk r (λ tree. Whole L ts tree)
  made_tree content (Ok tree) h ok = let P : Content → Type 0 = λ z. Whole L ts z in subst P (sym ok) (is_tree content h)
  made_tree content (Err e) h ok = ok

  pub made_same : (content other : Content) (r : Result Content Stop) → read_whole p ts ≡ did content [] → IfOk r (λ tree. tree ≡ content) → IfErr r (λ e. e ≡ stop.Memory) → Whole L ts other
      → (r ≡ Ok other) ⊎ (r ≡ Err stop.Memory)
  made_same content other (Ok tree) h ok err w = inl (ap Ok (ok ∙ the_tree content other h w))
  made_same content other (Err e) h ok err w = inr (ap Err err)

  module _ (file : ℕ) where
    pub no_breach : (tree : Content) (refused : Refusal) → read_whole p ts ≡ did tree [] → IsFirstBreach L file ts refused → ⊥
    no_breach tree refused h b = let e = once (did tree []) (bad b.fault (b.token ∷ b.after)) h b.breaks in cc

    no_tree : (f : Fault) (new : List Token) (tree : Content) → read_whole p ts ≡ bad f new → Whole L ts tree → ⊥
    no_tree f new tree h w = let e = once (bad f new) (did tree []) h (refl, w) in cc

    breach : (f : Fault) (x : Token) (rest : List Token) → read_whole p ts ≡ bad f (x ∷ rest) → IsFirstBreach L file ts (refusal_at file f x)
    breach f x rest h = record { fault = f; token = x; after = rest; breaks = answer (bad f (x ∷ rest)) h; is = refl }

    the_breach : (f : Fault) (x : Token) (rest : List Token) (refused : Refusal) → read_whole p ts ≡ bad f (x ∷ rest) → IsFirstBreach L file ts refused → refused ≡ refusal_at file f x
    the_breach f x rest refused h b = b.is ∙ sym (same_fault f b.fault file x b.token rest b.after (once (bad f (x ∷ rest)) (bad b.fault (b.token ∷ b.after)) h b.breaks))

    -- what a halt becomes
    pub stop_tree : (e : Halt) (new : List Token) (s : Stop) (tree : Content) → (e ≢ Memory → read_whole p ts ≡ bad (fault_of e) new) → IsStop file new e s → Whole L ts tree → s ≡ stop.Memory
    stop_tree Memory new s tree h k w = k
    stop_tree Unexpected new s tree h k w = absurd (no_tree unexpected new tree (h (λ z. cc)) w)
    stop_tree (Limit n) new s tree h k w = absurd (no_tree (limit n) new tree (h (λ z. cc)) w)

    pub stop_refused : (e : Halt) (new : List Token) (s : Stop) (refused : Refusal) → (e ≢ Memory → read_whole p ts ≡ bad (fault_of e) new) → IsStop file new e s → s ≡ stop.Refused refused → IsFirstBreach L file ts refused
    stop_refused Memory new s refused h k t = cc
    stop_refused Unexpected [] s refused h k t = absurd k
    stop_refused (Limit n) [] s refused h k t = absurd k
    stop_refused Unexpected (x ∷ rest) s refused h k t =
        let P : Refusal → Type 0 = λ z. IsFirstBreach L file ts z in
        let e : refusal_at file unexpected x ≡ refused = cc in subst P e (breach unexpected x rest (h (λ z. cc)))
    stop_refused (Limit n) (x ∷ rest) s refused h k t =
        let P : Refusal → Type 0 = λ z. IsFirstBreach L file ts z in
        let e : refusal_at file (limit n) x ≡ refused = cc in subst P e (breach (limit n) x rest (h (λ z. cc)))

    pub stop_breach : (e : Halt) (new : List Token) (s : Stop) (refused : Refusal) → (e ≢ Memory → read_whole p ts ≡ bad (fault_of e) new) → IsStop file new e s → IsFirstBreach L file ts refused
        → (s ≡ stop.Refused refused) ⊎ (s ≡ stop.Memory)
    stop_breach Memory new s refused h k b = inr k
    stop_breach Unexpected [] s refused h k b = absurd k
    stop_breach (Limit n) [] s refused h k b = absurd k
    stop_breach Unexpected (x ∷ rest) s refused h k b = inl (k ∙ ap stop.Refused (sym (the_breach unexpected x rest refused (h (λ z. cc)) b)))
    stop_breach (Limit n) (x ∷ rest) s refused h k b = inl (k ∙ ap stop.Refused (sym (the_breach (limit n) x rest refused (h (λ z. cc)) b)))
