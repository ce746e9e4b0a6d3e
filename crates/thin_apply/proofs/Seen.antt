-- What is changed in the machine's parts is what changes in the state that they stand for.
use Rattle.std.proofs.Common.{◌≡◌, List, [], ◌∷◌, ◌++◌, Option, Some, None, refl, sym, ap, ◌∙◌, map, reverse}
use Rattle.std.proofs.lemmas.List.{reverse-append, reverse-reverse, append-nil}
use Rattle.thin_state.specs.declared.space.Obj.{Obj}
use Rattle.thin_state.specs.declared.space.Entry.{Entry}
use Rattle.thin_state.specs.declared.space.Event.{Event}
use Rattle.thin_state.specs.declared.space.Event.TheVariants as event
use Rattle.thin_state.specs.declared.tree.Variable.{Variable}
use Rattle.thin_state.specs.declared.tree.CFile.{CFile}
use Rattle.thin_state.specs.declared.state.Value.{Value}
use Rattle.thin_state.specs.declared.state.Doing.TheVariants as doing
use Rattle.thin_state.specs.State.{lose, put, Frame, CState}
use Rattle.thin_state.specs.Statements.{Moved, Went, lend}
use Rattle.thin_look.specs.declared.parts.Activation.{Activation}
use Rattle.thin_plan.specs.declared.effects.Effect.{Effect}
use Rattle.thin_plan.specs.declared.effects.Effect.TheVariants as effect
use Rattle.thin_look.specs.Views.{frame_view, frames_view}
use Rattle.thin_plan.specs.Effects.{handed, course_after, effected}
use Rattle.thin_apply.specs.Applied.{Parts, Fixed, on_last, stored, given, applied, effect_events, last_of, seen}
use Rattle.thin_apply.proofs.Puts.{on_last-snoc}

-- the newest frame is the first
pub view-above : (files : List CFile) (xs : List Activation) (a : Activation) → frames_view files (xs ++ a ∷ []) ≡ frame_view files a ∷ frames_view files xs
view-above files xs a = ap (map (frame_view files)) (reverse-append xs (a ∷ []))

pub loans-more : (xs l : List Obj) → reverse (xs ++ reverse l) ≡ l ++ reverse xs
loans-more xs l = reverse-append xs (reverse l) ∙ ap (λ m. m ++ reverse xs) (reverse-reverse l)

pub record Snoc (xs : List Activation) (g : Activation) : Type 0 where
  pub front : List Activation
  pub is : xs ≡ front ++ g ∷ []

pub last-split : (xs : List Activation) (g : Activation) → last_of xs ≡ Some g → Snoc xs g
last-split [] g e = cc
last-split (x ∷ []) g e = record { front = []; is = ap (λ y. y ∷ []) (some_is x g e) }
  where
    some_is : (a b : Activation) → Some a ≡ Some b → a ≡ b
    some_is a b e = cc
last-split (x ∷ (y ∷ ys)) g e = let r = last-split (y ∷ ys) g e in record { front = x ∷ r.front; is = ap (λ l. x ∷ l) r.is }

pub last-none : (xs : List Activation) → last_of xs ≡ None → xs ≡ []
last-none [] e = refl
last-none (x ∷ []) e = cc
last-none (x ∷ (y ∷ ys)) e = let r = last-none (y ∷ ys) e in cc

both : (c : CState) (F G : List Frame) (L M : List Obj) → F ≡ G → L ≡ M → record c { frames = F; loans = L } ≡ record c { frames = G; loans = M }
both c F G L M e s = ap (λ x. record c { frames = x; loans = L }) e ∙ ap (λ x. record c { frames = G; loans = x }) s

-- an effect that isn't a fault, and hands nothing where there is no caller
abbrev pub IsDone : Option Activation → Effect → Type 0
IsDone caller (effect.Fault k) = ⊥
IsDone None (effect.Hand x v own l) = ⊥
IsDone _ _ = Unit {0}

effect-plain : (x : Fixed) (p : Parts) (a : Activation) (e : Effect) (script : List Entry) (ev : List Event) (m : Moved)
    → m ≡ Went (seen x (applied p a e) script ev) → effect_events e ≡ [] → m ≡ Went (seen x (applied p a e) script (ev ++ effect_events e))
effect-plain x p a e script ev m h n =
    h ∙ ap (λ es. Went (seen x (applied p a e) script es)) (sym (ap (λ l. ev ++ l) n ∙ append-nil ev))

-- the frame that ran, changed, with more loans
changed : (x : Fixed) (p q : Parts) (a : Activation) (l : List Obj) (script : List Entry) (ev : List Event) → q.loans ≡ p.loans ++ reverse l → q.frames ≡ p.frames ++ a ∷ []
    → (c : CState) → record c { frames = frame_view x.files a ∷ frames_view x.files p.frames; loans = l ++ reverse p.loans }
    ≡ record c { frames = frames_view x.files q.frames; loans = reverse q.loans }
changed x p q a l script ev s t c =
    both c (frame_view x.files a ∷ frames_view x.files p.frames) (frames_view x.files q.frames) (l ++ reverse p.loans) (reverse q.loans)
    (sym (ap (frames_view x.files) t ∙ view-above x.files p.frames a)) (sym (ap reverse s ∙ loans-more p.loans l))

hand-seen : (x : Fixed) (p : Parts) (a : Activation) (y : Option Variable) (v : Value) (own l : List Obj) (script : List Entry) (ev : List Event) (o : Option Activation)
    → last_of p.frames ≡ o → IsDone o (effect.Hand y v own l)
    → handed (lend l (seen x p script ev)) (frames_view x.files p.frames) y v own ≡ Went (seen x (applied p a (effect.Hand y v own l)) script ev)
hand-seen x p a y v own l script ev None e d = absurd d
hand-seen x p a y v own l script ev (Some g) e d =
    let s = last-split p.frames g e in
    ap (λ fs. handed (lend l (seen x p script ev)) fs y v own) (ap (frames_view x.files) s.is ∙ view-above x.files s.front g)
    ∙ ap Went (both (seen x p script ev) (frame_view x.files (given y v own g) ∷ frames_view x.files s.front) (frames_view x.files (on_last (given y v own) p.frames))
    (l ++ reverse p.loans) (reverse (p.loans ++ reverse l))
    (sym (ap (λ xs. frames_view x.files (on_last (given y v own) xs)) s.is ∙ (ap (frames_view x.files) (on_last-snoc (given y v own) s.front g) ∙ view-above x.files s.front (given y v own g))))
    (sym (loans-more p.loans l)))

pub effect-seen : (x : Fixed) (p : Parts) (a : Activation) (e : Effect) (script : List Entry) (ev : List Event) → IsDone (last_of p.frames) e
    → effected x.files (seen x p script ev) (frame_view x.files a) (frames_view x.files p.frames) e
    ≡ Went (seen x (applied p a e) script (ev ++ effect_events e))
effect-seen x p a (effect.Fault k) script ev d = absurd d
effect-seen x p a (effect.Write y v l) script ev d =
    let a2 = record a { variables = put a.variables y v } in
    effect-plain x p a (effect.Write y v l) script ev (effected x.files (seen x p script ev) (frame_view x.files a) (frames_view x.files p.frames) (effect.Write y v l))
    (ap Went (changed x p (applied p a (effect.Write y v l)) a2 l script ev refl refl (seen x p script ev))) refl
effect-seen x p a (effect.Store y v own l) script ev d =
    let a2 = record a { own = own } in
    effect-plain x p a (effect.Store y v own l) script ev (effected x.files (seen x p script ev) (frame_view x.files a) (frames_view x.files p.frames) (effect.Store y v own l))
    (ap Went (changed x p (applied p a (effect.Store y v own l)) a2 l script ev refl refl (seen x (stored a.file y v p) script ev))) refl
effect-seen x p a (effect.Ask o r y e) script ev d =
    ap (λ fs. Went (record (seen x (record p { loans = [] }) script (ev ++ e ∷ [])) { frames = fs }))
    (sym (view-above x.files p.frames (record a { doing = doing.Asks o r y })))
effect-seen x p a (effect.Call b y l) script ev d =
    let a2 = record a { doing = doing.Waits y } in let b2 = record b { doing = doing.Runs } in
    effect-plain x p a (effect.Call b y l) script ev (effected x.files (seen x p script ev) (frame_view x.files a) (frames_view x.files p.frames) (effect.Call b y l))
    (ap Went (both (seen x p script ev) (frame_view x.files b2 ∷ (frame_view x.files a2 ∷ frames_view x.files p.frames)) (frames_view x.files ((p.frames ++ a2 ∷ []) ++ b2 ∷ []))
    (l ++ reverse p.loans) (reverse (p.loans ++ reverse l))
    (sym (view-above x.files (p.frames ++ a2 ∷ []) b2 ∙ ap (λ fs. frame_view x.files b2 ∷ fs) (view-above x.files p.frames a2))) (sym (loans-more p.loans l)))) refl
effect-seen x p a (effect.Gain own l) script ev d =
    let a2 = record a { own = own } in
    effect-plain x p a (effect.Gain own l) script ev (effected x.files (seen x p script ev) (frame_view x.files a) (frames_view x.files p.frames) (effect.Gain own l))
    (ap Went (changed x p (applied p a (effect.Gain own l)) a2 l script ev refl refl (seen x p script ev))) refl
effect-seen x p a (effect.Lose o) script ev d =
    effect-plain x p a (effect.Lose o) script ev (effected x.files (seen x p script ev) (frame_view x.files a) (frames_view x.files p.frames) (effect.Lose o))
    (ap (λ fs. Went (record (seen x (record p { loans = [] }) script ev) { frames = fs })) (sym (view-above x.files p.frames (record a { own = lose a.own o })))) refl
effect-seen x p a (effect.Jump None l) script ev d =
    effect-plain x p a (effect.Jump None l) script ev (effected x.files (seen x p script ev) (frame_view x.files a) (frames_view x.files p.frames) (effect.Jump None l))
    (ap Went (changed x p (applied p a (effect.Jump None l)) a l script ev refl refl (seen x p script ev))) refl
effect-seen x p a (effect.Jump (Some i) l) script ev d =
    effect-plain x p a (effect.Jump (Some i) l) script ev (effected x.files (seen x p script ev) (frame_view x.files a) (frames_view x.files p.frames) (effect.Jump (Some i) l))
    (ap Went (changed x p (applied p a (effect.Jump (Some i) l)) (record a { line = i }) l script ev refl refl (seen x p script ev))) refl
effect-seen x p a (effect.Hand y v own l) script ev d =
    effect-plain x p a (effect.Hand y v own l) script ev (effected x.files (seen x p script ev) (frame_view x.files a) (frames_view x.files p.frames) (effect.Hand y v own l))
    (hand-seen x p a y v own l script ev (last_of p.frames) refl d) refl
effect-seen x p a (effect.Leave o l) script ev d =
    ap (λ m. Went (record (seen x p script (ev ++ event.Leave o ∷ [])) { loans = m })) (sym (loans-more p.loans l))
effect-seen x p a (effect.LeaveRaise o failed l) script ev d =
    ap (λ m. Went (record (seen x (record p { error = None; course = course_after failed p.course }) script (ev ++ event.LeaveRaise o ∷ [])) { loans = m })) (sym (loans-more p.loans l))
