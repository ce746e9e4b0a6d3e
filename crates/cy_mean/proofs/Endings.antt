-- Lists of events in which `end` and `stop` stand nowhere but at the end.
use Rattle.std.proofs.Common.{◌≡◌, Bool, true, false, not, ◌&&◌, List, [], ◌∷◌, ◌++◌, refl, sym, ap, ◌∙◌, append_assoc}
use Rattle.std.proofs.lemmas.Bool.{false≢true}
use Rattle.std.proofs.lemmas.List.{append-nil}
use Rattle.thin_state.specs.declared.space.Event.{Event}
use Rattle.cy_mean.specs.Sound.{Prefix}
use Rattle.cy_mean.specs.Laws.{is_last, EndsOnce}

pub same_prefix : (e : List Event) → Prefix e e
same_prefix e = ([], sym (append-nil e))

pub prefix_trans : (a b c : List Event) → Prefix a b → Prefix b c → Prefix a c
prefix_trans a b c p q = (p.0 ++ q.0, q.1 ∙ ap (λ l. l ++ q.0) p.1 ∙ append_assoc a p.0 q.0)

-- no `end` and no `stop` is among the events
abbrev pub is_open : List Event → Bool
is_open [] = true
is_open (e ∷ es) = not (is_last e) && is_open es

pub open-append : (a b : List Event) → is_open a ≡ true → is_open b ≡ true → is_open (a ++ b) ≡ true
open-append [] b p q = q
open-append (e ∷ a) b p q = by_test (not (is_last e)) p (λ h. open-append a b h q)
  where
    by_test : (t : Bool) → (t && is_open a) ≡ true → (is_open a ≡ true → is_open (a ++ b) ≡ true) → (t && is_open (a ++ b)) ≡ true
    by_test true h go = go h
    by_test false h go = h

-- open but for the last one
pub record Closed (es : List Event) : Type 0 where
  pub front : List Event
  pub last : Event
  pub is : es ≡ front ++ last ∷ []
  pub opened : is_open front ≡ true

pub closed-append : (a b : List Event) → is_open a ≡ true → Closed b → Closed (a ++ b)
closed-append a b p h = record {
  front = a ++ h.front;
  last = h.last;
  is = ap (λ l. a ++ l) h.is ∙ sym (append_assoc a h.front (h.last ∷ []));
  opened = open-append a h.front p h.opened;
}

not_both : (t rest : Bool) → t ≡ true → (not t && rest) ≡ true → ⊥
not_both true rest p q = false≢true q
not_both false rest p q = false≢true p

open-tail : (t rest : Bool) → (not t && rest) ≡ true → rest ≡ true
open-tail true rest q = absurd (false≢true q)
open-tail false rest q = q

-- an open list has no `end` and no `stop` anywhere
pub open-none : (es before after : List Event) (e : Event) → is_open es ≡ true → is_last e ≡ true → es ≡ before ++ e ∷ after → ⊥
open-none es [] after e o l eq =
    not_both (is_last e) (is_open after) l (sym (ap is_open eq) ∙ o)
open-none es (b ∷ before) after e o l eq =
    open-none (before ++ e ∷ after) before after e (open-tail (is_last b) (is_open (before ++ e ∷ after)) (sym (ap is_open eq) ∙ o)) l refl

closed_once : (front before after : List Event) (last e : Event) → is_open front ≡ true → is_last e ≡ true → front ++ last ∷ [] ≡ before ++ e ∷ after → after ≡ []
closed_once [] [] after last e o l eq = let same : [] ≡ after = cc eq in sym same
closed_once [] (b ∷ []) after last e o l eq = let bad : [] ≡ e ∷ after = cc eq in cc bad
closed_once [] (b ∷ c ∷ before) after last e o l eq = let bad : [] ≡ c ∷ (before ++ e ∷ after) = cc eq in cc bad
closed_once (f ∷ front) [] after last e o l eq =
    let same : f ≡ e = cc eq in
    absurd (not_both (is_last f) (is_open front) (ap is_last same ∙ l) o)
closed_once (f ∷ front) (b ∷ before) after last e o l eq =
    let tails : front ++ last ∷ [] ≡ before ++ e ∷ after = cc eq in
    closed_once front before after last e (open-tail (is_last f) (is_open front) o) l tails

pub open-ends_once : (es : List Event) → is_open es ≡ true → EndsOnce es
open-ends_once es o before after e l eq = absurd (open-none es before after e o l eq)

pub closed-ends_once : (es : List Event) → Closed es → EndsOnce es
closed-ends_once es h before after e l eq =
    closed_once h.front before after h.last e h.opened l (sym h.is ∙ eq)
