-- What effects and turns make of the machine's parts, where the newest frame and the newest loan come last.
use Rattle.std.specs.Prelude.{ℕ, Bool, List, [], ◌∷◌, ◌++◌, Option, Some, None, reverse, length, drop}
use Rattle.thin_state.specs.declared.space.Obj.{Obj}
use Rattle.thin_state.specs.declared.space.Event.{Event}
use Rattle.thin_state.specs.declared.space.Event.TheVariants as event
use Rattle.thin_state.specs.declared.tree.Variable.{Variable}
use Rattle.thin_state.specs.declared.tree.Place.{Place}
use Rattle.thin_state.specs.declared.tree.CFile.{CFile}
use Rattle.thin_state.specs.declared.state.Spot.{Spot}
use Rattle.thin_state.specs.declared.state.Value.{Value}
use Rattle.thin_state.specs.declared.state.Value.TheVariants as value
use Rattle.thin_state.specs.declared.state.Doing.TheVariants as doing
use Rattle.thin_state.specs.declared.state.Course.{Course}
use Rattle.thin_state.specs.declared.state.Course.TheVariants as course
use Rattle.thin_state.specs.declared.space.Entry.{Entry}
use Rattle.thin_look.specs.Views.{frames_view}
use Rattle.thin_state.specs.State.{CState, lose, put, put_to, spots_at, set_spots, put_spot}
use Rattle.thin_look.specs.declared.parts.Activation.{Activation}
use Rattle.thin_apply.specs.declared.parts.Core.{Core}
use Rattle.thin_plan.specs.declared.effects.Effect.{Effect}
use Rattle.thin_plan.specs.declared.effects.Effect.TheVariants as effect
use Rattle.thin_turn.specs.declared.parts.Delivery.{Delivery}
use Rattle.thin_turn.specs.declared.parts.Delivery.TheVariants as delivery
use Rattle.thin_turn.specs.declared.parts.Turn.{Turn}
use Rattle.thin_turn.specs.declared.parts.Turn.TheVariants as turn
use Rattle.thin_plan.specs.Effects.{course_after}

-- what changes in a step
pub record Parts : Type 0 where
  pub taken : ℕ
  pub frames : List Activation
  pub places : List (List Spot)
  pub begun : ℕ
  pub course : Course
  pub error : Option Obj
  pub loans : List Obj

abbrev pub parts_of : Core → Parts
parts_of c = record {
  taken = c.taken;
  frames = c.frames.items;
  places = c.places.items;
  begun = c.begun;
  course = c.course;
  error = c.error;
  loans = c.loans.items;
}

-- what stays
pub record Fixed : Type 0 where
  pub files : List CFile
  pub lock : Bool
  pub instances : ℕ
  pub views : ℕ

abbrev pub fixed : Core → Fixed
fixed c = record { files = c.files.items; lock = c.lock; instances = c.instances; views = c.views }

-- with a frame on top, and with more loans
abbrev pub above : Activation → Parts → Parts
above a p = record p { frames = p.frames ++ a ∷ [] }

abbrev pub lent_to : List Obj → Parts → Parts
lent_to l p = record p { loans = p.loans ++ reverse l }

-- a change of the newest frame
abbrev pub on_last : (Activation → Activation) → List Activation → List Activation
on_last change [] = []
on_last change (a ∷ []) = change a ∷ []
on_last change (a ∷ (b ∷ more)) = a ∷ on_last change (b ∷ more)

abbrev pub at_line : Option ℕ → Activation → Activation
at_line None a = a
at_line (Some i) a = record a { line = i }

abbrev pub stored : ℕ → Place → Value → Parts → Parts
stored k y v p = record p { places = set_spots p.places k (put_spot (spots_at p.places k) y v) }

abbrev pub given : Option Variable → Value → List Obj → Activation → Activation
given x v own g = record g { doing = doing.Runs; own = own; variables = put_to g.variables x v }

-- an effect, with the frame that ran, which isn't among the parts
abbrev pub applied : Parts → Activation → Effect → Parts
applied p a (effect.Fault k) = above a p
applied p a (effect.Write x v l) = above (record a { variables = put a.variables x v }) (lent_to l p)
applied p a (effect.Store y v own l) = above (record a { own = own }) (stored a.file y v (lent_to l p))
applied p a (effect.Ask o r x e) = above (record a { doing = doing.Asks o r x }) (record p { loans = [] })
applied p a (effect.Call b x l) = above (record b { doing = doing.Runs }) (above (record a { doing = doing.Waits x }) (lent_to l p))
applied p a (effect.Gain own l) = above (record a { own = own }) (lent_to l p)
applied p a (effect.Lose o) = above (record a { own = lose a.own o }) (record p { loans = [] })
applied p a (effect.Jump i l) = above (at_line i a) (lent_to l p)
applied p a (effect.Hand x v own l) = lent_to l (record p { frames = on_last (given x v own) p.frames })
applied p a (effect.Leave o l) = lent_to l p
applied p a (effect.LeaveRaise e failed l) =
    record (lent_to l p) { error = None; course = course_after failed p.course }

-- an effect that is no fault
abbrev pub NoFault : Effect → Type 0
NoFault (effect.Fault k) = ⊥
NoFault _ = Unit {0}

-- the event of an effect
abbrev pub effect_events : Effect → List Event
effect_events (effect.Ask o r x e) = e ∷ []
effect_events (effect.Leave o l) = event.Leave o ∷ []
effect_events (effect.LeaveRaise e failed l) = event.LeaveRaise e ∷ []
effect_events _ = []

-- how many objects an effect lends
abbrev pub lends_of : Effect → ℕ
lends_of (effect.Write x v l) = length l
lends_of (effect.Store y v own l) = length l
lends_of (effect.Call b x l) = length l
lends_of (effect.Gain own l) = length l
lends_of (effect.Jump i l) = length l
lends_of (effect.Hand x v own l) = length l
lends_of (effect.Leave o l) = length l
lends_of (effect.LeaveRaise e failed l) = length l
lends_of _ = 0

-- an answer that reaches the newest frame
abbrev pub answered_to : Option Variable → Value → Activation → Activation
answered_to x v g = record g { doing = doing.Runs; variables = put_to g.variables x v }

abbrev pub runs : Activation → Activation
runs g = record g { doing = doing.Runs }

abbrev pub delivered_in : Option Variable → Delivery → Parts → Parts
delivered_in x (delivery.New own o) p = record p { frames = on_last (given x (value.Object o) own) p.frames }
delivered_in x (delivery.Raised e) p = record p { frames = on_last (answered_to x value.Null) p.frames; error = Some e }
delivered_in x (delivery.Borrowed o loan) p =
    record p { frames = on_last (answered_to x (value.Object o)) p.frames; loans = p.loans ++ loan ∷ [] }
delivered_in x (delivery.SetsError e) p = record p { frames = on_last runs p.frames; error = Some e }

-- a turn of the outside, after which so many entries are taken
abbrev pub moved_on : ℕ → Turn → Parts → Parts
moved_on n turn.Nothing p = record p { taken = n }
moved_on n turn.Stop p = record p { taken = n; course = course.Stopped }
moved_on n turn.End p = record p { taken = n; course = course.Ended }
moved_on n (turn.Answer a x d) p = delivered_in x d (record p { taken = n })
moved_on n (turn.Enter callee args b) p = above b (record p { taken = n })
moved_on n (turn.Begin name k b) p = record p { taken = n; begun = k; frames = b ∷ [] }

-- its event
abbrev pub turn_events : Turn → List Event
turn_events turn.Nothing = []
turn_events turn.Stop = event.Stop ∷ []
turn_events turn.End = event.End ∷ []
turn_events (turn.Answer a x d) = event.Answer a ∷ []
turn_events (turn.Enter callee args b) = event.Enter callee args ∷ []
turn_events (turn.Begin name k b) = event.Init name ∷ []

-- the newest frame
abbrev pub last_of : List Activation → Option Activation
last_of [] = None
last_of (a ∷ []) = Some a
last_of (a ∷ (b ∷ more)) = last_of (b ∷ more)

-- the state that the parts stand for, with the entries of a script that are left and the events so far
abbrev pub seen : Fixed → Parts → List Entry → List Event → CState
seen x p script events = record {
  world = record { script = drop p.taken script; instances = x.instances; views = x.views; events = events };
  frames = frames_view x.files p.frames;
  places = p.places;
  begun = p.begun;
  course = p.course;
  error = p.error;
  lock = x.lock;
  loans = reverse p.loans;
}
