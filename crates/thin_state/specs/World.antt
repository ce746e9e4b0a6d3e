-- What the sources' meaning and the C share: the entries that are left, the counters, and the events so far.
use Rattle.std.specs.Prelude.{ℕ, List, [], ◌∷◌, ◌++◌}
use Rattle.thin_state.specs.declared.space.Obj.{Obj}
use Rattle.thin_state.specs.declared.space.Entry.{Entry}
use Rattle.thin_state.specs.declared.space.Op.{Op}
use Rattle.thin_state.specs.declared.space.Answer.{Answer}
use Rattle.thin_state.specs.declared.space.Event.{Event}
use Rattle.thin_state.specs.Objects.{answer, read_objs}

-- the world on both sides
pub record World : Type 0 where
  pub script : List Entry
  pub instances : ℕ
  pub views : ℕ
  pub events : List Event

-- before anything happens
abbrev pub first_world : List Entry → World
first_world script = record { script = script; instances = 0; views = 0; events = [] }

-- one event more
abbrev pub say : Event → World → World
say e w = record w { events = w.events ++ e ∷ [] }

-- with other entries left
abbrev pub with_script : List Entry → World → World
with_script s w = record w { script = s }

-- what an entry answers there
abbrev pub answer_in : World → Op → Entry → Answer
answer_in w o e = answer o e w.instances w.views

-- what a script's objects are there
abbrev pub read_in : World → List Obj → List Obj
read_in w os = read_objs w.instances w.views os
