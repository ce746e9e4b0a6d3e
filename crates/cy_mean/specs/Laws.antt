-- Laws of the events that runs make, over any sources, files and script. The project's own.
use Rattle.std.specs.Prelude.{◌≡◌, ℕ, ◌+◌, Bool, true, false, IsTrue, List, [], ◌∷◌, ◌++◌}
use Rattle.thin_state.specs.declared.space.Entry.{Entry}
use Rattle.thin_state.specs.declared.space.Event.{Event}
use Rattle.thin_state.specs.declared.space.Event.TheVariants as event
use Rattle.thin_state.specs.declared.tree.CFile.{CFile}
use Rattle.thin_state.specs.Machine.{c_events}
use Rattle.cy_mean.specs.Source.{Sources}
use Rattle.cy_mean.specs.Meaning.{source_events}
use Rattle.cy_mean.specs.Sound.{Prefix}

-- `end` or `stop`
abbrev pub is_last : Event → Bool
is_last event.End = true
is_last event.Stop = true
is_last _ = false

-- at most one `end` or `stop`, and nothing after it
abbrev pub EndsOnce : List Event → Type 0
EndsOnce es = (before after : List Event) (e : Event) → IsTrue (is_last e) → es ≡ before ++ e ∷ after → after ≡ []

-- more budget only adds events at the end
abbrev pub SourceEventsGrow : Type 0
SourceEventsGrow =
    (set : Sources) (script : List Entry) (m k : ℕ) → Prefix (source_events set script m) (source_events set script (m + k))

-- more steps only add events at the end
abbrev pub CEventsGrow : Type 0
CEventsGrow =
    (files : List CFile) (script : List Entry) (n k : ℕ) → Prefix (c_events files script n) (c_events files script (n + k))

-- what the sources mean ends once
abbrev pub SourceEventsEndOnce : Type 0
SourceEventsEndOnce = (set : Sources) (script : List Entry) (m : ℕ) → EndsOnce (source_events set script m)

-- what the C makes ends once
abbrev pub CEventsEndOnce : Type 0
CEventsEndOnce = (files : List CFile) (script : List Entry) (n : ℕ) → EndsOnce (c_events files script n)
