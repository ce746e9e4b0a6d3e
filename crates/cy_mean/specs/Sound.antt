-- What it is for written C to mean what its sources mean. The project's own.
use Rattle.std.specs.Prelude.{◌≡◌, ◌≢◌, ℕ, List, ◌++◌}
use Rattle.thin_state.specs.declared.space.Entry.{Entry}
use Rattle.thin_state.specs.declared.space.Event.{Event}
use Rattle.thin_state.specs.declared.tree.CFile.{CFile}
use Rattle.thin_state.specs.declared.state.FaultKind.{FaultKind}
use Rattle.thin_state.specs.declared.state.Step.TheVariants as step
use Rattle.thin_state.specs.State.{linked}
use Rattle.thin_state.specs.Machine.{c_step, c_steps, c_events}
use Rattle.thin_state.specs.Honest.{IsHonest}
use Rattle.cy_mean.specs.Source.{Sources}
use Rattle.cy_mean.specs.Meaning.{source_events}

-- the second list goes on where the first ends
abbrev pub Prefix : List Event → List Event → Type 0
Prefix a b = (more : List Event) × (b ≡ a ++ more)

-- over an honest script: what any number of steps makes the sources mean, what the sources mean comes after some number of steps, and no step faults
pub record IsSoundOn (set : Sources) (files : List CFile) (script : List Entry) : Type 0 where
  pub c_within_source : (n : ℕ) → (m : ℕ) × Prefix (c_events files script n) (source_events set script m)
  pub source_within_c : (m : ℕ) → (n : ℕ) × Prefix (source_events set script m) (c_events files script n)
  pub never_faults : (n : ℕ) (k : FaultKind) → (c_step files (c_steps files n (linked files script))).answer ≢ step.Fault k

-- the written C means what its sources mean, over every honest script
abbrev pub IsSound : Sources → List CFile → Type 0
IsSound set files = (script : List Entry) → IsHonest script → IsSoundOn set files script
