-- The theorem.
use Rattle.std.proofs.Common.{ℕ, List, arith}
use Rattle.cy_mean.specs.declared.ThinFunction.{ThinFunction}
use Rattle.cy_mean.specs.Source.{thin_set}
use Rattle.cy_mean.specs.Sound.{IsSound}
use Rattle.cy_mean.proofs.Soundness.{sound_on}
use Rattle.thin_source.specs.Thin.{IsThin}
use Rattle.thin_code.specs.ThinC.{thin_files}
use Rattle.thin_sound.proofs.ThinSound.Function.{thin_pace}
use Rattle.thin_sound.proofs.ThinSound.Initialisation.{run_follows}

-- the C of a thin file means what its source means, over any script
pub sound : (name : List ℕ) (thin : ThinFunction) → IsThin thin → IsSound (thin_set name thin) (thin_files name thin)
sound name thin is_thin script honest =
    sound_on (thin_pace name thin) (thin_set name thin) script (omega arith) (run_follows name thin is_thin script)
