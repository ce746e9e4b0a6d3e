use Rattle.thin_sound.proofs.ThinSound.Theorem.{sound}
use Rattle.thin_sound.proofs.laws.thin_is_sound.Goals as goal

pub returns : goal.returns
returns c = sound
