use Rattle.forms.proofs.Packs.{packs_are_read}
use Rattle.forms.proofs.packs_are_read.Goals as goal

pub returns : goal.returns
returns c = packs_are_read
