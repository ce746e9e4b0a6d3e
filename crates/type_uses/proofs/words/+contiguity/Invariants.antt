use Rattle.std.proofs.Common.{length}
use Rattle.type_uses.proofs.words.+contiguity.Given as goal

abbrev pub decreases-contiguity : goal.decreases-contiguity
decreases-contiguity l = length l.dims.now
