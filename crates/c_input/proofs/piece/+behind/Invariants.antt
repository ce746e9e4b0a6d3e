use Rattle.std.proofs.Common.{length}
use Rattle.c_input.proofs.piece.+behind.Given as goal

abbrev pub decreases-behind : goal.decreases-behind
decreases-behind l = length l.tokens.now
