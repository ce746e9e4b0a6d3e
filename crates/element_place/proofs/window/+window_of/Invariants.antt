use Rattle.std.proofs.Common.{length}
use Rattle.element_place.proofs.window.+window_of.Given as goal

abbrev pub decreases-window_of : goal.decreases-window_of
decreases-window_of l = length l.lengths.now
