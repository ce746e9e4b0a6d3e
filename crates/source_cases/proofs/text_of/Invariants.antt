use Rattle.std.proofs.Common.{◌-◌, length}
use Rattle.source_cases.proofs.text_of.Given as goal

abbrev pub decreases-loop-at : goal.decreases-loop-at
decreases-loop-at l = length l.line - l.at
