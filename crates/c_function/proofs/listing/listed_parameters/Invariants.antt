use Rattle.std.proofs.Common.{length}
use Rattle.c_tree.specs.Forms.{IsParameter}
use Rattle.c_tree.specs.Items.{parameter_spelling}
use Rattle.c_operand.proofs.Commas.{AreListed}
use Rattle.c_function.proofs.listing.listed_parameters.Given as goal

abbrev pub invariant-loop-input : goal.invariant-loop-input
invariant-loop-input l = AreListed IsParameter parameter_spelling l.fn.input l.parameters.items l.input

abbrev pub decreases-loop-input : goal.decreases-loop-input
decreases-loop-input l = length l.input
