use Rattle.std.proofs.Common.{length}
use Rattle.c_tree.specs.Forms.{IsArgument}
use Rattle.c_tree.specs.Statements.{argument_spelling}
use Rattle.c_operand.proofs.Commas.{AreListed}
use Rattle.c_operand.proofs.calls.listed_arguments.Given as goal

abbrev pub invariant-loop-alloc : goal.invariant-loop-alloc
invariant-loop-alloc l = AreListed IsArgument argument_spelling l.fn.input l.all.items l.input

abbrev pub decreases-loop-alloc : goal.decreases-loop-alloc
decreases-loop-alloc l = length l.input
