use Rattle.std.proofs.Common.{length}
use Rattle.std.specs.Prelude.{⊤}
use Rattle.c_tree.specs.declared.value.CType.{CType}
use Rattle.c_tree.specs.Values.{type_spelling}
use Rattle.c_operand.proofs.Commas.{AreListed}
use Rattle.c_operand.proofs.kinds.listed_types.Given as goal

abbrev pub invariant-loop-input : goal.invariant-loop-input
invariant-loop-input l = AreListed (λ (_ : CType). ⊤) type_spelling l.fn.input l.kinds.items l.input

abbrev pub decreases-loop-input : goal.decreases-loop-input
decreases-loop-input l = length l.input
