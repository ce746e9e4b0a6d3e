use Rattle.std.proofs.Common.{rules}
use Rattle.cy_tree.proofs.Pairs.{slice_get-each_pair}
use Rattle.cy_tree.proofs.node.pair_at.Goals as goal

pub returns-in_err-pair : goal.returns-in_err-pair
returns-in_err-pair c = rw slice_get-each_pair search rules

pub returns-then-place-eq0 : goal.returns-then-place-eq0
returns-then-place-eq0 c = rw slice_get-each_pair search rules

pub returns-else-place-eq0 : goal.returns-else-place-eq0
returns-else-place-eq0 c = rw slice_get-each_pair search rules
