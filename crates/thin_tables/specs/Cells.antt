-- Which cell is a variable's.
use Rattle.std.specs.Prelude.{ℕ, suc, List, [], ◌∷◌, Option, Some, None, if◌then◌else◌}
use Rattle.thin_state.specs.declared.state.Cell.{Cell}
use Rattle.thin_state.specs.declared.tree.Variable.{Variable}
use Rattle.thin_state.specs.declared.state.Value.{Value}
use Rattle.thin_state.specs.State.{converted, same_variable}

-- the number of the first cell of a name, where the cells are numbered from i on
abbrev pub cell_from : ℕ → List Cell → Variable → Option ℕ
cell_from i [] x = None
cell_from i (c ∷ cs) x = if same_variable c.variable x then Some i else cell_from (suc i) cs x

abbrev pub cell_number : List Cell → Variable → Option ℕ
cell_number cs x = cell_from 0 cs x

-- a cell after its variable got a value
abbrev pub with_value : Cell → Value → Cell
with_value c v = record c { value = converted c.kind v }
