-- The variables of a frame. The project's own.
use Rattle.std.specs.Prelude.{List, [], ◌∷◌, Option, Some, None, if◌then◌else◌}
use Rattle.c_tree.specs.declared.name.Variable.{Variable}
use Rattle.c_value.specs.declared.value.Value.{Value}
use Rattle.c_value.specs.declared.frame.Cell.{Cell}
use Rattle.c_value.specs.Names.{same_variable}
use Rattle.c_value.specs.Values.{converted}

-- the first cell of that name
abbrev pub lookup : List Cell → Variable → Option Cell
lookup [] x = None
lookup (c ∷ cs) x = if same_variable c.variable x then Some c else lookup cs x

-- a variable that isn't there is left out: the statements test that it is there
abbrev pub put : List Cell → Variable → Value → List Cell
put [] x v = []
put (c ∷ cs) x v = if same_variable c.variable x then record c { value = converted c.kind v } ∷ cs else c ∷ put cs x v
