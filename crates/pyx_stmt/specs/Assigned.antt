-- What an assignment is, where further expressions stand behind the first value.
use Rattle.std.specs.Prelude.{List, ◌++◌}
use Rattle.cy_tree.specs.declared.expr.Expr.{Expr}
use Rattle.cy_tree.specs.declared.stmt.Simple.{Simple}
use Rattle.cy_tree.specs.declared.stmt.Simple.TheVariants as simple
use Rattle.decl_grammar.specs.Nodes.{front_of, last_of}

-- these targets, and all that follows but the last; that is the value
abbrev pub assigned : List Expr → Expr → List Expr → Simple
assigned targets value more = simple.Assign (targets ++ front_of value more) (last_of value more)
