-- The trees of the sources, as far as the thin files go.
use Rattle.std.specs.Prelude.{ℕ, List, [], ◌∷◌}
use Rattle.thin_state.specs.declared.space.BinaryOp.{BinaryOp}
use Rattle.thin_state.specs.declared.space.BinaryOp.TheVariants as binary
use Rattle.cy_mean.specs.declared.ThinFunction.{ThinFunction}

-- an expression: a name, or two operands and the operator between them (Cython documentation, Language Basics, "Statements and expressions")
pub data Expression : Type 0 where
  Named : List ℕ → Expression
  Binary : BinaryOp → (left right : Expression) → Expression

-- a statement: `return e` (Cython documentation, Language Basics, "Statements and expressions")
pub data Statement : Type 0 where
  Return : Expression → Statement

-- a function `def NAME(P, ..):` with its body (Cython documentation, Language Basics, "Python functions vs. C functions")
pub record Function : Type 0 where
  pub name : List ℕ
  pub parameters : List (List ℕ)
  pub body : List Statement

-- a module: its name and the functions that its text defines, in order
pub record Module : Type 0 where
  pub name : List ℕ
  pub functions : List Function

-- the modules that are compiled together, in the order of their initialisation
abbrev pub Sources : Type 0
Sources = List Module

-- what the text of a thin file says
abbrev pub thin_function : ThinFunction → Function
thin_function thin = record {
  name = thin.name;
  parameters = thin.parameters;
  body = Return (Binary binary.Add (Named thin.left) (Named thin.right)) ∷ [];
}

-- the set of one thin file, of the module of that name
abbrev pub thin_set : List ℕ → ThinFunction → Sources
thin_set module_name thin = record { name = module_name; functions = thin_function thin ∷ [] } ∷ []
