-- The texts of the exceptions that the sources raise. The project's own.
use Rattle.std.specs.Prelude.{ℕ, List, ◌++◌, codes, decimal}

-- what a call with a wrong number of arguments says, as `f() takes 2 arguments`
abbrev pub arity_text : List ℕ → ℕ → List ℕ
arity_text name count = name ++ (codes "() takes " ++ (decimal count ++ codes " arguments"))
