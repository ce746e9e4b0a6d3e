-- The functions and classes of a file in text order, by which they are numbered. The project's own.
use Rattle.std.specs.Prelude.{ℕ, suc, List, [], ◌∷◌, Option, Some, None}
use Rattle.std.specs.List.{flat_map}
use Rattle.cy_tree.specs.declared.content.Content.{Content}
use Rattle.cy_tree.specs.declared.content.Content.TheVariants as content
use Rattle.cy_tree.specs.declared.decl.CFunction.{CFunction}
use Rattle.cy_tree.specs.declared.decl.Class.{Class}
use Rattle.cy_tree.specs.declared.decl.Def.{Def}
use Rattle.cy_tree.specs.declared.decl.Member.{Member}
use Rattle.cy_tree.specs.declared.decl.Member.TheVariants as member
use Rattle.cy_tree.specs.declared.decl.Top.{Top}
use Rattle.cy_tree.specs.declared.decl.Top.TheVariants as top

-- a `def` function, or one that C can call
pub data Function : Type 0 where
  PythonFunction : Def → Function
  CythonFunction : CFunction → Function

abbrev pub methods_of : Member → List Function
methods_of (member.Def d) = PythonFunction d ∷ []
methods_of (member.Method f) = CythonFunction f ∷ []
methods_of _ = []

abbrev pub functions_of : Top → List Function
functions_of (top.Class c) = flat_map methods_of c.members
functions_of (top.Function f) = CythonFunction f ∷ []
functions_of (top.Def d) = PythonFunction d ∷ []
functions_of _ = []

-- the functions of a `.pyx` file, methods included
abbrev pub functions : List Top → List Function
functions tops = flat_map functions_of tops

abbrev pub classes_of : Top → List Class
classes_of (top.Class c) = c ∷ []
classes_of _ = []

-- the classes of a `.pyx` file
abbrev pub classes : List Top → List Class
classes tops = flat_map classes_of tops

-- the items of a `.pyx` file, of which a `.pxd` has none
abbrev pub tops_of : Content → List Top
tops_of (content.Implementation tops) = tops
tops_of (content.Definition items) = []

abbrev pub as_class : Option Top → Option Class
as_class (Some (top.Class c)) = Some c
as_class _ = None

-- where the classes stand among items, of which the first has the number i
abbrev pub class_places : ℕ → List Top → List ℕ
class_places i [] = []
class_places i (top.Class c ∷ tops) = i ∷ class_places (suc i) tops
class_places i (t ∷ tops) = class_places (suc i) tops
