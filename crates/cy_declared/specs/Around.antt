-- What is known around the expressions of a module and of a function, by the declarations of a set. The project's own.
use Rattle.std.specs.Prelude.{ℕ, suc, ◌+◌, List, [], ◌∷◌, ◌++◌, map, length, Option, Some, None, slice_get}
use Rattle.cy_tree.specs.declared.set.NameKind.{NameKind}
use Rattle.cy_tree.specs.declared.set.NamedSet.{NamedSet}
use Rattle.cy_tree.specs.declared.ty.Ty.{Ty}
use Rattle.cy_tree.specs.declared.ty.Ty.TheVariants as ty
use Rattle.cy_tree.specs.Coercions.{coercion_of}
use Rattle.cy_around.specs.Surroundings.{Surroundings}
use Rattle.cy_scope.specs.declared.known.Known.{Known}
use Rattle.cy_scope.specs.Declarations.{kind_in, known_of}
use Rattle.cy_scope.specs.Files.{Module, modules}
use Rattle.cy_declared.specs.Functions.{Owned, callable, owned_functions}
use Rattle.cy_declared.specs.Members.{member_of}
use Rattle.cy_declared.specs.Types.{meaning_in}
use Rattle.cy_declared.specs.Variables.{local_type, variable_type}

-- what a module declares to others: the classes and C functions of its `.pxd`, as its `.pyx` gives them
abbrev pub exported : Known → ℕ → List ℕ → Option NameKind
exported known m name = kind_in (slice_get known.shared m) name

-- a scope: its number, its module, and the function whose scope it is
pub record Scoped : Type 0 where
  pub scope : ℕ
  pub module_number : ℕ
  pub function : Option Owned

abbrev pub module_scoped : Module → Scoped
module_scoped m = record { scope = m.number; module_number = m.number; function = None }

-- the scopes of functions, numbered from s on
abbrev pub functions_scoped : ℕ → ℕ → List Owned → List Scoped
functions_scoped s m [] = []
functions_scoped s m (o ∷ os) = record { scope = s; module_number = m; function = Some o } ∷ functions_scoped (suc s) m os

abbrev pub all_functions_scoped : NamedSet → ℕ → List Module → List Scoped
all_functions_scoped set s [] = []
all_functions_scoped set s (m ∷ ms) =
    functions_scoped s m.number (owned_functions set m) ++ all_functions_scoped set (s + length (owned_functions set m)) ms

-- the scopes of a set by their numbers: those of the modules, then those of the functions
abbrev pub all_scoped : NamedSet → List Scoped
all_scoped set = map module_scoped (modules set.set) ++ all_functions_scoped set (length (modules set.set)) (modules set.set)

-- ---- what is known in a scope

-- a module has no locals
abbrev pub local_in : Known → NamedSet → Scoped → Option Owned → ℕ → Ty
local_in known set s None number = ty.Object
local_in known set s (Some o) number = local_type known set s.module_number s.scope o number

abbrev pub around_with : Known → NamedSet → Scoped → Surroundings
around_with known set s = record {
  kind = meaning_in set s.scope;
  local = local_in known set s s.function;
  variable = variable_type known set s.module_number;
  function = callable known set;
  exported = exported known;
  member = member_of known set;
  coercion = coercion_of set;
}

-- what is known around the expressions of a scope
abbrev pub surroundings : NamedSet → Scoped → Surroundings
surroundings set s = around_with (known_of set.set) set s
