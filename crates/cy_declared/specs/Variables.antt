-- The types of C variables of modules and of the locals of functions (Cython documentation, "Language Basics", "Declaring C variables").
use Rattle.std.specs.Prelude.{ℕ, List, [], ◌∷◌, ◌++◌, map, Option, Some, None, slice_get}
use Rattle.std.specs.List.{flat_map}
use Rattle.cy_tree.specs.declared.decl.Param.{Param}
use Rattle.cy_tree.specs.declared.decl.Top.{Top}
use Rattle.cy_tree.specs.declared.decl.Top.TheVariants as top
use Rattle.cy_tree.specs.declared.set.NamedSet.{NamedSet}
use Rattle.cy_tree.specs.declared.set.Scope.{Scope}
use Rattle.cy_tree.specs.declared.ty.ClassId.{ClassId}
use Rattle.cy_tree.specs.declared.ty.Ty.{Ty}
use Rattle.cy_tree.specs.declared.ty.Ty.TheVariants as ty
use Rattle.cy_tree.specs.declared.types.Ident.{Ident}
use Rattle.cy_tree.specs.declared.types.TypeNode.{TypeNode}
use Rattle.cy_mention.specs.Modules.{body_of, params_of}
use Rattle.cy_scope.specs.declared.known.Known.{Known}
use Rattle.cy_scope.specs.Files.{Module, modules, tops}
use Rattle.name_table.specs.Entries.{texts}
use Rattle.name_table.specs.Shown.{shown}
use Rattle.type_uses.specs.Uses.{TypeUse, Declares, stmt_uses, suite_uses}
use Rattle.type_uses.specs.Trees.{variables_uses}
use Rattle.cy_declared.specs.Functions.{Owned, among}
use Rattle.cy_declared.specs.Named.{first_among}
use Rattle.cy_declared.specs.Types.{place_type, or_object}

-- a name, and its type as it is written
abbrev pub Declaration : Type 0
Declaration = Ident × Option TypeNode

abbrev pub declared_in : TypeUse → List Declaration
declared_in (Declares i kind) = (i, kind) ∷ []
declared_in _ = []

abbrev pub declared_by : List TypeUse → List Declaration
declared_by uses = flat_map declared_in uses

-- ---- modules

-- the C variables that an item declares, in text order
abbrev pub variables_in : Top → List Declaration
variables_in (top.Variables v) = declared_by (variables_uses v)
variables_in (top.Stmt s) = declared_by (stmt_uses s)
variables_in _ = []

-- the types of a module's C variables, by their numbers
abbrev pub variable_types : Known → NamedSet → Module → List Ty
variable_types known set m = map (λ d. place_type known set m.number d.1) (flat_map variables_in (tops set.set m.files))

abbrev pub variable_type : Known → NamedSet → ℕ → ℕ → Ty
variable_type known set m v = or_object (among (slice_get (map (variable_types known set) (modules set.set)) m) v)

-- ---- functions

-- a name with its type
abbrev pub Typed : Type 0
Typed = List ℕ × Ty

abbrev pub typed_param : Known → NamedSet → ℕ → Param → Typed
typed_param known set m p = (p.name.text, place_type known set m p.kind)

-- the parameters, of which the first of a method has its class
abbrev pub typed_params : Known → NamedSet → ℕ → Option ClassId → List Param → List Typed
typed_params known set m None ps = map (typed_param known set m) ps
typed_params known set m (Some class) [] = []
typed_params known set m (Some class) (p ∷ ps) = (p.name.text, ty.Class class) ∷ map (typed_param known set m) ps

abbrev pub typed_declaration : Known → NamedSet → ℕ → Declaration → Typed
typed_declaration known set scope d = (d.0.text, place_type known set scope d.1)

-- the names with types of a function of module m: the parameters, and what `cdef` declares in the body, whose types are read in the function's scope
abbrev pub typed_names : Known → NamedSet → ℕ → ℕ → Owned → List Typed
typed_names known set m scope o =
    typed_params known set m o.owner (params_of o.function)
    ++ map (typed_declaration known set scope) (declared_by (suite_uses (body_of o.function)))

-- the name of a number among those that a scope holds
abbrev pub named_at : Option Scope → ℕ → Option (List ℕ)
named_at None number = None
named_at (Some scope) number = slice_get (texts (shown scope.names.entries)) number

-- the type of a name; one that isn't declared is `object`
abbrev pub typed_as : List Typed → Option (List ℕ) → Ty
typed_as ts None = ty.Object
typed_as ts (Some name) = or_object (first_among ts name)

-- the type of a function's local, by its number
abbrev pub local_type : Known → NamedSet → ℕ → ℕ → Owned → ℕ → Ty
local_type known set m scope o number = typed_as (typed_names known set m scope o) (named_at (slice_get set.scopes scope) number)
