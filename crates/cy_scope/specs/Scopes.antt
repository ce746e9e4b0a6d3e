-- The scopes of a set, and what a name means in one (Python language reference, 4.2.2, "Resolution of names"; the project's own).
use Rattle.std.specs.Prelude.{ℕ, List, ◌++◌, Option, Some, None, map, slice_get}
use Rattle.std.specs.List.{flat_map}
use Rattle.cy_tree.specs.declared.set.NameKind.{NameKind}
use Rattle.cy_tree.specs.declared.set.Scope.{Scope}
use Rattle.cy_tree.specs.declared.set.SourceSet.{SourceSet}
use Rattle.cy_tree.specs.Functions.{Function, functions}
use Rattle.name_table.specs.Entries.{Entry, kind_among}
use Rattle.name_table.specs.Shown.{shown}
use Rattle.cy_scope.specs.Files.{Module, modules, tops}
use Rattle.cy_scope.specs.declared.known.Known.{Known}
use Rattle.cy_scope.specs.Declarations.{function_names, known_of, module_names, or_global}

-- the names that a scope declares, each once, with what they mean there
pub record Names : Type 0 where
  pub module_number : ℕ
  pub entries : List Entry

abbrev pub module_scope : Known → SourceSet → Module → Names
module_scope known set m = record { module_number = m.number; entries = module_names known set m }

abbrev pub function_scope : ℕ → Function → Names
function_scope m f = record { module_number = m; entries = function_names f }

abbrev pub function_scopes : SourceSet → Module → List Names
function_scopes set m = map (function_scope m.number) (functions (tops set m.files))

-- the scopes of the modules by their numbers, then those of the functions by module and text order
abbrev pub scopes_with : Known → SourceSet → List Names
scopes_with known set = map (module_scope known set) (modules set) ++ flat_map (function_scopes set) (modules set)

abbrev pub scopes_of : SourceSet → List Names
scopes_of set = scopes_with (known_of set) set

-- a scope as it is kept
abbrev pub scope_shown : Scope → Names
scope_shown kept = record { module_number = kept.module; entries = shown kept.names.entries }

abbrev pub scopes_shown : List Scope → List Names
scopes_shown kept = map scope_shown kept

-- ---- what a name means

abbrev pub kind_in_scope : Option Names → List ℕ → Option NameKind
kind_in_scope None name = None
kind_in_scope (Some scope) name = kind_among scope.entries name

abbrev pub or_in_module : List Names → Option Names → Option NameKind → List ℕ → Option NameKind
or_in_module scopes scope (Some k) name = Some k
or_in_module scopes None None name = None
or_in_module scopes (Some scope) None name = kind_in_scope (slice_get scopes scope.module_number) name

-- The first of a local and a name of the module; else a module global. A number that names no scope gives a module global.
abbrev pub resolved_among : List Names → ℕ → List ℕ → NameKind
resolved_among scopes number name =
    or_global (or_in_module scopes (slice_get scopes number) (kind_in_scope (slice_get scopes number) name) name)

-- what a name means by the declarations of a set
abbrev pub resolved : SourceSet → ℕ → List ℕ → NameKind
resolved set number name = resolved_among (scopes_of set) number name
