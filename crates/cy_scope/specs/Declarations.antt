-- What modules and functions declare, and what each name means there (Cython documentation, "Language Basics", "Sharing
-- Declarations Between Cython Modules"; Python language reference, 4.2).
use Rattle.std.specs.Prelude.{ℕ, suc, ◌+◌, not, List, [], ◌∷◌, ◌++◌, Option, Some, None, map, length, slice_get}
use Rattle.std.specs.List.{filter, flat_map}
use Rattle.cy_tree.specs.declared.decl.Cimport.{Cimport}
use Rattle.cy_tree.specs.declared.decl.Cimport.TheVariants as cimport
use Rattle.cy_tree.specs.declared.decl.ImportItem.{ImportItem}
use Rattle.cy_tree.specs.declared.decl.Top.{Top}
use Rattle.cy_tree.specs.declared.decl.Top.TheVariants as top
use Rattle.cy_tree.specs.declared.set.ModuleFiles.{ModuleFiles}
use Rattle.cy_tree.specs.declared.set.NameKind.{NameKind}
use Rattle.cy_tree.specs.declared.set.NameKind.TheVariants as kind
use Rattle.cy_tree.specs.declared.set.SourceSet.{SourceSet}
use Rattle.cy_tree.specs.declared.types.Ident.{Ident}
use Rattle.cy_tree.specs.Functions.{Function, functions_of}
use Rattle.name_table.specs.Entries.{Entry, firsts, is_among, kind_among, numbered, once, texts}
use Rattle.cy_mention.specs.Mentions.{Mention, alias_or}
use Rattle.cy_mention.specs.Modules.{class_names, def_names, item_cimports, made_global, made_local, mentions_of, parameters, params_of, shared_names, top_cimports, variables_of}
use Rattle.cy_scope.specs.Files.{Module, items, modules, tops}
use Rattle.cy_scope.specs.declared.known.Known.{Known}

abbrev pub text_of : Ident → List ℕ
text_of i = i.text

-- a name that is a module global, or of which only the text counts
abbrev pub plain : Ident → Entry
plain i = (i.text, kind.Global)

-- each name once, with what its first entry says
abbrev pub names_of : List Entry → List Entry
names_of es = firsts [] es

abbrev pub or_global : Option NameKind → NameKind
or_global None = kind.Global
or_global (Some k) = k

-- ---- what the `.pyx` of a module declares

-- C variables, numbered from v on
abbrev pub variables_from : ℕ → List Ident → List Entry
variables_from v [] = []
variables_from v (i ∷ is) = (i.text, kind.CVariable v) ∷ variables_from (suc v) is

-- classes of module m, numbered from c on
abbrev pub classes_from : ℕ → ℕ → List Ident → List Entry
classes_from m c [] = []
classes_from m c (i ∷ is) = (i.text, kind.Class (record { «module» = m; index = c })) ∷ classes_from m (suc c) is

abbrev pub function_entry : ℕ → ℕ → Top → List Entry
function_entry m f (top.Function x) = (x.heading.name.text, kind.CFunction (record { «module» = m; index = f })) ∷ []
function_entry m f _ = []

-- C functions of module m, where f functions, methods included, came before
abbrev pub functions_from : ℕ → ℕ → List Top → List Entry
functions_from m f [] = []
functions_from m f (t ∷ ts) = function_entry m f t ++ functions_from m (f + length (functions_of t)) ts

-- C variables, C functions and classes, each kind in text order
abbrev pub c_names : ℕ → List Top → List Entry
c_names m ts = variables_from 0 (flat_map variables_of ts) ++ (functions_from m 0 ts ++ classes_from m 0 (flat_map class_names ts))

-- The declarations in the order in which they count: C names of the module, cimported names, and `def` functions, which are
-- module globals.
abbrev pub in_order : List Entry → ℕ → List Top → List Entry
in_order cimported m ts = c_names m ts ++ (cimported ++ map plain (flat_map def_names ts))

abbrev pub own_names : SourceSet → Module → List Entry
own_names set m = names_of (in_order [] m.number (tops set m.files))

-- ---- what others may cimport

abbrev pub shared_entry : List Entry → Ident → Entry
shared_entry own i = (i.text, or_global (kind_among own i.text))

-- the classes and functions that the `.pxd` of a module declares, as its `.pyx` gives them
abbrev pub shared_by : SourceSet → Module → List Entry
shared_by set m = names_of (map (shared_entry (own_names set m)) (flat_map shared_names (items set m.files)))

abbrev pub module_entry : Module → Entry
module_entry m = (m.files.name, kind.Module m.number)

-- what is known of a set's modules: their names, and for each what others may cimport from it
abbrev pub known_of : SourceSet → Known
known_of set = record {
  modules = names_of (map module_entry (modules set));
  shared = map (shared_by set) (modules set);
}

abbrev pub kind_in : Option (List Entry) → List ℕ → Option NameKind
kind_in None name = None
kind_in (Some es) name = kind_among es name

-- what a name of a module means to others, where something means a module
abbrev pub kind_through : Known → Option NameKind → List ℕ → Option NameKind
kind_through known (Some (kind.Module k)) name = kind_in (slice_get known.shared k) name
kind_through known _ name = None

-- what a name means that is cimported from a module
abbrev pub kind_from : Known → Ident → ImportItem → Option NameKind
kind_from known outer i = kind_through known (kind_among known.modules outer.text) i.name.text

abbrev pub item_from : Known → Ident → ImportItem → Entry
item_from known outer i = ((alias_or i.alias i.name).text, or_global (kind_from known outer i))

-- what a cimport declares
abbrev pub cimported_by : Known → Cimport → List Entry
cimported_by known (cimport.Module at i) = ((alias_or i.alias i.name).text, or_global (kind_among known.modules i.name.text)) ∷ []
cimported_by known (cimport.From at outer is) = map (item_from known outer) is

-- the cimports of a module: those of its `.pxd`, then those of its `.pyx`
abbrev pub cimports_of : SourceSet → ModuleFiles → List Cimport
cimports_of set m = flat_map item_cimports (items set m) ++ flat_map top_cimports (tops set m)

-- the names of a module's scope
abbrev pub module_names : Known → SourceSet → Module → List Entry
module_names known set m = names_of (in_order (flat_map (cimported_by known) (cimports_of set m.files)) m.number (tops set m.files))

-- ---- locals of a function

-- the texts of names, each once
abbrev pub seen : List Ident → List (List ℕ)
seen is = texts (names_of (map plain is))

-- the names that a `global` of the function names
abbrev pub globals_of : List Mention → List (List ℕ)
globals_of ms = seen (flat_map made_global ms)

abbrev pub unless_global : List (List ℕ) → List Ident → List (List ℕ)
unless_global globals is = filter (λ x. not (is_among globals x)) (map text_of is)

-- the parameters, then the others by the first token that makes them local; no name that a `global` of the function names
abbrev pub locals : Function → List (List ℕ)
locals f = once [] (unless_global (globals_of (mentions_of f)) (parameters (params_of f) ++ flat_map made_local (mentions_of f)))

abbrev pub function_names : Function → List Entry
function_names f = numbered 0 (locals f)
