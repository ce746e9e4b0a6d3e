-- The rules on names, and where they are broken (Cython documentation, "Language Basics", "Sharing Declarations Between
-- Cython Modules"; the project's own). An offset is the first byte of the name that is spoken of.
use Rattle.std.specs.Prelude.{ℕ, Bool, true, false, ◌||◌, if◌then◌else◌, List, [], ◌∷◌, ◌++◌, Option, Some, None, is_none, codes, bytes_eq}
use Rattle.std.specs.List.{flat_map}
use Rattle.cy_base.specs.declared.place.Phase.TheVariants as phase
use Rattle.cy_base.specs.declared.place.Refusal.{Refusal}
use Rattle.cy_tree.specs.declared.decl.Cimport.{Cimport}
use Rattle.cy_tree.specs.declared.decl.Cimport.TheVariants as cimport
use Rattle.cy_tree.specs.declared.decl.Heading.{Heading}
use Rattle.cy_tree.specs.declared.decl.ImportItem.{ImportItem}
use Rattle.cy_tree.specs.declared.decl.Member.{Member}
use Rattle.cy_tree.specs.declared.decl.Member.TheVariants as member
use Rattle.cy_tree.specs.declared.decl.PxdItem.{PxdItem}
use Rattle.cy_tree.specs.declared.decl.PxdItem.TheVariants as item
use Rattle.cy_tree.specs.declared.decl.PxdMember.{PxdMember}
use Rattle.cy_tree.specs.declared.decl.PxdMember.TheVariants as pxd_member
use Rattle.cy_tree.specs.declared.decl.Top.{Top}
use Rattle.cy_tree.specs.declared.decl.Top.TheVariants as top
use Rattle.cy_tree.specs.declared.set.ModuleFiles.{ModuleFiles}
use Rattle.cy_tree.specs.declared.set.NameKind.{NameKind}
use Rattle.cy_tree.specs.declared.set.NameKind.TheVariants as kind
use Rattle.cy_tree.specs.declared.set.SourceSet.{SourceSet}
use Rattle.cy_tree.specs.declared.types.Ident.{Ident}
use Rattle.cy_tree.specs.declared.types.TypeName.{TypeName}
use Rattle.cy_tree.specs.declared.types.TypeName.TheVariants as type
use Rattle.cy_tree.specs.Functions.{Function, functions}
use Rattle.name_table.specs.Entries.{Entry, is_among, kind_among, texts}
use Rattle.cy_mention.specs.Mentions.{Mention, Target, Globals, TypeUse}
use Rattle.cy_mention.specs.Modules.{cimport_names, declared_by, item_cimports, item_names, items_said, mentions_of, module_said, parameters, params_of, shared_names, top_cimports, top_names}
use Rattle.cy_scope.specs.declared.known.Known.{Known}
use Rattle.cy_scope.specs.Files.{Module, items, modules, tops}
use Rattle.cy_scope.specs.Declarations.{function_names, kind_from, kind_through, known_of, module_names, seen}
use Rattle.name_rules.specs.declared.given.Classes.{Classes}
use Rattle.name_rules.specs.Given.{classes_of, is_field, members_of, pxd_classes}

abbrev pub breaks : ℕ → ℕ → Ident → Refusal
breaks file rule i = record { rule = record { phase = phase.Name; number = rule }; file = file; offset = i.at }

abbrev pub breaks_if : Bool → ℕ → ℕ → Ident → List Refusal
breaks_if b file rule i = if b then breaks file rule i ∷ [] else []

-- ---- rule 1: a second declaration of a name in one scope

-- names that stand among `before` or among the names before them
abbrev pub second : ℕ → List (List ℕ) → List Ident → List Refusal
second file before [] = []
second file before (i ∷ is) =
    if is_among before i.text then breaks file 1 i ∷ second file before is else second file (before ++ i.text ∷ []) is

-- the members of a class
abbrev pub member_names : Member → List Ident
member_names (member.Def d) = d.name ∷ []
member_names (member.OpenFields at access t names) = names
member_names (member.Fields at t names) = names
member_names (member.Method f) = f.heading.name ∷ []
member_names _ = []

abbrev pub pxd_member_names : PxdMember → List Ident
pxd_member_names (pxd_member.OpenFields at access t names) = names
pxd_member_names (pxd_member.Fields at t names) = names
pxd_member_names (pxd_member.Method h) = h.name ∷ []
pxd_member_names _ = []

-- the parameters of a heading, and the parameters and `cdef` names of a function, are scopes too
abbrev pub heading_second : ℕ → Heading → List Refusal
heading_second file h = second file [] (parameters h.header.params)

abbrev pub pxd_member_second : ℕ → PxdMember → List Refusal
pxd_member_second file (pxd_member.Method h) = heading_second file h
pxd_member_second file _ = []

abbrev pub item_second : ℕ → PxdItem → List Refusal
item_second file (item.Class c) = second file [] (flat_map pxd_member_names c.members) ++ flat_map (pxd_member_second file) c.members
item_second file (item.Function h) = heading_second file h
item_second file _ = []

abbrev pub top_second : ℕ → Top → List Refusal
top_second file (top.Class c) = second file [] (flat_map member_names c.members)
top_second file _ = []

abbrev pub declared_in : Function → List Ident
declared_in f = parameters (params_of f) ++ flat_map declared_by (mentions_of f)

-- names that are declared already
abbrev pub name_refusal : ℕ → List (List ℕ) → Ident → List Refusal
name_refusal file names i = breaks_if (is_among names i.text) file 1 i

-- A method of the `.pyx` whose name is a field of the `.pxd` class, and a field whose name is any member of it, is declared a second
-- time; a method that the `.pxd` class declares as one is given.
abbrev pub given_refusals : ℕ → List Entry → Member → List Refusal
given_refusals file declared (member.Def d) = breaks_if (is_field (kind_among declared d.name.text)) file 1 d.name
given_refusals file declared (member.Method f) = breaks_if (is_field (kind_among declared f.heading.name.text)) file 1 f.heading.name
given_refusals file declared m = flat_map (name_refusal file (texts declared)) (member_names m)

abbrev pub given_in : ℕ → Option (List Entry) → List Member → List Refusal
given_in file None ms = []
given_in file (Some declared) ms = flat_map (given_refusals file declared) ms

abbrev pub top_given : ℕ → Classes → Top → List Refusal
top_given file classes (top.Class c) = given_in file (members_of classes c.name.text) c.members
top_given file classes _ = []

-- ---- rules 2 and 3: a type name that names no type, and a target that is a C function, class or cimported module

-- what a name means among locals and the names of the module
abbrev pub or_else : Option NameKind → Option NameKind → Option NameKind
or_else None other = other
or_else (Some k) other = Some k

abbrev pub meaning : List Entry → List Entry → List ℕ → Option NameKind
meaning locals names name = or_else (kind_among locals name) (kind_among names name)

abbrev pub is_class : Option NameKind → Bool
is_class (Some (kind.Class id)) = true
is_class _ = false

-- `object` is always a type; else a class, or a class that the `.pxd` of a cimported module declares
abbrev pub names_type : Known → List Entry → List Entry → TypeName → Bool
names_type known locals names (type.Number words) = true
names_type known locals names (type.Named i) = bytes_eq i.text (codes "object") || is_class (meaning locals names i.text)
names_type known locals names (type.Member outer i) = is_class (kind_through known (meaning locals names outer.text) i.text)

abbrev pub if_no_type : Bool → ℕ → Ident → List Refusal
if_no_type b file i = if b then [] else breaks file 2 i ∷ []

abbrev pub type_refusals : ℕ → Known → List Entry → List Entry → TypeName → List Refusal
type_refusals file known locals names (type.Number words) = []
type_refusals file known locals names (type.Named i) = if_no_type (names_type known locals names (type.Named i)) file i
type_refusals file known locals names (type.Member outer i) = if_no_type (names_type known locals names (type.Member outer i)) file outer

abbrev pub is_fixed : Option NameKind → Bool
is_fixed (Some (kind.CFunction id)) = true
is_fixed (Some (kind.Class id)) = true
is_fixed (Some (kind.Module k)) = true
is_fixed _ = false

abbrev pub mention_refusals : ℕ → Known → List Entry → List Entry → Mention → List Refusal
mention_refusals file known locals names (TypeUse t) = type_refusals file known locals names t
mention_refusals file known locals names (Target i) = breaks_if (is_fixed (meaning locals names i.text)) file 3 i
mention_refusals file known locals names _ = []

-- ---- rule 4: a `global` name that is a parameter or is declared in the function

abbrev pub global_refusals : ℕ → List (List ℕ) → Mention → List Refusal
global_refusals file declared (Globals i) = breaks_if (is_among declared i.text) file 4 i
global_refusals file declared _ = []

-- ---- rule 5: a cimported name that the module's `.pxd` lacks

abbrev pub lacking : ℕ → Known → Ident → ImportItem → List Refusal
lacking file known outer i = breaks_if (is_none (kind_from known outer i)) file 5 i.name

abbrev pub cimport_refusals : ℕ → Known → Cimport → List Refusal
cimport_refusals file known (cimport.Module at i) = []
cimport_refusals file known (cimport.From at outer is) = flat_map (lacking file known outer) is

-- ---- files

-- what a function breaks that has these locals, that declares these names, and whose body says this
abbrev pub said_refusals : ℕ → Known → List Entry → List Entry → List Ident → List Mention → List Refusal
said_refusals file known names locals declared said =
    second file [] declared
    ++ (flat_map (mention_refusals file known locals names) said
    ++ flat_map (global_refusals file (seen declared)) said)

-- In a function a local is no type, and a target that a `global` names is what the module says it is.
unfoldable pub function_refusals : ℕ → Known → List Entry → Function → List Refusal
function_refusals file known names f = said_refusals file known names (function_names f) (declared_in f) (mentions_of f)

-- The breaches of a module's `.pxd`.
abbrev pub pxd_refusals : ℕ → Known → List Entry → List PxdItem → List Refusal
pxd_refusals file known names is =
    second file [] (flat_map item_names is)
    ++ (flat_map (item_second file) is
    ++ (flat_map (mention_refusals file known [] names) (items_said is)
    ++ flat_map (cimport_refusals file known) (flat_map item_cimports is)))

-- The second declarations in its `.pyx`. What the `.pxd` declares and the `.pyx` gives is one declaration: a name that the
-- `.pxd` cimports can't be declared again, and one that it declares can't be cimported.
abbrev pub pyx_second : ℕ → List PxdItem → List Top → List Refusal
pyx_second file is ts =
    second file (seen (flat_map cimport_names (flat_map item_cimports is))) (flat_map top_names ts)
    ++ (flat_map (name_refusal file (seen (flat_map shared_names is))) (flat_map cimport_names (flat_map top_cimports ts))
    ++ (flat_map (top_second file) ts
    ++ flat_map (top_given file (classes_of (flat_map pxd_classes is))) ts))

abbrev pub pyx_refusals : ℕ → Known → List Entry → List PxdItem → List Top → List Refusal
pyx_refusals file known names is ts =
    pyx_second file is ts
    ++ (flat_map (mention_refusals file known [] names) (module_said ts)
    ++ (flat_map (cimport_refusals file known) (flat_map top_cimports ts)
    ++ flat_map (function_refusals file known names) (functions ts)))

abbrev pub refusals_of_pxd : Option ℕ → Known → List Entry → List PxdItem → List Refusal
refusals_of_pxd None known names is = []
refusals_of_pxd (Some file) known names is = pxd_refusals file known names is

abbrev pub files_refusals : Known → ModuleFiles → List Entry → List PxdItem → List Top → List Refusal
files_refusals known files names is ts = refusals_of_pxd files.pxd known names is ++ pyx_refusals files.pyx known names is ts

unfoldable pub module_refusals : Known → SourceSet → Module → List Refusal
module_refusals known set m = files_refusals known m.files (module_names known set m) (items set m.files) (tops set m.files)

abbrev pub refusals_with : Known → SourceSet → List Refusal
refusals_with known set = flat_map (module_refusals known set) (modules set)

-- the broken rules of a set
abbrev pub refusals : SourceSet → List Refusal
refusals set = refusals_with (known_of set) set
