-- The base classes of a class, by the declarations of a set (Cython documentation, "Extension Types", Subclassing).
use Rattle.std.specs.Prelude.{ℕ, zero, suc, Bool, false, if◌then◌else◌, List, [], ◌∷◌, Option, Some, None, slice_get, nat_eq}
use Rattle.std.specs.Str.{bytes_eq}
use Rattle.std.specs.List.{list_any}
use Rattle.indexmap.specs.IndexMap.{get_by}
use Rattle.cy_tree.specs.declared.decl.Class.{Class}
use Rattle.cy_tree.specs.declared.decl.ClassBase.{ClassBase}
use Rattle.cy_tree.specs.declared.decl.ClassBase.TheVariants as base
use Rattle.cy_tree.specs.declared.types.Ident.{Ident}
use Rattle.cy_tree.specs.declared.set.NameKind.{NameKind}
use Rattle.cy_tree.specs.declared.set.NameKind.TheVariants as kind
use Rattle.cy_tree.specs.declared.set.ParsedFile.{ParsedFile}
use Rattle.cy_tree.specs.declared.set.ModuleFiles.{ModuleFiles}
use Rattle.cy_tree.specs.declared.set.Scope.{Scope}
use Rattle.cy_tree.specs.declared.set.NamedSet.{NamedSet}
use Rattle.cy_tree.specs.declared.ty.ClassId.{ClassId}
use Rattle.cy_tree.specs.Functions.{classes, tops_of}

abbrev pub class_in_file : Option ParsedFile → ℕ → Option Class
class_in_file None index = None
class_in_file (Some file) index = slice_get (classes (tops_of file.tree)) index

abbrev pub class_in_module : NamedSet → Option ModuleFiles → ℕ → Option Class
class_in_module set None index = None
class_in_module set (Some files) index = class_in_file (slice_get set.set.files files.pyx) index

-- the class of an id, as its `.pyx` declares it
abbrev pub class_of : NamedSet → ClassId → Option Class
class_of set id = class_in_module set (slice_get set.set.order id.module) id.index

abbrev pub kind_in : Option Scope → Ident → Option NameKind
kind_in None name = None
kind_in (Some scope) name = get_by (λ k. bytes_eq name.text k.items) scope.names

-- what a name means among those that a module declares
abbrev pub kind_of : NamedSet → ℕ → Ident → Option NameKind
kind_of set module_number name = kind_in (slice_get set.scopes module_number) name

abbrev pub as_class_id : Option NameKind → Option ClassId
as_class_id (Some (kind.Class id)) = Some id
as_class_id _ = None

abbrev pub kind_through : NamedSet → Option NameKind → Ident → Option NameKind
kind_through set (Some (kind.Module number)) name = kind_of set number name
kind_through set _ name = None

-- the kind that a base's name has in a module: `A`, or `m.A`
abbrev pub kind_of_base : NamedSet → ℕ → Option ClassBase → Option NameKind
kind_of_base set module_number None = None
kind_of_base set module_number (Some (base.Named name)) = kind_of set module_number name
kind_of_base set module_number (Some (base.Member outer name)) = kind_through set (kind_of set module_number outer) name

abbrev pub base_of_class : NamedSet → ℕ → Option Class → Option ClassId
base_of_class set module_number None = None
base_of_class set module_number (Some class) = as_class_id (kind_of_base set module_number class.base)

-- one step from a class to its base
abbrev pub base_of : NamedSet → ClassId → Option ClassId
base_of set id = base_of_class set id.module (class_of set id)

abbrev pub class_eq : ClassId → ClassId → Bool
class_eq a b = if nat_eq a.module b.module then nat_eq a.index b.index else false

-- at most n classes: one that is found, and those that further steps lead to
abbrev pub found_from : ℕ → NamedSet → Option ClassId → List ClassId
found_from zero set found = []
found_from (suc n) set None = []
found_from (suc n) set (Some class) = class ∷ found_from n set (base_of set class)

-- the base classes: those reached by 1 to 31 steps from a class to its base
abbrev pub bases : NamedSet → ClassId → List ClassId
bases set class = found_from 31 set (base_of set class)

abbrev pub is_base : NamedSet → ClassId → ClassId → Bool
is_base set base class = list_any (class_eq base) (bases set class)
