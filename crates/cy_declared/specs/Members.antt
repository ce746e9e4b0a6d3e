-- The members of extension classes by name, and those of their bases (Cython documentation, "Extension Types"; "Sharing Declarations
-- Between Cython Modules").
use Rattle.std.specs.Prelude.{ℕ, ◌+◌, List, [], ◌∷◌, ◌++◌, map, length, Option, Some, None, slice_get}
use Rattle.std.specs.List.{flat_map}
use Rattle.cy_tree.specs.declared.decl.Class.{Class}
use Rattle.cy_tree.specs.declared.decl.Member.{Member}
use Rattle.cy_tree.specs.declared.decl.Member.TheVariants as member
use Rattle.cy_tree.specs.declared.decl.PxdClass.{PxdClass}
use Rattle.cy_tree.specs.declared.decl.PxdItem.{PxdItem}
use Rattle.cy_tree.specs.declared.decl.PxdItem.TheVariants as item
use Rattle.cy_tree.specs.declared.decl.PxdMember.{PxdMember}
use Rattle.cy_tree.specs.declared.decl.PxdMember.TheVariants as pxd_member
use Rattle.cy_tree.specs.declared.decl.Top.{Top}
use Rattle.cy_tree.specs.declared.decl.Top.TheVariants as top
use Rattle.cy_tree.specs.declared.set.NamedSet.{NamedSet}
use Rattle.cy_tree.specs.declared.ty.ClassId.{ClassId}
use Rattle.cy_tree.specs.Bases.{bases}
use Rattle.cy_tree.specs.Functions.{functions_of, methods_of}
use Rattle.cy_around.specs.declared.member.MemberSaid.{MemberSaid}
use Rattle.cy_around.specs.declared.member.MemberSaid.TheVariants as said
use Rattle.cy_scope.specs.declared.known.Known.{Known}
use Rattle.cy_scope.specs.Files.{Module, items, modules, tops}
use Rattle.cy_declared.specs.declared.member.OwnMember.{OwnMember}
use Rattle.cy_declared.specs.declared.member.OwnMember.TheVariants as own
use Rattle.cy_declared.specs.Functions.{among}
use Rattle.cy_declared.specs.Named.{first_among, first_by}
use Rattle.cy_declared.specs.Types.{place_type}
use Rattle.cy_declared.specs.Variables.{Declaration}

abbrev pub MemberEntry : Type 0
MemberEntry = List ℕ × OwnMember

-- ---- fields

abbrev pub fields_in : Member → List Declaration
fields_in (member.OpenFields at access kind names) = map (λ i. (i, Some kind)) names
fields_in (member.Fields at kind names) = map (λ i. (i, kind)) names
fields_in _ = []

abbrev pub pxd_fields_in : PxdMember → List Declaration
pxd_fields_in (pxd_member.OpenFields at access kind names) = map (λ i. (i, Some kind)) names
pxd_fields_in (pxd_member.Fields at kind names) = map (λ i. (i, kind)) names
pxd_fields_in _ = []

abbrev pub classes_in : PxdItem → List PxdClass
classes_in (item.Class c) = c ∷ []
classes_in _ = []

-- the first class of a name
abbrev pub class_named : List PxdClass → List ℕ → Option PxdClass
class_named cs name = first_by (λ c. c.name.text) (λ c. c) cs name

-- the fields of a class: those in the `.pxd` where it declares the class, else those in the `.pyx`
abbrev pub fields_by : Option PxdClass → Class → List Declaration
fields_by (Some declared) class = flat_map pxd_fields_in declared.members
fields_by None class = flat_map fields_in class.members

abbrev pub field_entry : Known → NamedSet → ℕ → Declaration → MemberEntry
field_entry known set m d = (d.0.text, own.Field (place_type known set m d.1))

-- the fields of a class of module m, whose `.pxd` declares the classes cs
abbrev pub field_entries : Known → NamedSet → ℕ → List PxdClass → Class → List MemberEntry
field_entries known set m cs class = map (field_entry known set m) (fields_by (class_named cs class.name.text) class)

-- ---- methods, which stand in the `.pyx`

-- a method of a class, before which f functions of module m came
abbrev pub method_entry : ℕ → ℕ → Member → List MemberEntry
method_entry m f (member.Def d) = (d.name.text, own.Def) ∷ []
method_entry m f (member.Method x) = (x.heading.name.text, own.Method (record { «module» = m; index = f })) ∷ []
method_entry m f _ = []

abbrev pub methods_from : ℕ → ℕ → List Member → List MemberEntry
methods_from m f [] = []
methods_from m f (x ∷ xs) = method_entry m f x ++ methods_from m (f + length (methods_of x)) xs

-- ---- classes

-- the members of a class of module m, before which f functions came
abbrev pub members_of_class : Known → NamedSet → ℕ → List PxdClass → ℕ → Class → List MemberEntry
members_of_class known set m cs f class = field_entries known set m cs class ++ methods_from m f class.members

abbrev pub members_here : Known → NamedSet → ℕ → List PxdClass → ℕ → Top → List (List MemberEntry)
members_here known set m cs f (top.Class c) = members_of_class known set m cs f c ∷ []
members_here known set m cs f _ = []

-- the members of each class of a module, by the classes' numbers
abbrev pub members_from : Known → NamedSet → ℕ → List PxdClass → ℕ → List Top → List (List MemberEntry)
members_from known set m cs f [] = []
members_from known set m cs f (t ∷ ts) = members_here known set m cs f t ++ members_from known set m cs (f + length (functions_of t)) ts

abbrev pub class_members : Known → NamedSet → Module → List (List MemberEntry)
class_members known set m = members_from known set m.number (flat_map classes_in (items set.set m.files)) 0 (tops set.set m.files)

abbrev pub member_in : Option (List MemberEntry) → List ℕ → Option OwnMember
member_in None name = None
member_in (Some es) name = first_among es name

-- a member that a class declares itself
abbrev pub own_member : Known → NamedSet → ClassId → List ℕ → Option OwnMember
own_member known set class name = member_in (among (slice_get (map (class_members known set) (modules set.set)) class.module) class.index) name

-- ---- members that C code reaches: fields, and `cdef` and `cpdef` methods

abbrev pub as_said : Option OwnMember → Option MemberSaid
as_said (Some (own.Field t)) = Some (said.Field t)
as_said (Some (own.Method id)) = Some (said.Method id)
as_said _ = None

abbrev pub first_said : List (Option MemberSaid) → Option MemberSaid
first_said [] = None
first_said (None ∷ more) = first_said more
first_said (Some x ∷ more) = Some x

-- the nearest of a class and its bases that has one
abbrev pub member_of : Known → NamedSet → ClassId → List ℕ → Option MemberSaid
member_of known set class name = first_said (map (λ c. as_said (own_member known set c name)) (class ∷ bases set class))
