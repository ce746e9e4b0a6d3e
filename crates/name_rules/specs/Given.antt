-- The members of a class that a `.pxd` declares and its `.pyx` gives are of one scope (Cython documentation, "Sharing Declarations
-- Between Cython Modules").
use Rattle.std.specs.Prelude.{ℕ, suc, Bool, true, false, List, [], ◌∷◌, Option, Some, None, map, slice_get}
use Rattle.std.specs.List.{flat_map}
use Rattle.cy_tree.specs.declared.decl.PxdClass.{PxdClass}
use Rattle.cy_tree.specs.declared.decl.PxdItem.{PxdItem}
use Rattle.cy_tree.specs.declared.decl.PxdItem.TheVariants as item
use Rattle.cy_tree.specs.declared.decl.PxdMember.{PxdMember}
use Rattle.cy_tree.specs.declared.decl.PxdMember.TheVariants as pxd_member
use Rattle.cy_tree.specs.declared.set.NameKind.{NameKind}
use Rattle.cy_tree.specs.declared.set.NameKind.TheVariants as kind
use Rattle.cy_tree.specs.declared.types.Ident.{Ident}
use Rattle.name_table.specs.Entries.{Entry, kind_among}
use Rattle.cy_scope.specs.Declarations.{names_of, plain}
use Rattle.name_rules.specs.declared.given.Classes.{Classes}

-- a field is noted as a C variable, a method as a plain name: only which of the two it is counts
abbrev pub field_entry : Ident → Entry
field_entry i = (i.text, kind.CVariable 0)

abbrev pub pxd_member_entries : PxdMember → List Entry
pxd_member_entries (pxd_member.OpenFields at access t names) = map field_entry names
pxd_member_entries (pxd_member.Fields at t names) = map field_entry names
pxd_member_entries (pxd_member.Method h) = plain h.name ∷ []
pxd_member_entries _ = []

-- the members of a class, each name once
abbrev pub member_table : PxdClass → List Entry
member_table c = names_of (flat_map pxd_member_entries c.members)

abbrev pub pxd_classes : PxdItem → List PxdClass
pxd_classes (item.Class c) = c ∷ []
pxd_classes _ = []

-- classes by their names, numbered from k on
abbrev pub places_from : ℕ → List PxdClass → List Entry
places_from k [] = []
places_from k (c ∷ cs) = (c.name.text, kind.Class (record { «module» = 0; index = k })) ∷ places_from (suc k) cs

-- the classes that a `.pxd` declares: their numbers by their names, and by these their members
abbrev pub classes_of : List PxdClass → Classes
classes_of cs = record { places = names_of (places_from 0 cs); members = map member_table cs }

abbrev pub members_at : Classes → Option NameKind → Option (List Entry)
members_at classes (Some (kind.Class id)) = slice_get classes.members id.index
members_at classes _ = None

-- the members of the first class of a name
abbrev pub members_of : Classes → List ℕ → Option (List Entry)
members_of classes name = members_at classes (kind_among classes.places name)

abbrev pub is_field : Option NameKind → Bool
is_field (Some (kind.CVariable v)) = true
is_field _ = false
