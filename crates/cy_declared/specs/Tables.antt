-- The tables that answer what declarations say. The project's own.
use Rattle.std.specs.Prelude.{ℕ, List, [], ◌∷◌, map, Option, Some, None, slice_get}
use Rattle.std.specs.Option.{option_map}
use Rattle.cy_around.specs.declared.callable.Callable.{Callable}
use Rattle.cy_around.specs.declared.member.MemberSaid.{MemberSaid}
use Rattle.cy_tree.specs.declared.ty.ClassId.{ClassId}
use Rattle.cy_tree.specs.declared.ty.FnId.{FnId}
use Rattle.cy_tree.specs.declared.ty.Ty.{Ty}
use Rattle.cy_tree.specs.declared.ty.Ty.TheVariants as ty
use Rattle.cy_tree.specs.Coercions.{coercion_of}
use Rattle.cy_around.specs.Surroundings.{Surroundings}
use Rattle.cy_tree.specs.Bases.{bases}
use Rattle.cy_tree.specs.declared.decl.PxdClass.{PxdClass}
use Rattle.cy_tree.specs.declared.set.NamedSet.{NamedSet}
use Rattle.cy_scope.specs.declared.known.Known.{Known}
use Rattle.cy_scope.specs.Files.{Module, modules}
use Rattle.name_table.specs.Entries.{Entry, kind_among}
use Rattle.cy_declared.specs.declared.member.OwnMember.{OwnMember}
use Rattle.cy_declared.specs.declared.table.MemberTable.{MemberTable}
use Rattle.cy_declared.specs.declared.local.TypeTable.{TypeTable}
use Rattle.cy_declared.specs.declared.tables.ModuleTables.{ModuleTables}
use Rattle.cy_declared.specs.declared.tables.Tables.{Tables}
use Rattle.cy_declared.specs.Around.{exported}
use Rattle.cy_declared.specs.Functions.{among, callables, joined}
use Rattle.cy_declared.specs.Members.{MemberEntry, as_said, class_members, first_said}
use Rattle.cy_declared.specs.Named.{number_of, number_table, numbered}
use Rattle.cy_declared.specs.Types.{meaning_in, or_object}
use Rattle.cy_declared.specs.Variables.{Typed, named_at, variable_types}

abbrev pub member_table : List MemberEntry → MemberTable
member_table es = record { names = number_table (map (λ e. e.0) es); members = map (λ e. e.1) es }

abbrev pub member_at : MemberTable → List ℕ → Option OwnMember
member_at table name = numbered table.members (number_of (kind_among table.names name))

abbrev pub class_table : List PxdClass → List Entry
class_table cs = number_table (map (λ c. c.name.text) cs)

abbrev pub module_tables : Known → NamedSet → Module → ModuleTables
module_tables known set m = record {
  functions = callables known set m;
  variables = variable_types known set m;
  classes = map member_table (class_members known set m);
}

abbrev pub tables_with : Known → NamedSet → Tables
tables_with known set = record { known = known; modules = map (module_tables known set) (modules set.set) }

-- ---- what tables answer

abbrev pub functions_in : Option ModuleTables → Option (List (Option Callable))
functions_in tables = option_map (λ t. t.functions) tables

abbrev pub function_at : Tables → FnId → Option Callable
function_at tables id = joined (among (functions_in (slice_get tables.modules id.module)) id.index)

abbrev pub variable_at : Tables → ℕ → ℕ → Ty
variable_at tables m v = or_object (among (option_map (λ t. t.variables) (slice_get tables.modules m)) v)

abbrev pub looked_up : Option MemberTable → List ℕ → Option OwnMember
looked_up None name = None
looked_up (Some table) name = member_at table name

abbrev pub own_member_at : Tables → ClassId → List ℕ → Option OwnMember
own_member_at tables class name = looked_up (among (option_map (λ t. t.classes) (slice_get tables.modules class.module)) class.index) name

-- the nearest of some classes that has a member for C
abbrev pub nearest_among : Tables → List ClassId → List ℕ → Option MemberSaid
nearest_among tables classes name = first_said (map (λ c. as_said (own_member_at tables c name)) classes)

abbrev pub nearest_member : NamedSet → Tables → ClassId → List ℕ → Option MemberSaid
nearest_member set tables class name = nearest_among tables (class ∷ bases set class) name

-- ---- locals, and what is known in a scope

abbrev pub type_table : List Typed → TypeTable
type_table ts = record { names = number_table (map (λ t. t.0) ts); types = map (λ t. t.1) ts }

abbrev pub no_types : TypeTable
no_types = record { names = []; types = [] }

abbrev pub type_at : TypeTable → Option (List ℕ) → Ty
type_at table None = ty.Object
type_at table (Some name) = or_object (numbered table.types (number_of (kind_among table.names name)))

abbrev pub around_at : NamedSet → Tables → ℕ → ℕ → TypeTable → Surroundings
around_at set tables scope m locals = record {
  kind = meaning_in set scope;
  local = λ number. type_at locals (named_at (slice_get set.scopes scope) number);
  variable = variable_at tables m;
  function = function_at tables;
  exported = exported tables.known;
  member = nearest_member set tables;
  coercion = coercion_of set;
}
