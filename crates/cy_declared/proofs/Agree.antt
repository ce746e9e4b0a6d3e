-- What the tables of a set answer is what its declarations say.
use Rattle.std.proofs.Common.{◌≡◌, ℕ, List, [], ◌∷◌, map, Option, Some, None, slice_get, refl, ap, sym, ◌∙◌}
use mathlib.Core.Path.{fun_ext}
use Rattle.std.specs.Option.{option_map}
use Rattle.std.proofs.lemmas.Option.{slice_get-map}
use Rattle.cy_around.specs.declared.callable.Callable.{Callable}
use Rattle.cy_around.specs.declared.member.MemberSaid.{MemberSaid}
use Rattle.cy_around.specs.Surroundings.{Surroundings}
use Rattle.cy_tree.specs.declared.set.NamedSet.{NamedSet}
use Rattle.cy_tree.specs.declared.ty.ClassId.{ClassId}
use Rattle.cy_tree.specs.declared.ty.FnId.{FnId}
use Rattle.cy_tree.specs.declared.ty.Ty.{Ty}
use Rattle.cy_tree.specs.declared.ty.Ty.TheVariants as ty
use Rattle.cy_tree.specs.Bases.{bases}
use Rattle.cy_tree.specs.Coercions.{coercion_of}
use Rattle.cy_scope.specs.declared.known.Known.{Known}
use Rattle.cy_scope.specs.Declarations.{known_of}
use Rattle.cy_scope.specs.Files.{Module, modules}
use Rattle.cy_declared.specs.declared.local.TypeTable.{TypeTable}
use Rattle.cy_declared.specs.declared.tables.ModuleTables.{ModuleTables}
use Rattle.cy_declared.specs.declared.tables.Tables.{Tables}
use Rattle.cy_declared.specs.Around.{exported, surroundings}
use Rattle.cy_declared.specs.Functions.{Owned, among, callable, callables, joined}
use Rattle.cy_declared.specs.Members.{MemberEntry, as_said, class_members, first_said, member_in, member_of, own_member}
use Rattle.cy_declared.specs.Named.{first_among}
use Rattle.cy_declared.specs.Tables.{around_at, function_at, functions_in, looked_up, member_at, member_table, module_tables, no_types, nearest_member, own_member_at, tables_with, type_at, type_table, variable_at}
use Rattle.cy_declared.specs.Types.{meaning_in, or_object}
use Rattle.cy_declared.specs.Variables.{Typed, local_type, named_at, typed_as, typed_names, variable_type, variable_types}
use Rattle.cy_declared.proofs.Numbered.{found-first}

-- ---- functions and variables

functions-of : (known : Known) (set : NamedSet) (o : Option Module) → functions_in (option_map (module_tables known set) o) ≡ option_map (callables known set) o
functions-of known set None = refl
functions-of known set (Some m) = refl

pub function-is : (known : Known) (set : NamedSet) (id : FnId) → function_at (tables_with known set) id ≡ callable known set id
function-is known set id =
    let ms = modules set.set in
    ap (λ o. joined (among o id.index))
    (ap functions_in (slice_get-map (module_tables known set) ms id.module) ∙ functions-of known set (slice_get ms id.module) ∙ sym (slice_get-map (callables known set) ms id.module))

variables-of : (known : Known) (set : NamedSet) (o : Option Module) → option_map (λ (t : ModuleTables). t.variables) (option_map (module_tables known set) o) ≡ option_map (variable_types known set) o
variables-of known set None = refl
variables-of known set (Some m) = refl

pub variable-is : (known : Known) (set : NamedSet) (m v : ℕ) → variable_at (tables_with known set) m v ≡ variable_type known set m v
variable-is known set m v =
    let ms = modules set.set in
    ap (λ o. or_object (among o v))
    (ap (option_map (λ (t : ModuleTables). t.variables)) (slice_get-map (module_tables known set) ms m) ∙ variables-of known set (slice_get ms m) ∙ sym (slice_get-map (variable_types known set) ms m))

-- ---- members

pub member-first : (es : List MemberEntry) (name : List ℕ) → member_at (member_table es) name ≡ first_among es name
member-first es name = found-first (λ e. e.0) (λ e. e.1) es name

looked : (o : Option (List MemberEntry)) (name : List ℕ) → looked_up (option_map member_table o) name ≡ member_in o name
looked None name = refl
looked (Some es) name = member-first es name

members-of : (known : Known) (set : NamedSet) (o : Option Module) (i : ℕ) (name : List ℕ)
    → looked_up (among (option_map (λ (t : ModuleTables). t.classes) (option_map (module_tables known set) o)) i) name ≡ member_in (among (option_map (class_members known set) o) i) name
members-of known set None i name = refl
members-of known set (Some m) i name =
    ap (λ o. looked_up o name) (slice_get-map member_table (class_members known set m) i) ∙ looked (slice_get (class_members known set m) i) name

pub own-member-is : (known : Known) (set : NamedSet) (class : ClassId) (name : List ℕ) → own_member_at (tables_with known set) class name ≡ own_member known set class name
own-member-is known set class name =
    let ms = modules set.set in
    ap (λ o. looked_up (among (option_map (λ (t : ModuleTables). t.classes) o) class.index) name) (slice_get-map (module_tables known set) ms class.module)
    ∙ members-of known set (slice_get ms class.module) class.index name
    ∙ ap (λ o. member_in (among o class.index) name) (sym (slice_get-map (class_members known set) ms class.module))

each-said : (known : Known) (set : NamedSet) (name : List ℕ) (cs : List ClassId)
    → map (λ c. as_said (own_member_at (tables_with known set) c name)) cs ≡ map (λ c. as_said (own_member known set c name)) cs
each-said known set name [] = refl
each-said known set name (c ∷ cs) =
    ap (λ m. as_said m ∷ map (λ d. as_said (own_member_at (tables_with known set) d name)) cs) (own-member-is known set c name)
    ∙ ap (λ ms. as_said (own_member known set c name) ∷ ms) (each-said known set name cs)

pub member-is : (known : Known) (set : NamedSet) (class : ClassId) (name : List ℕ) → nearest_member set (tables_with known set) class name ≡ member_of known set class name
member-is known set class name = ap first_said (each-said known set name (class ∷ bases set class))

-- ---- locals

pub type-first : (ts : List Typed) (name : Option (List ℕ)) → type_at (type_table ts) name ≡ typed_as ts name
type-first ts None = refl
type-first ts (Some name) = ap or_object (found-first (λ t. t.0) (λ t. t.1) ts name)

no-type : (name : Option (List ℕ)) → type_at no_types name ≡ ty.Object
no-type None = refl
no-type (Some name) = refl

-- ---- what is known in a scope

abbrev known_by : NamedSet → Known → ℕ → (ℕ → Ty) → (ℕ → Ty) → (FnId → Option Callable) → (ClassId → List ℕ → Option MemberSaid) → Surroundings
known_by set known scope local variable function member = record {
  kind = meaning_in set scope;
  local = local;
  variable = variable;
  function = function;
  exported = exported known;
  member = member;
  coercion = coercion_of set;
}

around-by : (known : Known) (set : NamedSet) (scope m : ℕ) (a b : ℕ → Ty) → a ≡ b
    → known_by set known scope a (variable_at (tables_with known set) m) (function_at (tables_with known set)) (nearest_member set (tables_with known set))
    ≡ known_by set known scope b (variable_type known set m) (callable known set) (member_of known set)
around-by known set scope m a b e =
    ap (λ l. known_by set known scope l (variable_at (tables_with known set) m) (function_at (tables_with known set)) (nearest_member set (tables_with known set))) e
    ∙ ap (λ v. known_by set known scope b v (function_at (tables_with known set)) (nearest_member set (tables_with known set))) (fun_ext (variable-is known set m))
    ∙ ap (λ f. known_by set known scope b (variable_type known set m) f (nearest_member set (tables_with known set))) (fun_ext (function-is known set))
    ∙ ap (λ f. known_by set known scope b (variable_type known set m) (callable known set) f) (fun_ext (λ class. fun_ext (member-is known set class)))

pub around-function : (set : NamedSet) (tables : Tables) (scope m : ℕ) (o : Owned) (locals : TypeTable)
    → locals ≡ type_table (typed_names tables.known set m scope o) → tables ≡ tables_with (known_of set.set) set
    → around_at set tables scope m locals ≡ surroundings set (record { scope = scope; module_number = m; function = Some o })
around-function set tables scope m o locals made e =
    let known = known_of set.set in
    ap (λ t. around_at set t scope m locals) e
    ∙ ap (λ l. around_at set (tables_with known set) scope m l) (made ∙ ap (λ (t : Tables). type_table (typed_names t.known set m scope o)) e)
    ∙ around-by known set scope m (λ n. type_at (type_table (typed_names known set m scope o)) (named_at (slice_get set.scopes scope) n)) (local_type known set m scope o)
    (fun_ext (λ n. type-first (typed_names known set m scope o) (named_at (slice_get set.scopes scope) n)))

pub around-module : (set : NamedSet) (tables : Tables) (m : ℕ) (locals : TypeTable)
    → locals ≡ no_types → tables ≡ tables_with (known_of set.set) set
    → around_at set tables m m locals ≡ surroundings set (record { scope = m; module_number = m; function = None })
around-module set tables m locals made e =
    let known = known_of set.set in
    ap (λ t. around_at set t m m locals) e
    ∙ ap (λ l. around_at set (tables_with known set) m m l) made
    ∙ around-by known set m m (λ n. type_at no_types (named_at (slice_get set.scopes m) n)) (λ n. ty.Object) (fun_ext (λ n. no-type (named_at (slice_get set.scopes m) n)))
