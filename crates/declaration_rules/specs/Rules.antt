-- The rules on declarations as they are written, by their numbers: each lists where it is broken (Cython documentation, "Language Basics",
-- "Extension Types", "Special Methods of Extension Types", "Typed Memoryviews"). A type that breaks a rule does so at its first byte.
use Rattle.std.specs.Prelude.{ℕ, ◌-◌, Bool, true, false, not, ◌&&◌, ◌||◌, if◌then◌else◌, nat_eq, nat_lt, List, [], ◌∷◌, ◌++◌, Option, Some, None, is_none, length, slice_get, codes}
use Rattle.std.specs.List.{flat_map}
use Rattle.std.specs.Str.{bytes_eq}
use Rattle.cy_base.specs.declared.place.Phase.TheVariants.{Static}
use Rattle.cy_base.specs.declared.place.Refusal.{Refusal}
use Rattle.cy_tree.specs.declared.content.Content.{Content}
use Rattle.cy_tree.specs.declared.decl.CKind.{CKind}
use Rattle.cy_tree.specs.declared.decl.CKind.TheVariants as kind
use Rattle.cy_tree.specs.declared.decl.Param.{Param}
use Rattle.cy_tree.specs.declared.types.Dim.{Dim}
use Rattle.cy_tree.specs.declared.types.NumberWords.{NumberWords}
use Rattle.cy_tree.specs.declared.types.NumberWords.TheVariants as words
use Rattle.cy_tree.specs.declared.types.TypeName.{TypeName}
use Rattle.cy_tree.specs.declared.types.TypeName.TheVariants as type
use Rattle.cy_tree.specs.declared.types.TypeNode.{TypeNode}
use Rattle.first_breach.specs.First.{broken_if}
use Rattle.type_uses.specs.Uses.{TypeUse, PlaceType, ResultType, Declares}
use Rattle.type_uses.specs.Trees.{content_uses}
use Rattle.type_uses.specs.Words.{element, contiguity}
use Rattle.declaration_rules.specs.Declarations.{Declaration, Defined, Headed, Opened, declarations}

abbrev pub breaks : ℕ → ℕ → ℕ → Refusal
breaks file number offset = record { rule = record { phase = Static; number = number }; file = file; offset = offset }

-- a type with brackets is that of a view
abbrev pub has_dims : List Dim → Bool
has_dims [] = false
has_dims (d ∷ ds) = true

-- ---- 11: a view as a result, as a `public` or `readonly` field, or as a parameter of a `cpdef` method

abbrev pub view_place : ℕ → TypeNode → List Refusal
view_place file t = broken_if (has_dims t.dims) (breaks file 11 t.at)

abbrev pub maybe_view : ℕ → Option TypeNode → List Refusal
maybe_view file None = []
maybe_view file (Some t) = view_place file t

abbrev pub is_cpdef : CKind → Bool
is_cpdef kind.Cdef = false
is_cpdef kind.Cpdef = true

abbrev pub param_views : ℕ → Bool → List Param → List Refusal
param_views file is_cpdef_method ps = if is_cpdef_method then flat_map (λ p. maybe_view file p.kind) ps else []

abbrev pub view_breaches : ℕ → Declaration → List Refusal
view_breaches file (Defined is_method d) = []
view_breaches file (Headed is_method h) = maybe_view file h.result ++ param_views file (is_method && is_cpdef h.kind) h.header.params
view_breaches file (Opened t) = view_place file t

-- ---- 14: `void` for anything but a result; as the element of a view it is no result

abbrev pub is_void_words : NumberWords → Bool
is_void_words words.Void = true
is_void_words _ = false

abbrev pub is_void : TypeName → Bool
is_void (type.Number w) = is_void_words w
is_void _ = false

abbrev pub void_breaches : ℕ → TypeUse → List Refusal
void_breaches file (PlaceType t) = broken_if (is_void t.name) (breaks file 14 t.at)
void_breaches file (ResultType t) = broken_if (is_void t.name && has_dims t.dims) (breaks file 14 t.at)
void_breaches file (Declares i t) = []

-- ---- 17: a method named `__x__` other than the five, or with another number of parameters; they are `def` methods

abbrev pub is_underscore : Option ℕ → Bool
is_underscore None = false
is_underscore (Some c) = nat_eq c 95

abbrev pub begins_special : List ℕ → Bool
begins_special name = is_underscore (slice_get name 0) && is_underscore (slice_get name 1)

abbrev pub ends_special : List ℕ → Bool
ends_special name = is_underscore (slice_get name (length name - 2)) && is_underscore (slice_get name (length name - 1))

-- two underscores, something, and two underscores
abbrev pub is_special : List ℕ → Bool
is_special name = nat_lt 4 (length name) && (begins_special name && ends_special name)

-- `__init__` has any parameters
abbrev pub is_allowed : List ℕ → ℕ → Bool
is_allowed name count =
    bytes_eq name (codes "__init__")
    || ((bytes_eq name (codes "__cinit__") && nat_eq count 1)
    || ((bytes_eq name (codes "__len__") && nat_eq count 1)
    || ((bytes_eq name (codes "__getitem__") && nat_eq count 2)
    || (bytes_eq name (codes "__contains__") && nat_eq count 2))))

abbrev pub is_other : List ℕ → ℕ → Bool
is_other name count = is_special name && not (is_allowed name count)

abbrev pub special_breaches : ℕ → Declaration → List Refusal
special_breaches file (Defined is_method d) = broken_if (is_method && is_other d.name.text (length d.params)) (breaks file 17 d.at)
special_breaches file (Headed is_method h) = broken_if (is_method && is_special h.name.text) (breaks file 17 h.at)
special_breaches file (Opened t) = []

-- ---- 19: a view element that is no number, `::` not last, or its number not 1; `const` elsewhere

abbrev pub is_ill_formed : TypeNode → List Dim → Bool
is_ill_formed t [] = t.constant
is_ill_formed t (d ∷ ds) = is_none (element t.name) || is_none (contiguity t.dims)

abbrev pub form_breaches : ℕ → TypeNode → List Refusal
form_breaches file t = broken_if (is_ill_formed t t.dims) (breaks file 19 t.at)

abbrev pub type_breaches : ℕ → TypeUse → List Refusal
type_breaches file (PlaceType t) = form_breaches file t
type_breaches file (ResultType t) = form_breaches file t
type_breaches file (Declares i t) = []

-- ---- a file

-- the four rules, one behind the other
abbrev pub declaration_breaches : ℕ → Content → List Refusal
declaration_breaches file c =
    flat_map (view_breaches file) (declarations c)
    ++ (flat_map (void_breaches file) (content_uses c)
    ++ (flat_map (special_breaches file) (declarations c)
    ++ flat_map (type_breaches file) (content_uses c)))
