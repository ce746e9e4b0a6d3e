-- The types that the words of a declaration mean (Cython documentation, "Language Basics", C types; "Typed Memoryviews").
use Rattle.std.specs.Prelude.{ℕ, Bool, if◌then◌else◌, nat_lt, List, [], ◌∷◌, Option, Some, None, length, codes}
use Rattle.std.specs.Str.{bytes_eq}
use Rattle.cy_num.specs.declared.types.CNum.{CNum}
use Rattle.cy_tree.specs.declared.set.NameKind.{NameKind}
use Rattle.cy_tree.specs.declared.set.NameKind.TheVariants as kind
use Rattle.cy_tree.specs.declared.set.NamedSet.{NamedSet}
use Rattle.cy_tree.specs.declared.ty.Ty.{Ty}
use Rattle.cy_tree.specs.declared.ty.Ty.TheVariants as ty
use Rattle.cy_tree.specs.declared.types.Dim.{Dim}
use Rattle.cy_tree.specs.declared.types.TypeName.{TypeName}
use Rattle.cy_tree.specs.declared.types.TypeName.TheVariants as type
use Rattle.cy_tree.specs.declared.types.TypeNode.{TypeNode}
use Rattle.cy_scope.specs.declared.known.Known.{Known}
use Rattle.cy_scope.specs.Declarations.{kind_through}
use Rattle.cy_scope.specs.Scopes.{resolved_among, scopes_shown}
use Rattle.type_uses.specs.Words.{words_meant, element, contiguity}

-- ---- names

-- what a name means in a scope of a set
abbrev pub meaning_in : NamedSet → ℕ → List ℕ → NameKind
meaning_in set scope name = resolved_among (scopes_shown set.scopes) scope name

abbrev pub class_type : Option NameKind → Option Ty
class_type (Some (kind.Class id)) = Some (ty.Class id)
class_type _ = None

-- `object` is always the type; else a class of the scope
abbrev pub named_type : NamedSet → ℕ → List ℕ → Option Ty
named_type set scope name = if bytes_eq name (codes "object") then Some ty.Object else class_type (Some (meaning_in set scope name))

-- number words, a name, or `m.A`, which is a class that the `.pxd` of the module m declares
abbrev pub name_meant : Known → NamedSet → ℕ → TypeName → Option Ty
name_meant known set scope (type.Number w) = Some (words_meant w)
name_meant known set scope (type.Named i) = named_type set scope i.text
name_meant known set scope (type.Member outer i) = class_type (kind_through known (Some (meaning_in set scope outer.text)) i.text)

-- ---- views

-- a view has 1 to 3 dimensions
abbrev pub view_of : TypeNode → Option CNum → Option Bool → Option Ty
view_of t (Some elem) (Some contiguous) =
    if nat_lt (length t.dims) 4 then Some (ty.View (record { elem = elem; dims = length t.dims; constant = t.constant; contiguous = contiguous })) else None
view_of t _ _ = None

-- ---- types

-- without brackets there is no `const`
abbrev pub with_dims : TypeNode → Option Ty → List Dim → Option Ty
with_dims t plain [] = if t.constant then None else plain
with_dims t plain (d ∷ ds) = view_of t (element t.name) (contiguity t.dims)

-- the type that is meant in a scope; None where a rule on types is broken in it
abbrev pub type_meant : Known → NamedSet → ℕ → TypeNode → Option Ty
type_meant known set scope t = with_dims t (name_meant known set scope t.name) t.dims

abbrev pub maybe_meant : Known → NamedSet → ℕ → Option TypeNode → Option Ty
maybe_meant known set scope None = Some ty.Object
maybe_meant known set scope (Some t) = type_meant known set scope t

abbrev pub or_object : Option Ty → Ty
or_object None = ty.Object
or_object (Some t) = t

-- `void` is a type for results alone
abbrev pub as_place : Option Ty → Option Ty
as_place (Some ty.Void) = None
as_place t = t

-- The type of a result, and that of a parameter, a field or a variable. A type that isn't written is `object`, and one in which a rule on
-- types is broken is read as `object`.
abbrev pub result_type : Known → NamedSet → ℕ → Option TypeNode → Ty
result_type known set scope t = or_object (maybe_meant known set scope t)

abbrev pub place_type : Known → NamedSet → ℕ → Option TypeNode → Ty
place_type known set scope t = or_object (as_place (maybe_meant known set scope t))
