-- The rules on parameters alone, by their numbers: each lists where it is broken (Python language reference, 8.7; Cython documentation,
-- "Language Basics", "Extension Types").
use Rattle.std.specs.Prelude.{ℕ, Bool, true, false, not, if◌then◌else◌, List, [], ◌∷◌, ◌++◌, Option, Some, None}
use Rattle.std.specs.List.{flat_map}
use Rattle.cy_base.specs.declared.place.Phase.TheVariants.{Static}
use Rattle.cy_base.specs.declared.place.Refusal.{Refusal}
use Rattle.cy_tree.specs.declared.content.Content.{Content}
use Rattle.cy_tree.specs.declared.content.Content.TheVariants as content
use Rattle.cy_tree.specs.declared.decl.Heading.{Heading}
use Rattle.cy_tree.specs.declared.decl.Member.{Member}
use Rattle.cy_tree.specs.declared.decl.Member.TheVariants as member
use Rattle.cy_tree.specs.declared.decl.Param.{Param}
use Rattle.cy_tree.specs.declared.decl.PxdItem.{PxdItem}
use Rattle.cy_tree.specs.declared.decl.PxdItem.TheVariants as item
use Rattle.cy_tree.specs.declared.decl.PxdMember.{PxdMember}
use Rattle.cy_tree.specs.declared.decl.PxdMember.TheVariants as pxd_member
use Rattle.cy_tree.specs.declared.decl.Top.{Top}
use Rattle.cy_tree.specs.declared.decl.Top.TheVariants as top
use Rattle.cy_tree.specs.declared.expr.Expr.{Expr, Expr-F, out-Expr}
use Rattle.cy_tree.specs.declared.expr.Index.{Index}
use Rattle.cy_tree.specs.declared.expr.Part.{Part}
use Rattle.cy_tree.specs.declared.expr.UnaryOp.TheVariants as unary
use Rattle.cy_tree.specs.declared.types.Ident.{Ident}
use Rattle.cy_tree.specs.declared.types.TypeNode.{TypeNode}
use Rattle.first_breach.specs.First.{broken_if}

abbrev pub breaks : ℕ → ℕ → ℕ → Refusal
breaks file number offset = record { rule = record { phase = Static; number = number }; file = file; offset = offset }

-- ---- places

-- the first byte of an expression
abbrev pub expr_at : Expr-F Expr Index Part → ℕ
expr_at (Expr-F.Conditional at value test other) = at
expr_at (Expr-F.Or at xs) = at
expr_at (Expr-F.And at xs) = at
expr_at (Expr-F.Not at x) = at
expr_at (Expr-F.Compare at x op place y) = at
expr_at (Expr-F.BitOr at x more) = at
expr_at (Expr-F.BitXor at x more) = at
expr_at (Expr-F.BitAnd at x more) = at
expr_at (Expr-F.Shift at x more) = at
expr_at (Expr-F.Sum at x more) = at
expr_at (Expr-F.Term at x more) = at
expr_at (Expr-F.Unary at op x) = at
expr_at (Expr-F.Cast at kind checked x) = at
expr_at (Expr-F.Postfix at x parts) = at
expr_at (Expr-F.Name i) = i.at
expr_at (Expr-F.Int at n) = at
expr_at (Expr-F.Str at t) = at
expr_at (Expr-F.NoneNode at) = at
expr_at (Expr-F.TrueNode at) = at
expr_at (Expr-F.FalseNode at) = at
expr_at (Expr-F.Tuple at xs) = at
expr_at (Expr-F.ListNode at xs) = at
expr_at (Expr-F.Dict at pairs) = at

-- the first byte of a parameter: its type's, or its name's
abbrev pub place_of : Option TypeNode → Ident → ℕ
place_of None name = name.at
place_of (Some kind) name = kind.at

-- ---- 12: a default that is no literal, or a parameter without one behind one with it

abbrev pub is_int : Expr-F Expr Index Part → Bool
is_int (Expr-F.Int at n) = true
is_int _ = false

-- INT, `-` INT, STRING, None, True, False
abbrev pub is_literal : Expr-F Expr Index Part → Bool
is_literal (Expr-F.Unary at unary.Negate x) = is_int (out-Expr x)
is_literal (Expr-F.Int at n) = true
is_literal (Expr-F.Str at t) = true
is_literal (Expr-F.NoneNode at) = true
is_literal (Expr-F.TrueNode at) = true
is_literal (Expr-F.FalseNode at) = true
is_literal _ = false

abbrev pub default_breaches : ℕ → Bool → Param → Option Expr → List Refusal
default_breaches file is_behind p None = broken_if is_behind (breaks file 12 (place_of p.kind p.name))
default_breaches file is_behind p (Some e) = broken_if (not (is_literal (out-Expr e))) (breaks file 12 (expr_at (out-Expr e)))

-- whether a parameter with a default stands before the next
abbrev pub behind : Bool → Option Expr → Bool
behind is_behind None = is_behind
behind is_behind (Some e) = true

abbrev pub defaults_breaches : ℕ → Bool → List Param → List Refusal
defaults_breaches file is_behind [] = []
defaults_breaches file is_behind (p ∷ ps) = default_breaches file is_behind p p.default ++ defaults_breaches file (behind is_behind p.default) ps

-- ---- 13: a default in a `cdef` or `cpdef` function

abbrev pub default_place : ℕ → Option Expr → List Refusal
default_place file None = []
default_place file (Some e) = breaks file 13 (expr_at (out-Expr e)) ∷ []

abbrev pub c_defaults_breaches : ℕ → Bool → List Param → List Refusal
c_defaults_breaches file is_c ps = if is_c then flat_map (λ p. default_place file p.default) ps else []

-- ---- 29: a method without a first parameter, or with a typed one

abbrev pub typed_place : ℕ → Option TypeNode → List Refusal
typed_place file None = []
typed_place file (Some kind) = breaks file 29 kind.at ∷ []

abbrev pub first_of : ℕ → ℕ → List Param → List Refusal
first_of file at [] = breaks file 29 at ∷ []
first_of file at (p ∷ ps) = typed_place file p.kind

abbrev pub first_breaches : ℕ → Bool → ℕ → List Param → List Refusal
first_breaches file is_method at ps = if is_method then first_of file at ps else []

-- ---- a file

-- a function or method: its first byte, whether it is C's, whether it is a method, and its parameters
pub record Signature : Type 0 where
  pub at : ℕ
  pub is_c : Bool
  pub is_method : Bool
  pub params : List Param

abbrev pub signed : ℕ → Bool → Bool → List Param → Signature
signed at is_c is_method params = record { at = at; is_c = is_c; is_method = is_method; params = params }

abbrev pub heading_signature : Bool → Heading → Signature
heading_signature is_method h = signed h.at true is_method h.header.params

abbrev pub in_member : Member → List Signature
in_member (member.Def d) = signed d.at false true d.params ∷ []
in_member (member.Method f) = heading_signature true f.heading ∷ []
in_member _ = []

abbrev pub in_top : Top → List Signature
in_top (top.Class c) = flat_map in_member c.members
in_top (top.Function f) = heading_signature false f.heading ∷ []
in_top (top.Def d) = signed d.at false false d.params ∷ []
in_top _ = []

abbrev pub in_pxd_member : PxdMember → List Signature
in_pxd_member (pxd_member.Method h) = heading_signature true h ∷ []
in_pxd_member _ = []

abbrev pub in_item : PxdItem → List Signature
in_item (item.Class c) = flat_map in_pxd_member c.members
in_item (item.Function h) = heading_signature false h ∷ []
in_item _ = []

-- the functions and methods of a `.pyx`, and those that a `.pxd` declares
abbrev pub signatures : Content → List Signature
signatures (content.Implementation tops) = flat_map in_top tops
signatures (content.Definition items) = flat_map in_item items

-- the three rules, one behind the other
abbrev pub signature_breaches : ℕ → Content → List Refusal
signature_breaches file c =
    flat_map (λ s. defaults_breaches file false s.params) (signatures c)
    ++ (flat_map (λ s. c_defaults_breaches file s.is_c s.params) (signatures c)
    ++ flat_map (λ s. first_breaches file s.is_method s.at s.params) (signatures c))
