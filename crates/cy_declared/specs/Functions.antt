-- The functions of modules, with the classes whose methods they are, and the signatures of C functions (Cython documentation,
-- "Language Basics", "Python functions vs. C functions"; "Extension Types"; "Error return values").
use Rattle.std.specs.Prelude.{ℕ, suc, ◌-◌, ◌^◌, Bool, true, false, if◌then◌else◌, nat_lt, ℤ, pos, neg_ℤ, List, [], ◌∷◌, ◌++◌, map, Option, Some, None, is_some, slice_get}
use Rattle.cy_tree.specs.declared.decl.ClauseNode.{ClauseNode}
use Rattle.cy_tree.specs.declared.decl.ClauseNode.TheVariants as written
use Rattle.cy_tree.specs.declared.decl.Heading.{Heading}
use Rattle.cy_tree.specs.declared.decl.Param.{Param}
use Rattle.cy_tree.specs.declared.decl.Top.{Top}
use Rattle.cy_tree.specs.declared.decl.Top.TheVariants as top
use Rattle.cy_tree.specs.declared.set.NamedSet.{NamedSet}
use Rattle.cy_tree.specs.declared.ty.ClassId.{ClassId}
use Rattle.cy_tree.specs.declared.ty.Clause.{Clause}
use Rattle.cy_tree.specs.declared.ty.Clause.TheVariants as clause
use Rattle.cy_tree.specs.declared.ty.FnId.{FnId}
use Rattle.cy_tree.specs.declared.ty.Signature.{Signature}
use Rattle.cy_tree.specs.declared.ty.Ty.{Ty}
use Rattle.cy_tree.specs.Functions.{Function, PythonFunction, CythonFunction, functions_of}
use Rattle.cy_around.specs.declared.callable.Callable.{Callable}
use Rattle.cy_scope.specs.declared.known.Known.{Known}
use Rattle.cy_scope.specs.Files.{Module, modules, tops}
use Rattle.cy_declared.specs.Types.{place_type, result_type}

-- a function or method, with the class whose method it is
pub record Owned : Type 0 where
  pub owner : Option ClassId
  pub function : Function

abbrev pub owned_by : Option ClassId → Function → Owned
owned_by owner f = record { owner = owner; function = f }

-- the class of an item of module m, before which c classes came
abbrev pub owner_of : ℕ → ℕ → Top → Option ClassId
owner_of m c (top.Class x) = Some (record { «module» = m; index = c })
owner_of m c _ = None

abbrev pub classes_behind : ℕ → Top → ℕ
classes_behind c (top.Class x) = suc c
classes_behind c _ = c

-- the functions of module m in text order, by which they are numbered; c classes came before
abbrev pub owned_from : ℕ → ℕ → List Top → List Owned
owned_from m c [] = []
owned_from m c (t ∷ ts) = map (owned_by (owner_of m c t)) (functions_of t) ++ owned_from m (classes_behind c t) ts

abbrev pub owned_functions : NamedSet → Module → List Owned
owned_functions set m = owned_from m.number 0 (tops set.set m.files)

-- ---- clauses

abbrev pub signed : Bool → ℕ → ℤ
signed negative n = if negative then neg_ℤ (pos n) else pos n

-- Of what doesn't fit into 128 bits with a sign the greatest or least number is kept: no type has either.
abbrev pub value_meant : Bool → ℕ → ℤ
value_meant negative n = if nat_lt n (2 ^ 127) then signed negative n else if negative then neg_ℤ (pos (2 ^ 127)) else pos (2 ^ 127 - 1)

abbrev pub value_clause : Bool → ℤ → Clause
value_clause maybe v = if maybe then clause.MaybeValue v else clause.Value v

abbrev pub written_clause : ClauseNode → Clause
written_clause (written.Star at) = clause.Star
written_clause (written.Value at maybe value_at negative n) = value_clause maybe (value_meant negative n)
written_clause (written.Noexcept at) = clause.Noexcept

-- the clause as it is written
abbrev pub clause_meant : Option ClauseNode → Option Clause
clause_meant None = None
clause_meant (Some c) = Some (written_clause c)

-- ---- signatures

abbrev pub behind_self : Bool → List Param → List Param
behind_self false ps = ps
behind_self true [] = []
behind_self true (p ∷ ps) = ps

abbrev pub param_types : Known → NamedSet → ℕ → List Param → List Ty
param_types known set m ps = map (λ p. place_type known set m p.kind) ps

-- the signature of a heading in module m: the types are read in the module's scope, and those of a method are without `self`
abbrev pub signature_of : Known → NamedSet → ℕ → Bool → Heading → Signature
signature_of known set m is_method h = record {
  params = param_types known set m (behind_self is_method h.header.params);
  result = result_type known set m h.result;
  clause = clause_meant h.header.clause;
  nogil = is_some h.header.nogil;
}

abbrev pub callable_heading : Known → NamedSet → ℕ → Bool → Heading → Callable
callable_heading known set m is_method h = record { kind = h.kind; signature = signature_of known set m is_method h }

-- a `cdef` or `cpdef` function as it is called from C; a `def` function isn't
abbrev pub callable_of : Known → NamedSet → ℕ → Option ClassId → Function → Option Callable
callable_of known set m owner (PythonFunction d) = None
callable_of known set m owner (CythonFunction f) = Some (callable_heading known set m (is_some owner) f.heading)

abbrev pub callables : Known → NamedSet → Module → List (Option Callable)
callables known set m = map (λ o. callable_of known set m.number o.owner o.function) (owned_functions set m)

abbrev pub joined : {A : Type 0} → Option (Option A) → Option A
joined None = None
joined (Some x) = x

abbrev pub among : {A : Type 0} → Option (List A) → ℕ → Option A
among None index = None
among (Some xs) index = slice_get xs index

-- the C function or method of an id
abbrev pub callable : Known → NamedSet → FnId → Option Callable
callable known set id = joined (among (slice_get (map (callables known set) (modules set.set)) id.module) id.index)
