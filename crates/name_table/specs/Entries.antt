-- Lists of names, each with what it means. The project's own.
use Rattle.std.specs.Prelude.{ℕ, suc, Bool, if◌then◌else◌, List, [], ◌∷◌, ◌++◌, Option, Some, None, map, length}
use Rattle.std.specs.List.{list_any}
use Rattle.std.specs.Str.{bytes_eq}
use Rattle.cy_tree.specs.declared.set.NameKind.{NameKind}
use Rattle.cy_tree.specs.declared.set.NameKind.TheVariants as kind

-- a name, and what it means
abbrev pub Entry : Type 0
Entry = List ℕ × NameKind

abbrev pub is_among : List (List ℕ) → List ℕ → Bool
is_among names name = list_any (bytes_eq name) names

abbrev pub texts : List Entry → List (List ℕ)
texts es = map (λ e. e.0) es

-- what the first entry of a name says
abbrev pub kind_among : List Entry → List ℕ → Option NameKind
kind_among [] name = None
kind_among (e ∷ es) name = if bytes_eq name e.0 then Some e.1 else kind_among es name

-- the entries whose names stand neither among `before` nor among the entries before them
abbrev pub firsts : List (List ℕ) → List Entry → List Entry
firsts before [] = []
firsts before (e ∷ es) = if is_among before e.0 then firsts before es else e ∷ firsts (before ++ e.0 ∷ []) es

-- the names that stand neither among `before` nor among the names before them
abbrev pub once : List (List ℕ) → List (List ℕ) → List (List ℕ)
once before [] = []
once before (x ∷ xs) = if is_among before x then once before xs else x ∷ once (before ++ x ∷ []) xs

-- locals, numbered from i on
abbrev pub numbered : ℕ → List (List ℕ) → List Entry
numbered i [] = []
numbered i (x ∷ xs) = (x, kind.Local i) ∷ numbered (suc i) xs

-- entries with one more, unless its name is there
abbrev pub with_entry : List Entry → Entry → List Entry
with_entry es e = if is_among (texts es) e.0 then es else es ++ e ∷ []

-- names with one more as a local, unless it is there
abbrev pub with_local : List Entry → List ℕ → List Entry
with_local es name = with_entry es (name, kind.Local (length es))
