-- Each number below a tree's count is that of one node.
use Rattle.std.proofs.Common.{◌≡◌, ℕ, zero, suc, ◌+◌, ◌-◌, ◌<◌, ◌≤◌, List, [], ◌∷◌, ◌++◌, map, length, Option, Some, None, refl, ap, sym, subst, ◌∙◌, slice_get, append_assoc, inl, inr, arith}
use Rattle.std.specs.Prelude.{◌⊎◌}
use Rattle.cy_tree.specs.Nodes.{Tree, total, nodes, children, Numbered, Whole, Inside}
use Rattle.cy_tree.proofs.Counts.{inside, inside-append, nodes-children, nodes-some}

-- a node ends where its tree ends, or before
pub Numbered-within : (root : Tree) (n : ℕ) (t : Tree) → Numbered root n t → n + nodes t ≤ nodes root
Numbered-within root n t Whole = omega arith
Numbered-within root n t (Inside {n = k} {t = u} at before c after e) =
    omega (arith, Numbered-within root k u at, nodes-children u, ap inside e, inside-append before (c ∷ after))

-- a node of a node
pub Numbered-below : (root : Tree) (n : ℕ) (t : Tree) (m : ℕ) (u : Tree) → Numbered root n t → Numbered t m u → Numbered root (n + m) u
Numbered-below root n t m u at Whole = subst (λ k. Numbered root k t) (omega arith) at
Numbered-below root n t m u at (Inside {n = k} {t = v} below before c after e) =
    subst (λ i. Numbered root i c) (omega arith) (Inside (Numbered-below root n t k v at below) before c after e)

-- how a node is reached from above: it is the tree, or below one of its children
pub data Reached (root : Tree) (n : ℕ) (t : Tree) : Type 0 where
  IsRoot : n ≡ 0 → t ≡ root → Reached root n t
  IsBelow : (before : List Tree) (c : Tree) (after : List Tree) (m : ℕ) → children root ≡ before ++ c ∷ after
      → n ≡ suc (inside before + m) → Numbered c m t → Reached root n t

step_down : (root : Tree) (k : ℕ) (u : Tree) → Reached root k u → (before : List Tree) (c : Tree) (after : List Tree)
    → children u ≡ before ++ c ∷ after → Reached root (suc (k + inside before)) c
step_down root k u (IsRoot zero_is same) before c after e =
    IsBelow before c after 0 (subst (λ t. children t ≡ before ++ c ∷ after) same e) (omega (arith, zero_is)) Whole
step_down root k u (IsBelow first d last m parts number at) before c after e =
    IsBelow first d last (suc (m + inside before)) parts (omega (arith, number)) (Inside at before c after e)

pub reached : (root : Tree) (n : ℕ) (t : Tree) → Numbered root n t → Reached root n t
reached root n t Whole = IsRoot refl refl
reached root n t (Inside {n = k} {t = u} at before c after e) = step_down root k u (reached root k u at) before c after e

head_is : (a b : Tree) (xs ys : List Tree) → a ∷ xs ≡ b ∷ ys → a ≡ b
head_is a b xs ys e = cc

tail_is : (a b : Tree) (xs ys : List Tree) → a ∷ xs ≡ b ∷ ys → xs ≡ ys
tail_is a b xs ys e = cc

-- the child that a number falls into, and where in it
parted : (b1 b2 : List Tree) (c1 c2 : Tree) (a1 a2 : List Tree) (m1 m2 : ℕ) → b1 ++ c1 ∷ a1 ≡ b2 ++ c2 ∷ a2
    → inside b1 + m1 ≡ inside b2 + m2 → m1 < nodes c1 → m2 < nodes c2 → (c1 ≡ c2) × (m1 ≡ m2)
parted [] [] c1 c2 a1 a2 m1 m2 e same l1 l2 = (head_is c1 c2 a1 a2 e, omega (arith, same))
parted [] (x ∷ b2) c1 c2 a1 a2 m1 m2 e same l1 l2 =
    absurd (omega (arith, same, l1, ap nodes (head_is c1 x a1 (b2 ++ c2 ∷ a2) e)))
parted (x ∷ b1) [] c1 c2 a1 a2 m1 m2 e same l1 l2 =
    absurd (omega (arith, same, l2, ap nodes (head_is x c2 (b1 ++ c1 ∷ a1) a2 e)))
parted (x ∷ b1) (y ∷ b2) c1 c2 a1 a2 m1 m2 e same l1 l2 =
    parted b1 b2 c1 c2 a1 a2 m1 m2 (tail_is x y (b1 ++ c1 ∷ a1) (b2 ++ c2 ∷ a2) e)
    (omega (arith, same, ap nodes (head_is x y (b1 ++ c1 ∷ a1) (b2 ++ c2 ∷ a2) e))) l1 l2

abbrev UniqueTo : ℕ → Type 0
UniqueTo bound = (root : Tree) (n : ℕ) (t u : Tree) → nodes root ≤ bound → Numbered root n t → Numbered root n u → t ≡ u

both_ways : (bound : ℕ) → UniqueTo bound → (root : Tree) (n : ℕ) (t u : Tree) → nodes root ≤ suc bound → Reached root n t → Reached root n u → t ≡ u
both_ways bound again root n t u small (IsRoot z same) (IsRoot z' same') = same ∙ sym same'
both_ways bound again root n t u small (IsRoot z same) (IsBelow b c a m e number at) = absurd (omega (arith, z, number))
both_ways bound again root n t u small (IsBelow b c a m e number at) (IsRoot z same) = absurd (omega (arith, z, number))
both_ways bound again root n t u small (IsBelow b c a m e number at) (IsBelow b' c' a' m' e' number' at') =
    let shorter = Numbered-within c m t at in
    let shorter' = Numbered-within c' m' u at' in
    let split = parted b b' c c' a a' m m' (sym e ∙ e') (omega (arith, number, number')) (omega (arith, shorter, nodes-some t)) (omega (arith, shorter', nodes-some u)) in
    let also = subst (λ i. Numbered c i u) (sym split.1) (subst (λ d. Numbered d m' u) (sym split.0) at') in
    let room : nodes c ≤ bound = omega (arith, small, nodes-children root, ap inside e, inside-append b (c ∷ a)) in
    again c m t u room at also

unique_to : (bound : ℕ) → UniqueTo bound
unique_to zero root n t u small at also = absurd (omega (arith, small, nodes-some root))
unique_to (suc bound) root n t u small at also =
    both_ways bound (unique_to bound) root n t u small (reached root n t at) (reached root n u also)

-- a number is that of one node
pub Numbered-unique : (root : Tree) (n : ℕ) (t u : Tree) → Numbered root n t → Numbered root n u → t ≡ u
Numbered-unique root n t u at also = unique_to (nodes root) root n t u (omega arith) at also

-- ---- every number

below_or : (m n : ℕ) → (m < n) ⊎ (n ≤ m)
below_or m zero = inr (omega arith)
below_or zero (suc n) = inl (omega arith)
below_or (suc m) (suc n) = step (below_or m n)
  where
    step : (m < n) ⊎ (n ≤ m) → (suc m < suc n) ⊎ (suc n ≤ suc m)
    step (inl h) = inl (omega (arith, h))
    step (inr h) = inr (omega (arith, h))

abbrev Exists : Tree → ℕ → Type 0
Exists root k = (t : Tree) × Numbered root k t

among : (root : Tree) (before rest : List Tree) (m : ℕ) → children root ≡ before ++ rest → m < inside rest
    → ((c : Tree) (j : ℕ) → nodes c < nodes root → j < nodes c → Exists c j) → Exists root (suc (inside before + m))
among root before [] m e low again = absurd (omega (arith, low))
among root before (c ∷ rest) m e low again =
    by_size (below_or m (nodes c)) (λ e' low'. among root (before ++ c ∷ []) rest (m - nodes c) e' low' again)
  where
    smaller : nodes c < nodes root
    smaller = omega (arith, nodes-children root, ap inside e, inside-append before (c ∷ rest))

    here : m < nodes c → Exists root (suc (inside before + m))
    here within =
        let found = again c m smaller within in
        (found.0, subst (λ k. Numbered root k found.0) (omega arith) (Numbered-below root (suc (0 + inside before)) c m found.0 (Inside Whole before c rest e) found.1))

    behind : nodes c ≤ m → Exists root (suc (inside (before ++ c ∷ []) + (m - nodes c))) → Exists root (suc (inside before + m))
    behind past found =
        (found.0, subst (λ k. Numbered root k found.0) (omega (arith, past, inside-append before (c ∷ []))) found.1)

    by_size : (m < nodes c) ⊎ (nodes c ≤ m)
        → (children root ≡ (before ++ c ∷ []) ++ rest → m - nodes c < inside rest → Exists root (suc (inside (before ++ c ∷ []) + (m - nodes c))))
        → Exists root (suc (inside before + m))
    by_size (inl h) next = here h
    by_size (inr h) next = behind h (next (e ∙ sym (append_assoc before (c ∷ []) rest)) (omega (arith, low, h)))

exists_to : (bound : ℕ) (root : Tree) (k : ℕ) → nodes root ≤ bound → k < nodes root → Exists root k
exists_to zero root k small low = absurd (omega (arith, small, low))
exists_to (suc bound) root zero small low = (root, Whole)
exists_to (suc bound) root (suc k) small low =
    subst (λ n. Exists root (suc n)) (omega arith) (among root [] (children root) k refl (omega (arith, low, nodes-children root)) (λ c j smaller within. exists_to bound c j (omega (arith, small, smaller)) within))

-- each number below the count is that of a node
pub Numbered-exists : (root : Tree) (k : ℕ) → k < nodes root → (t : Tree) × Numbered root k t
Numbered-exists root k low = exists_to (nodes root) root k (omega arith) low
