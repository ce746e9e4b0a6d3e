-- The links of a tree's nodes, child by child.
use Rattle.std.proofs.Common.{◌≡◌, ℕ, zero, suc, ◌+◌, ◌<◌, ◌≤◌, List, [], ◌∷◌, ◌++◌, length, take, drop, append_assoc, Option, Some, None, refl, ap, sym, subst, ◌∙◌, slice_get, arith, length-append, inl, inr}
use Rattle.std.proofs.lemmas.List.{take_all}
use Rattle.std.specs.Prelude.{◌⊎◌}
use Rattle.cy_tree.specs.declared.file.Link.{Link}
use Rattle.cy_tree.specs.Nodes.{Tree, nodes, children, Numbered, Whole, Inside}
use Rattle.cy_tree.specs.Links.{IsLinked, AreLinks}
use Rattle.cy_tree.proofs.Counts.{inside, inside-append, nodes-children, nodes-some}
use Rattle.cy_tree.proofs.Numbers.{Numbered-below}

-- the links of the nodes in the first children
pub record AreLinked (base : ℕ) (root : Tree) (place : ℕ) (links : List Link) : Type 0 where
  pub within : place ≤ length (children root)
  pub all : length links ≡ inside (take place (children root))
  pub each : (k : ℕ) (link : Link) → slice_get links k ≡ Some link → IsLinked base root (suc k) link

-- an item of two lists is one of the first or of the second
pub either : {A : Type 0} (xs ys : List A) (k : ℕ) (x : A) → slice_get (xs ++ ys) k ≡ Some x
    → (slice_get xs k ≡ Some x) ⊎ ((j : ℕ) × (k ≡ length xs + j) × (slice_get ys j ≡ Some x))
either [] ys k x e = inr (k, omega arith, e)
either (y ∷ xs) ys zero x e = inl e
either (y ∷ xs) ys (suc k) x e = later (either xs ys k x e)
  where
    later : (slice_get xs k ≡ Some x) ⊎ ((j : ℕ) × (k ≡ length xs + j) × (slice_get ys j ≡ Some x))
        → (slice_get xs k ≡ Some x) ⊎ ((j : ℕ) × (suc k ≡ length (y ∷ xs) + j) × (slice_get ys j ≡ Some x))
    later (inl h) = inl h
    later (inr h) = inr (h.0, omega (arith, h.1), h.2)

-- a list at one of its items
pub parts_at : {A : Type 0} (xs : List A) (k : ℕ) (x : A) → slice_get xs k ≡ Some x → xs ≡ take k xs ++ x ∷ drop (suc k) xs
parts_at [] k x e = cc
parts_at (y ∷ xs) zero x e = ap (λ z. z ∷ xs) (some_is e)
  where
    some_is : Some y ≡ Some x → y ≡ x
    some_is h = cc
parts_at (y ∷ xs) (suc k) x e = ap (λ zs. y ∷ zs) (parts_at xs k x e)

pub take-suc : {A : Type 0} (xs : List A) (k : ℕ) (x : A) → slice_get xs k ≡ Some x → take (suc k) xs ≡ take k xs ++ x ∷ []
take-suc [] k x e = cc
take-suc (y ∷ xs) zero x e = ap (λ z. z ∷ []) (some_is e)
  where
    some_is : Some y ≡ Some x → y ≡ x
    some_is h = cc
take-suc (y ∷ xs) (suc k) x e = ap (λ zs. y ∷ zs) (take-suc xs k x e)

pub is_within : {A : Type 0} (xs : List A) (k : ℕ) (x : A) → slice_get xs k ≡ Some x → k < length xs
is_within [] k x e = cc
is_within (y ∷ xs) zero x e = omega arith
is_within (y ∷ xs) (suc k) x e = omega (arith, is_within xs k x e)

pub is_past : {A : Type 0} (xs : List A) (k : ℕ) → slice_get xs k ≡ None → length xs ≤ k
is_past [] k e = omega arith
is_past (y ∷ xs) zero e = cc
is_past (y ∷ xs) (suc k) e = omega (arith, is_past xs k e)

pub first_links : (base : ℕ) (root : Tree) → AreLinked base root 0 []
first_links base root = record { within = omega arith; all = refl; each = λ k link e. cc }

-- a child has its number behind those of the nodes before it
pub child_number : (root : Tree) (place : ℕ) (c : Tree) → slice_get (children root) place ≡ Some c
    → Numbered root (suc (inside (take place (children root)))) c
child_number root place c e =
    subst (λ k. Numbered root k c) (omega arith)
    (Inside Whole (take place (children root)) c (drop (suc place) (children root)) (parts_at (children root) place c e))

-- the links in a child are those of the tree
raised : (base : ℕ) (root c : Tree) (n k : ℕ) (link : Link) → Numbered root n c → IsLinked (base + n) c k link → IsLinked base root (n + k) link
raised base root c n k link at linked = record {
  node = linked.node;
  number = Numbered-below root n c k linked.node at linked.number;
  outer = linked.outer;
  outer_number = n + linked.outer_number;
  outer_is = Numbered-below root n c linked.outer_number linked.outer at linked.outer_is;
  named = omega (arith, linked.named);
  before = omega (arith, linked.before);
  place = linked.place;
}

-- the links with those of one more child
pub more_links : (base : ℕ) (root : Tree) (place : ℕ) (done more : List Link) (c : Tree) → AreLinked base root place done
    → slice_get (children root) place ≡ Some c → AreLinks (suc (base + length done)) c more
    → AreLinked base root (suc place) (done ++ record { outer = base; place = place } ∷ more)
more_links base root place done more c linked e below =
    let link : Link = record { outer = base; place = place } in
    let n = suc (inside (take place (children root))) in
    let at = child_number root place c e in
    let count = linked.all in
    record {
      within = omega (arith, is_within (children root) place c e);
      all = omega (arith, length-append done (link ∷ more), linked.all, below.all, ap inside (take-suc (children root) place c e), inside-append (take place (children root)) (c ∷ []));
      each = λ k l h. of_each (either done (link ∷ more) k l h);
    }
  where
    of_rest : (k : ℕ) (l : Link) (j : ℕ) → k ≡ length done + j → slice_get (record { outer = base; place = place } ∷ more) j ≡ Some l → IsLinked base root (suc k) l
    of_rest k l zero here h = own (some_is h)
      where
        some_is : Some (record { outer = base; place = place }) ≡ Some l → record { outer = base; place = place } ≡ l
        some_is h = cc

        own : record { outer = base; place = place } ≡ l → IsLinked base root (suc k) l
        own same = subst (λ (x : Link). IsLinked base root (suc k) x) same (record {
          node = c;
          number = subst (λ i. Numbered root i c) (omega (arith, here, linked.all)) (child_number root place c e);
          outer = root;
          outer_number = 0;
          outer_is = Whole;
          named = omega arith;
          before = omega arith;
          place = e;
        })
    of_rest k l (suc j) here h =
        subst (λ i. IsLinked base root i l) (omega (arith, here, linked.all))
        (raised base root c (suc (inside (take place (children root)))) (suc j) l (child_number root place c e)
        (subst (λ b. IsLinked b c (suc j) l) (omega (arith, linked.all)) (below.each j l h)))

    of_each : {k : ℕ} {l : Link} → (slice_get done k ≡ Some l) ⊎ ((j : ℕ) × (k ≡ length done + j) × (slice_get (record { outer = base; place = place } ∷ more) j ≡ Some l)) → IsLinked base root (suc k) l
    of_each {k} {l} (inl h) = linked.each k l h
    of_each {k} {l} (inr h) = of_rest k l h.0 h.1 h.2

-- the links with those of all children
pub all_links : (base : ℕ) (root : Tree) (place : ℕ) (links : List Link) → AreLinked base root place links
    → slice_get (children root) place ≡ None → AreLinks base root links
all_links base root place links linked e =
    let whole = is_past (children root) place e in
    record { all = omega (arith, linked.all, nodes-children root, ap inside (take_all place (children root) whole)); each = linked.each }

-- a child has fewer nodes
pub child_smaller : (root : Tree) (place : ℕ) (c : Tree) → slice_get (children root) place ≡ Some c → nodes c < nodes root
child_smaller root place c e =
    omega (arith, nodes-children root, ap inside (parts_at (children root) place c e), inside-append (take place (children root)) (c ∷ drop (suc place) (children root)))

joined : (init loop pushed new done more : List Link) (link : Link) → loop ≡ init ++ done → pushed ≡ loop ++ link ∷ [] → new ≡ pushed ++ more → new ≡ init ++ (done ++ link ∷ more)
joined init loop pushed new done more link a b c =
    c ∙ ap (λ xs. xs ++ more) (b ∙ ap (λ xs. xs ++ link ∷ []) a) ∙ append_assoc (init ++ done) (link ∷ []) more ∙ append_assoc init done (link ∷ more)

-- one child more
pub linked_on : (init loop pushed new done more : List Link) (root c : Tree) (outer place : ℕ) → loop ≡ init ++ done
    → pushed ≡ loop ++ record { outer = outer; place = place } ∷ [] → new ≡ pushed ++ more → outer ≡ length init
    → AreLinked (length init) root place done → slice_get (children root) place ≡ Some c → AreLinks (length pushed) c more
    → (x : List Link) × (new ≡ init ++ x) × AreLinked (length init) root (place + 1) x
linked_on init loop pushed new done more root c outer place a b e here linked child below =
    let link : Link = record { outer = length init; place = place } in
    let b' : pushed ≡ loop ++ link ∷ [] = subst (λ o. pushed ≡ loop ++ record { outer = o; place = place } ∷ []) here b in
    let count : length pushed ≡ suc (length init + length done) = omega (arith, ap length a, ap length b', length-append init done, length-append loop (link ∷ [])) in (
      done ++ link ∷ more,
      joined init loop pushed new done more link a b' e,
      subst (λ k. AreLinked (length init) root k (done ++ link ∷ more)) (omega arith)
          (more_links (length init) root place done more c linked child (subst (λ n. AreLinks n c more) count below)),
    )

-- each child has a node at least
at_least : (ts : List Tree) (k : ℕ) → k ≤ length ts → k ≤ inside (take k ts)
at_least ts zero h = omega arith
at_least [] (suc k) h = absurd (omega (arith, h))
at_least (t ∷ ts) (suc k) h = omega (arith, nodes-some t, at_least ts k (omega (arith, h)))

pub place_within : (base : ℕ) (root : Tree) (place : ℕ) (links : List Link) → AreLinked base root place links → place ≤ length links
place_within base root place links linked = omega (arith, linked.all, at_least (children root) place linked.within)

-- a child comes behind its node and the children before it
pub child_follows : (root : Tree) (n : ℕ) (t : Tree) (place : ℕ) (c : Tree) → Numbered root n t → slice_get (children t) place ≡ Some c
    → Numbered root (suc (n + inside (take place (children t)))) c
child_follows root n t place c at e = Inside at (take place (children t)) c (drop (suc place) (children t)) (parts_at (children t) place c e)
