-- Forms that spell the same.
use Rattle.std.proofs.Common.{◌≡◌, Bool, List, [], ◌++◌, refl, sym, ◌∙◌, ap, append-nil}
use Rattle.pyx_lex.specs.declared.token.Token.{Token}
use Rattle.token_class.specs.Sets.{Classes, of}
use Rattle.token_class.proofs.Laws.{ExactFor}
use Rattle.forms.specs.Forms.{Mark, Form, both, this, that, or}
use Rattle.forms.specs.Readers.{Reader}
use Rattle.forms.proofs.GuardLaws.{exact_as}
use Rattle.decl_grammar.specs.Grammar.{mapped}
use Rattle.decl_grammar.specs.Factored.{flipped, fork, Same}

pub same_exact : {A : Type 0} {L M : Form Token A} {p : Reader Token A} {e : Bool} {b m : Classes} → Same A L M → ExactFor A L p e b m → ExactFor A M p e b m
same_exact {A} {L} {M} {p} {e} {b} {m} s X = record { exact = exact_as Token A L M p e (of b) (of m) s.there s.back X.exact }

pub same_self : {A : Type 0} (L : Form Token A) → Same A L L
same_self L = record { there = λ ts a l. l; back = λ ts a l. l }

pub same_or : {A : Type 0} {L M K N : Form Token A} → Same A L M → Same A K N → Same A (or L K) (or M N)
same_or {A} {L} {M} {K} {N} s t = record { there = there; back = back }
  where
    there : (ts : List (Mark Token)) (a : A) → or L K ts a → or M N ts a
    there ts a (this l) = this (s.there ts a l)
    there ts a (that l) = that (t.there ts a l)

    back : (ts : List (Mark Token)) (a : A) → or M N ts a → or L K ts a
    back ts a (this l) = this (s.back ts a l)
    back ts a (that l) = that (t.back ts a l)

-- the same choices, put together in another way
pub same_right : {A : Type 0} (L M N : Form Token A) → Same A (or L (or M N)) (or (or L M) N)
same_right {A} L M N = record { there = there; back = back }
  where
    there : (ts : List (Mark Token)) (a : A) → or L (or M N) ts a → or (or L M) N ts a
    there ts a (this l) = this (this l)
    there ts a (that (this l)) = this (that l)
    there ts a (that (that l)) = that l

    back : (ts : List (Mark Token)) (a : A) → or (or L M) N ts a → or L (or M N) ts a
    back ts a (this (this l)) = this l
    back ts a (this (that l)) = that (this l)
    back ts a (that l) = that (that l)

module _ (A C : Type 0) (f : A → C) (L : Form Token A) where
  pub map_of : (ts : List (Mark Token)) (a : A) (c : C) → L ts a → c ≡ f a → mapped f L ts c
  map_of ts a c l e = record { a = a; b = tt; front = ts; back = []; cut = sym (append-nil ts); left = l; right = (refl, refl); made = e }

  pub of_map : (ts : List (Mark Token)) (c : C) → mapped f L ts c → (a : A) × L ts a × (c ≡ f a)
  of_map ts c s = (s.a, let P : List (Mark Token) → Type 0 = λ us. L us s.a in rw (s.cut ∙ ap (λ w. s.front ++ w) s.right.0 ∙ append-nil s.front) s.left, s.made)

module _ {A B C D : Type 0} (f : A → B → C) (g : A → D → C) (L : Form Token A) (M : Form Token B) (N : Form Token D) where
  fork_there : (ts : List (Mark Token)) (c : C) → fork f g L M N ts c → or (both f L M) (both g L N) ts c
  fork_there ts c s = go s.right
    where
      go : or (mapped (flipped f) M) (mapped (flipped g) N) s.back s.b → or (both f L M) (both g L N) ts c
      go (this z) = let u = of_map B (A → C) (flipped f) M s.back s.b z in
          this (record { a = s.a; b = u.0; front = s.front; back = s.back; cut = s.cut; left = s.left; right = u.1; made = s.made ∙ ap (λ h. h s.a) u.2 })
      go (that z) = let u = of_map D (A → C) (flipped g) N s.back s.b z in
          that (record { a = s.a; b = u.0; front = s.front; back = s.back; cut = s.cut; left = s.left; right = u.1; made = s.made ∙ ap (λ h. h s.a) u.2 })

  fork_back : (ts : List (Mark Token)) (c : C) → or (both f L M) (both g L N) ts c → fork f g L M N ts c
  fork_back ts c (this s) = record { a = s.a; b = flipped f s.b; front = s.front; back = s.back; cut = s.cut; left = s.left; right = this (map_of B (A → C) (flipped f) M s.back s.b (flipped f s.b) s.right refl); made = s.made }
  fork_back ts c (that s) = record { a = s.a; b = flipped g s.b; front = s.front; back = s.back; cut = s.cut; left = s.left; right = that (map_of D (A → C) (flipped g) N s.back s.b (flipped g s.b) s.right refl); made = s.made }

  -- one beginning of two forms
  pub same_fork : Same C (fork f g L M N) (or (both f L M) (both g L N))
  same_fork = record { there = fork_there; back = fork_back }
