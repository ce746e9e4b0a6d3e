-- What a name means among first entries is what it means among all.
use Rattle.std.proofs.Common.{◌≡◌, ℕ, List, [], ◌∷◌, ◌++◌, Option, Some, Bool, true, false, ◌||◌, if◌then◌else◌, refl, ap, sym, ◌∙◌, arith}
use Rattle.std.specs.Prelude.{bytes_eq}
use Rattle.std.specs.Cmp.Lexicographic.{bytes_decides}
use Rattle.cy_tree.specs.declared.set.NameKind.{NameKind}
use Rattle.name_table.specs.Entries.{Entry, firsts, is_among, kind_among}
use Rattle.name_table.specs.Laws.{SaySame}
use Rattle.name_table.proofs.Maps.{or-left, or-right}

or-neither : (b r : Bool) → b ≡ false → r ≡ false → (b || r) ≡ false
or-neither true r wrong e = wrong
or-neither false r _ e = e

among-more : (names : List (List ℕ)) (x name : List ℕ) → is_among names name ≡ false → bytes_eq name x ≡ false → is_among (names ++ x ∷ []) name ≡ false
among-more [] x name _ other = or-neither (bytes_eq name x) false other refl
among-more (y ∷ ys) x name missing other =
    or-neither (bytes_eq name y) (is_among (ys ++ x ∷ []) name) (or-left (bytes_eq name y) (is_among ys name) missing)
    (among-more ys x name (or-right (bytes_eq name y) (is_among ys name) missing) other)

-- an entry of which the name was there before doesn't count, for any other name
passed : (t : Bool) (before : List (List ℕ)) (x name : List ℕ) (this rest : Option NameKind)
    → bytes_eq name x ≡ t → is_among before x ≡ true → is_among before name ≡ false → rest ≡ (if t then this else rest)
passed true before x name this rest same there missing =
    let equal : name ≡ x = (bytes_decides name x).0 same in
    let wrong : true ≡ false = sym there ∙ ap (λ (n : List ℕ). is_among before n) (sym equal) ∙ missing in
    grind (arith, wrong)
passed false before x name this rest same there missing = refl

kept : (t : Bool) (this rest more : Option NameKind) → (t ≡ false → rest ≡ more) → (if t then this else rest) ≡ (if t then this else more)
kept true this rest more e = refl
kept false this rest more e = e refl

one-step : (b : Bool) (before : List (List ℕ)) (e : Entry) (es : List Entry) (name : List ℕ)
    → is_among before e.0 ≡ b → is_among before name ≡ false
    → kind_among (firsts before es) name ≡ kind_among es name
    → (bytes_eq name e.0 ≡ false → kind_among (firsts (before ++ e.0 ∷ []) es) name ≡ kind_among es name)
    → kind_among (if b then firsts before es else e ∷ firsts (before ++ e.0 ∷ []) es) name ≡ kind_among (e ∷ es) name
one-step true before e es name there missing behind more =
    behind ∙ passed (bytes_eq name e.0) before e.0 name (Some e.1) (kind_among es name) refl there missing
one-step false before e es name there missing behind more =
    kept (bytes_eq name e.0) (Some e.1) (kind_among (firsts (before ++ e.0 ∷ []) es) name) (kind_among es name) more

same-behind : (es : List Entry) (before : List (List ℕ)) (name : List ℕ) → is_among before name ≡ false → kind_among (firsts before es) name ≡ kind_among es name
same-behind [] before name missing = refl
same-behind (e ∷ es) before name missing =
    one-step (is_among before e.0) before e es name refl missing (same-behind es before name missing)
    (λ (other : bytes_eq name e.0 ≡ false). same-behind es (before ++ e.0 ∷ []) name (among-more before e.0 name missing other))

pub same : (entries : List Entry) → SaySame entries
same entries = λ name. same-behind entries [] name refl
