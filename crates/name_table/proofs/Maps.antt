-- A map's entries and what they show.
use Rattle.std.proofs.Common.{◌≡◌, ℕ, List, [], ◌∷◌, ◌++◌, Option, Some, is_some, Bool, true, false, ◌||◌, if◌then◌else◌, refl, ap, sym, ◌∙◌, arith}
use Rattle.std.specs.Prelude.{bytes_eq}
use Rattle.std.specs.Map.{lookup}
use Rattle.std.specs.declared.vec.Vec.{Vec}
use Rattle.indexmap.specs.IndexMap.{insert_entry}
use Rattle.cy_tree.specs.declared.set.NameKind.{NameKind}
use Rattle.name_table.specs.Entries.{Entry, is_among, kind_among, texts, with_entry}
use Rattle.name_table.specs.Shown.{shown}

pub lookup-shown : {Z : Type 0} (es : List (Vec ℕ Z × NameKind)) (name : List ℕ) → lookup (λ (k : Vec ℕ Z). bytes_eq name k.items) es ≡ kind_among (shown es) name
lookup-shown [] name = refl
lookup-shown (e ∷ es) name = ap (λ (r : Option NameKind). if bytes_eq name e.0.items then Some e.1 else r) (lookup-shown es name)

some-if : (b r : Bool) (k : NameKind) (o : Option NameKind) → is_some o ≡ r → is_some (if b then Some k else o) ≡ (b || r)
some-if true r k o so = refl
some-if false r k o so = so

pub is_some-shown : (es : List Entry) (name : List ℕ) → is_some (kind_among es name) ≡ is_among (texts es) name
is_some-shown [] name = refl
is_some-shown (e ∷ es) name = some-if (bytes_eq name e.0) (is_among (texts es) name) e.1 (kind_among es name) (is_some-shown es name)

pub or-left : (b r : Bool) → (b || r) ≡ false → b ≡ false
or-left true r so = so
or-left false r so = refl

pub or-right : (b r : Bool) → (b || r) ≡ false → r ≡ false
or-right true r so = grind (arith, so)
or-right false r so = so

put-by : {Z : Type 0} (e : Vec ℕ Z × NameKind) (kind : NameKind) (es ins : List (Vec ℕ Z × NameKind)) (rest : List Entry) (b : Bool) → b ≡ false → shown ins ≡ rest
    → shown (if b then (e.0, kind) ∷ es else e ∷ ins) ≡ (e.0.items, e.1) ∷ rest
put-by e kind es ins rest true wrong so = grind (arith, wrong)
put-by e kind es ins rest false _ so = ap (λ (rs : List Entry). (e.0.items, e.1) ∷ rs) so

pub insert-new : {Z : Type 0} (es : List (Vec ℕ Z × NameKind)) (key : Vec ℕ Z) (kind : NameKind) → is_among (texts (shown es)) key.items ≡ false
    → shown (insert_entry (λ (x y : Vec ℕ Z). bytes_eq x.items y.items) es key kind) ≡ shown es ++ (key.items, kind) ∷ []
insert-new [] key kind _ = refl
insert-new {Z} (e ∷ es) key kind missing =
    let here = bytes_eq key.items e.0.items in
    let others = is_among (texts (shown es)) key.items in
    put-by e kind es (insert_entry (λ (x y : Vec ℕ Z). bytes_eq x.items y.items) es key kind) (shown es ++ (key.items, kind) ∷ []) here
    (or-left here others missing) (insert-new es key kind (or-right here others missing))

pub added : {Z : Type 0} (es new : List (Vec ℕ Z × NameKind)) (key : Vec ℕ Z) (kind : NameKind) (name : List ℕ) (table : List Entry)
    → shown es ≡ table → key.items ≡ name → is_among (texts table) name ≡ false
    → new ≡ insert_entry (λ (x y : Vec ℕ Z). bytes_eq x.items y.items) es key kind → shown new ≡ with_entry table (name, kind)
added {Z} es new key kind name table seen items missing so =
    ap (λ (is : List (Vec ℕ Z × NameKind)). shown is) so
    ∙ insert-new es key kind
    (ap (λ (n : List ℕ). is_among (texts (shown es)) n) items ∙ ap (λ (t : List Entry). is_among (texts t) name) seen ∙ missing)
    ∙ ap (λ (t : List Entry). t ++ (key.items, kind) ∷ []) seen
    ∙ ap (λ (n : List ℕ). table ++ (n, kind) ∷ []) items
    ∙ ap (λ (b : Bool). if b then table else table ++ (name, kind) ∷ []) (sym missing)
