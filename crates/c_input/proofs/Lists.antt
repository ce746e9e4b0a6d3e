-- Lists that are read item by item, up to where a list ends.
use Rattle.std.proofs.Common.{◌≡◌, ◌<◌, List, [], ◌∷◌, ◌++◌, length, Some, None, refl, sym, ap, subst, ◌∙◌, arith}
use Rattle.std.specs.Prelude.{◌≢◌, Option}
use Rattle.std.specs.List.{flat_map, AllByRecursion}
use Rattle.std.proofs.lemmas.Grind.{common_steps, flat_map-append}
use Rattle.c_token.specs.CTokens.{CToken}
use Rattle.c_input.specs.Reads.{Finds, ReadsEvery}
use Rattle.c_input.proofs.Rows.{next_one}

-- what is left of a whole list, of which these items were read
pub record Remains {A : Type 0} (form : A → Type 0) (spell : A → List CToken) (read : List A) (rest : List CToken) (whole : List A) (after : List CToken) : Type 0 where
  pub more : List A
  pub within : AllByRecursion form more
  pub is : whole ≡ read ++ more
  pub spelled : rest ≡ flat_map spell more ++ after

-- These items were read, and each whole list behind which the rest may stand begins with them.
pub record IsRead {A : Type 0} (form : A → Type 0) (spell : A → List CToken) (stops : List CToken → Type 0) (start : List CToken) (read : List A) (rest : List CToken) : Type 0 where
  pub within : AllByRecursion form read
  pub parts : start ≡ flat_map spell read ++ rest
  pub every : (whole : List A) (after : List CToken) → AllByRecursion form whole → stops after → start ≡ flat_map spell whole ++ after → Remains form spell read rest whole after

-- Each item in form, behind which further items and an end stand, is read.
abbrev pub ReadsItem : {A : Type 0} → (A → Type 0) → (A → List CToken) → (List CToken → Type 0) → List CToken → Option A → Type 0
ReadsItem {A} form spell stops rest r =
    (y : A) (more : List A) (after : List CToken) → form y → AllByRecursion form more → stops after → rest ≡ spell y ++ (flat_map spell more ++ after) → r ≡ Some y

pub item_every : {A : Type 0} (form : A → Type 0) (spell : A → List CToken) (stops : List CToken → Type 0) (rest : List CToken) (r : Option A) → ReadsEvery form spell rest r → ReadsItem form spell stops rest r
item_every form spell stops rest r every = λ y more after f m s e. every y (flat_map spell more ++ after) f e

one_more : {A : Type 0} (form : A → Type 0) (xs : List A) (x : A) → AllByRecursion form xs → form x → AllByRecursion form (xs ++ x ∷ [])
one_more form [] x h k = (k, tt)
one_more form (y ∷ xs) x h k = (h.0, one_more form xs x h.1 k)

append_assoc : {A : Type 0} (xs ys zs : List A) → (xs ++ ys) ++ zs ≡ xs ++ (ys ++ zs)
append_assoc [] ys zs = refl
append_assoc (x ∷ xs) ys zs = ap (λ t. x ∷ t) (append_assoc xs ys zs)

append_nil : {A : Type 0} (xs : List A) → xs ++ [] ≡ xs
append_nil [] = refl
append_nil (x ∷ xs) = ap (λ t. x ∷ t) (append_nil xs)

pub read_first : {A : Type 0} (form : A → Type 0) (spell : A → List CToken) (stops : List CToken → Type 0) (start : List CToken) → IsRead form spell stops start [] start
read_first form spell stops start = record { within = tt; parts = refl; every = λ whole after f s e. record { more = whole; within = f; is = refl; spelled = e } }

-- what is left has a first item, where the rest is no end
pub record HasItem {A : Type 0} (form : A → Type 0) (spell : A → List CToken) (read : List A) (rest : List CToken) (whole : List A) (after : List CToken) : Type 0 where
  pub item : A
  pub more : List A
  pub first : form item
  pub within : AllByRecursion form more
  pub is : whole ≡ read ++ item ∷ more
  pub spelled : rest ≡ spell item ++ (flat_map spell more ++ after)

pub read_more : {A : Type 0} (form : A → Type 0) (spell : A → List CToken) (stops : List CToken → Type 0) (read : List A) (rest : List CToken) (whole : List A) (after : List CToken)
    → (stops rest → ⊥) → stops after → Remains form spell read rest whole after → HasItem form spell read rest whole after
read_more {A} form spell stops read rest whole after goes s r = go r.more r.within r.is r.spelled
  where
    go : (more : List A) → AllByRecursion form more → whole ≡ read ++ more → rest ≡ flat_map spell more ++ after → HasItem form spell read rest whole after
    go [] f is e = absurd (goes (subst stops (sym e) s))
    go (y ∷ more) f is e = record { item = y; more = more; first = f.0; within = f.1; is = is; spelled = e ∙ append_assoc (spell y) (flat_map spell more) after }

-- an item was read where the rest is no end
pub read_step : {A : Type 0} (form : A → Type 0) (spell : A → List CToken) (stops : List CToken → Type 0) (start : List CToken) (read : List A) (rest : List CToken) (r : Option A) (x : A) (new : List CToken)
    → IsRead form spell stops start read rest → (stops rest → ⊥) → r ≡ Some x → Finds form spell rest r new → ReadsItem form spell stops rest r → IsRead form spell stops start (read ++ x ∷ []) new
read_step {A} form spell stops start read rest r x new h goes is finds every =
    let here : Finds form spell rest (Some x) new = subst (λ (t : Option A). Finds form spell rest t new) is finds in
    let parts : start ≡ flat_map spell (read ++ x ∷ []) ++ new =
    h.parts
    ∙ (ap (λ t. flat_map spell read ++ t) here.1
    ∙ (sym (append_assoc (flat_map spell read) (spell x) new)
    ∙ (ap (λ t. (flat_map spell read ++ t) ++ new) (sym (append_nil (spell x))) ∙ ap (λ t. t ++ new) (sym (flat_map-append spell read (x ∷ [])))))) in
    record { within = one_more form read x h.within here.0; parts = parts; every = go }
  where
    go : (whole : List A) (after : List CToken) → AllByRecursion form whole → stops after → start ≡ flat_map spell whole ++ after → Remains form spell (read ++ x ∷ []) new whole after
    go whole after f s e =
        let m = read_more form spell stops read rest whole after goes s (h.every whole after f s e) in
        let n = next_one form spell rest r new x m.item (flat_map spell m.more ++ after) is finds (every m.item m.more after m.first m.within s m.spelled) m.spelled in
        record {
          more = m.more;
          within = m.within;
          is = m.is ∙ (ap (λ t. read ++ t ∷ m.more) (sym n.same) ∙ sym (append_assoc read (x ∷ []) m.more));
          spelled = n.left;
        }

-- no item was read where the rest is no end
pub read_missed : {A : Type 0} (form : A → Type 0) (spell : A → List CToken) (stops : List CToken → Type 0) (start : List CToken) (read : List A) (rest : List CToken) (r : Option A)
    → IsRead form spell stops start read rest → (stops rest → ⊥) → r ≡ None → ReadsItem form spell stops rest r
    → (whole : List A) (after : List CToken) → AllByRecursion form whole → stops after → start ≡ flat_map spell whole ++ after → ⊥
read_missed form spell stops start read rest r h goes is every whole after f s e =
    let m = read_more form spell stops read rest whole after goes s (h.every whole after f s e) in
    cc (every m.item m.more after m.first m.within s m.spelled)

pub record IsAll {A : Type 0} (read : List A) (rest : List CToken) (whole : List A) (after : List CToken) : Type 0 where
  pub same : read ≡ whole
  pub left : rest ≡ after

-- no item, behind which further items and an end stand, begins where the rest is an end
pub read_end_within : {A : Type 0} (form : A → Type 0) (spell : A → List CToken) (stops : List CToken → Type 0) (start : List CToken) (read : List A) (rest : List CToken)
    → IsRead form spell stops start read rest
    → ((y : A) (more : List A) (after : List CToken) → form y → AllByRecursion form more → stops after → rest ≡ spell y ++ (flat_map spell more ++ after) → ⊥)
    → (whole : List A) (after : List CToken) → AllByRecursion form whole → stops after → start ≡ flat_map spell whole ++ after → IsAll read rest whole after
read_end_within {A} form spell stops start read rest h none whole after f s e = let r = h.every whole after f s e in go r.more r.within r.is r.spelled
  where
    go : (more : List A) → AllByRecursion form more → whole ≡ read ++ more → rest ≡ flat_map spell more ++ after → IsAll read rest whole after
    go [] f is e = record { same = sym (is ∙ append_nil read); left = e }
    go (y ∷ more) f is e = absurd (none y more after f.0 f.1 s (e ∙ append_assoc (spell y) (flat_map spell more) after))

-- no item begins where the rest is an end
pub read_end : {A : Type 0} (form : A → Type 0) (spell : A → List CToken) (stops : List CToken → Type 0) (start : List CToken) (read : List A) (rest : List CToken)
    → IsRead form spell stops start read rest → ((y : A) (ys : List CToken) → form y → rest ≡ spell y ++ ys → ⊥)
    → (whole : List A) (after : List CToken) → AllByRecursion form whole → stops after → start ≡ flat_map spell whole ++ after → IsAll read rest whole after
read_end form spell stops start read rest h none whole after f s e =
    read_end_within form spell stops start read rest h (λ y more z fy fm sz ez. none y (flat_map spell more ++ z) fy ez) whole after f s e

filled : (xs : List CToken) → xs ≢ [] → 0 < length xs
filled [] h = absurd (h refl)
filled (x ∷ xs) h = omega arith

longer : (xs ys : List CToken) → xs ≢ [] → length ys < length (xs ++ ys)
longer xs ys h = let some = filled xs h in grind (arith, common_steps)

-- what is left is shorter, where something was read
pub shorter : {A : Type 0} (form : A → Type 0) (spell : A → List CToken) (old : List CToken) (r : Option A) (new : List CToken) (x : A)
    → r ≡ Some x → Finds form spell old r new → spell x ≢ [] → length new < length old
shorter {A} form spell old r new x is finds some =
    let here : Finds form spell old (Some x) new = subst (λ (t : Option A). Finds form spell old t new) is finds in
    subst (λ (t : List CToken). length new < length t) (sym here.1) (longer (spell x) new some)
