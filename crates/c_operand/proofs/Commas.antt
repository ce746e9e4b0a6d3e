-- Lists with commas between their items, read item by item up to `)`.
use Rattle.std.proofs.Common.{◌≡◌, List, [], ◌∷◌, ◌++◌, Option, Some, None, refl, sym, ap, ◌∙◌, arith, ◌⊎◌, inl, inr, subst}
use Rattle.std.specs.Prelude.{◌≢◌, slice_get}
use Rattle.std.specs.List.{flat_map, AllByRecursion}
use Rattle.std.proofs.lemmas.Grind.{common_steps, flat_map-append}
use Rattle.c_token.specs.CTokens.{CToken, sign}
use Rattle.c_tree.specs.Names.{listed}
use Rattle.c_input.specs.Reads.{Finds, ReadsEvery}
use Rattle.c_input.proofs.Rows.{same_left}
use Rattle.c_operand.specs.Listed.{AreFilled}
use Rattle.c_operand.proofs.Tokens.{firsts_differ, tokens_differ}

-- what stands behind an item
abbrev pub IsBehind : List CToken → Type 0
IsBehind [] = ⊥
IsBehind (t ∷ ts) = (t ≡ sign ",") ⊎ (t ≡ sign ")")

-- items with a comma before each
abbrev pub behind : {A : Type 0} → (A → List CToken) → List A → List CToken
behind spell more = flat_map (λ x. sign "," ∷ spell x) more

-- what is left of a whole list, of which these items were read
pub record Remains {A : Type 0} (form : A → Type 0) (spell : A → List CToken) (read : List A) (rest : List CToken) (whole : List A) (tail : List CToken) : Type 0 where
  pub more : List A
  pub within : AllByRecursion form more
  pub is : whole ≡ read ++ more
  pub spelled : rest ≡ behind spell more ++ (sign ")" ∷ tail)

pub record AreListed {A : Type 0} (form : A → Type 0) (spell : A → List CToken) (start : List CToken) (read : List A) (rest : List CToken) : Type 0 where
  pub within : AreFilled form read
  pub parts : start ≡ listed spell read ++ rest
  pub every : (whole : List A) (tail : List CToken) → AreFilled form whole → start ≡ listed spell whole ++ (sign ")" ∷ tail) → Remains form spell read rest whole tail

pub append_assoc : {A : Type 0} (xs ys zs : List A) → (xs ++ ys) ++ zs ≡ xs ++ (ys ++ zs)
append_assoc xs ys zs = grind (arith, common_steps)

append_nil : {A : Type 0} (xs : List A) → xs ++ [] ≡ xs
append_nil xs = grind (arith, common_steps)

one_token : (s t : CToken) → Some s ≡ Some t → s ≡ t
one_token s t e = cc

is_behind : {A : Type 0} (spell : A → List CToken) (more : List A) (tail : List CToken) → IsBehind (behind spell more ++ (sign ")" ∷ tail))
is_behind spell [] tail = inr refl
is_behind spell (x ∷ more) tail = inl refl

-- what is said of the reader of one item
abbrev pub ReadsItem : {A : Type 0} → (A → Type 0) → (A → List CToken) → List CToken → Option A → Type 0
ReadsItem {A} form spell old result = (x : A) (tail : List CToken) → form x → IsBehind tail → old ≡ spell x ++ tail → result ≡ Some x

pub item_every : {A : Type 0} (form : A → Type 0) (spell : A → List CToken) (old : List CToken) (r : Option A) → ReadsEvery form spell old r → ReadsItem form spell old r
item_every form spell old r every = λ x tail h b e. every x tail h e

-- no `[` stands behind an item
behind_apart : (tail : List CToken) → IsBehind tail → slice_get tail 0 ≢ Some (sign "[")
behind_apart [] h e = h
behind_apart (t ∷ ts) (inl k) e = tokens_differ (sign ",") (sign "[") refl (sym k ∙ one_token t (sign "[") e)
behind_apart (t ∷ ts) (inr k) e = tokens_differ (sign ")") (sign "[") refl (sym k ∙ one_token t (sign "[") e)

pub item_apart : {A : Type 0} (form : A → Type 0) (spell : A → List CToken) (old : List CToken) (r : Option A)
    → ((x : A) (rest : List CToken) → form x → slice_get rest 0 ≢ Some (sign "[") → old ≡ spell x ++ rest → r ≡ Some x) → ReadsItem form spell old r
item_apart form spell old r every = λ x tail h b e. every x tail h (behind_apart tail b) e

-- what was found
pub found : {A : Type 0} (form : A → Type 0) (spell : A → List CToken) (old : List CToken) (r : Option A) (new : List CToken) (x : A)
    → r ≡ Some x → Finds form spell old r new → form x × (old ≡ spell x ++ new)
found {A} form spell old r new x is finds = subst (λ (t : Option A). Finds form spell old t new) is finds

pub listed_first : {A : Type 0} (form : A → Type 0) (spell : A → List CToken) (start rest : List CToken) (x : A) (r : Option A)
    → r ≡ Some x → form x → start ≡ spell x ++ rest → ReadsItem form spell start r → AreListed form spell start (x ∷ []) rest
listed_first {A} form spell start rest x r e h is every =
    record { within = (h, tt); parts = is ∙ ap (λ (t : List CToken). t ++ rest) (sym (append_nil (spell x))); every = go }
  where
    go : (whole : List A) (tail : List CToken) → AreFilled form whole → start ≡ listed spell whole ++ (sign ")" ∷ tail) → Remains form spell (x ∷ []) rest whole tail
    go [] tail w k = absurd w
    go (y ∷ ys) tail w k =
        let after : List CToken = behind spell ys ++ (sign ")" ∷ tail) in
        let there : start ≡ spell y ++ after = k ∙ append_assoc (spell y) (behind spell ys) (sign ")" ∷ tail) in
        let found : r ≡ Some y = every y after w.0 (is_behind spell ys tail) there in
        let same : x ≡ y = cc in
        let left : spell x ++ rest ≡ spell x ++ after = sym is ∙ (there ∙ ap (λ z. spell z ++ after) (sym same)) in
        record { more = ys; within = w.1; is = ap (λ z. z ∷ ys) (sym same); spelled = same_left (spell x) rest after left }

-- without a first item there is no list
pub listed_none : {A : Type 0} (form : A → Type 0) (spell : A → List CToken) (start : List CToken) (r : Option A)
    → r ≡ None → ReadsItem form spell start r → (whole : List A) (tail : List CToken) → AreFilled form whole → start ≡ listed spell whole ++ (sign ")" ∷ tail) → ⊥
listed_none form spell start r e every [] tail w k = w
listed_none form spell start r e every (y ∷ ys) tail w k =
    let after : List CToken = behind spell ys ++ (sign ")" ∷ tail) in
    let found : r ≡ Some y = every y after w.0 (is_behind spell ys tail) (k ∙ append_assoc (spell y) (behind spell ys) (sign ")" ∷ tail)) in
    cc

all_more : {A : Type 0} (form : A → Type 0) (read : List A) (x : A) → AllByRecursion form read → form x → AllByRecursion form (read ++ x ∷ [])
all_more form [] x h k = (k, tt)
all_more form (y ∷ ys) x h k = (h.0, all_more form ys x h.1 k)

filled_more : {A : Type 0} (form : A → Type 0) (read : List A) (x : A) → AreFilled form read → form x → AreFilled form (read ++ x ∷ [])
filled_more form [] x h k = absurd h
filled_more form (y ∷ ys) x h k = (h.0, all_more form ys x h.1 k)

listed_more : {A : Type 0} (form : A → Type 0) (spell : A → List CToken) (read : List A) (x : A) → AreFilled form read → listed spell (read ++ x ∷ []) ≡ listed spell read ++ (sign "," ∷ spell x)
listed_more form spell [] x h = absurd h
listed_more form spell (y ∷ ys) x h =
    ap (λ (t : List CToken). spell y ++ t) (flat_map-append (λ z. sign "," ∷ spell z) ys (x ∷ [])
    ∙ ap (λ (t : List CToken). behind spell ys ++ (sign "," ∷ t)) (append_nil (spell x)))
    ∙ sym (append_assoc (spell y) (behind spell ys) (sign "," ∷ spell x))

-- one more item behind a comma
pub listed_step : {A : Type 0} (form : A → Type 0) (spell : A → List CToken) (start : List CToken) (read : List A) (rest between new : List CToken) (x : A) (r : Option A)
    → AreListed form spell start read rest → rest ≡ sign "," ∷ between → r ≡ Some x → form x → between ≡ spell x ++ new → ReadsItem form spell between r
    → AreListed form spell start (read ++ x ∷ []) new
listed_step {A} form spell start read rest between new x r h comma e k is every = record { within = filled_more form read x h.within k; parts = parts; every = go }
  where
    parts : start ≡ listed spell (read ++ x ∷ []) ++ new
    parts =
        h.parts ∙ (ap (λ (t : List CToken). listed spell read ++ t) (comma ∙ ap (λ (t : List CToken). sign "," ∷ t) is)
        ∙ (sym (append_assoc (listed spell read) (sign "," ∷ spell x) new) ∙ ap (λ (t : List CToken). t ++ new) (sym (listed_more form spell read x h.within))))

    left : (whole more : List A) (tail : List CToken) → AllByRecursion form more → whole ≡ read ++ more → rest ≡ behind spell more ++ (sign ")" ∷ tail) → Remains form spell (read ++ x ∷ []) new whole tail
    left whole [] tail w i z = absurd (firsts_differ (sign ",") (sign ")") between tail refl (sym comma ∙ z))
    left whole (y ∷ ys) tail w i z =
        let after : List CToken = behind spell ys ++ (sign ")" ∷ tail) in
        let next : between ≡ (spell y ++ behind spell ys) ++ (sign ")" ∷ tail) = cc in
        let there : between ≡ spell y ++ after = next ∙ append_assoc (spell y) (behind spell ys) (sign ")" ∷ tail) in
        let found : r ≡ Some y = every y after w.0 (is_behind spell ys tail) there in
        let same : x ≡ y = cc in
        let back : spell x ++ new ≡ spell x ++ after = sym is ∙ (there ∙ ap (λ v. spell v ++ after) (sym same)) in
        let all : whole ≡ (read ++ x ∷ []) ++ ys = i ∙ (ap (λ v. read ++ v ∷ ys) (sym same) ∙ sym (append_assoc read (x ∷ []) ys)) in
        record { more = ys; within = w.1; is = all; spelled = same_left (spell x) new after back }

    go : (whole : List A) (tail : List CToken) → AreFilled form whole → start ≡ listed spell whole ++ (sign ")" ∷ tail) → Remains form spell (read ++ x ∷ []) new whole tail
    go whole tail w k = let m = h.every whole tail w k in left whole m.more tail m.within m.is m.spelled

-- a comma with no item behind it
pub listed_lost : {A : Type 0} (form : A → Type 0) (spell : A → List CToken) (start : List CToken) (read : List A) (rest between : List CToken) (r : Option A)
    → AreListed form spell start read rest → rest ≡ sign "," ∷ between → r ≡ None → ReadsItem form spell between r
    → (whole : List A) (tail : List CToken) → AreFilled form whole → start ≡ listed spell whole ++ (sign ")" ∷ tail) → ⊥
listed_lost {A} form spell start read rest between r h comma e every whole tail w k = let m = h.every whole tail w k in left m.more m.within m.spelled
  where
    left : (more : List A) → AllByRecursion form more → rest ≡ behind spell more ++ (sign ")" ∷ tail) → ⊥
    left [] w z = firsts_differ (sign ",") (sign ")") between tail refl (sym comma ∙ z)
    left (y ∷ ys) w z =
        let after : List CToken = behind spell ys ++ (sign ")" ∷ tail) in
        let next : between ≡ (spell y ++ behind spell ys) ++ (sign ")" ∷ tail) = cc in
        let found : r ≡ Some y = every y after w.0 (is_behind spell ys tail) (next ∙ append_assoc (spell y) (behind spell ys) (sign ")" ∷ tail)) in
        cc

-- no comma: the list is whole
pub listed_end : {A : Type 0} (form : A → Type 0) (spell : A → List CToken) (start : List CToken) (read : List A) (rest : List CToken)
    → AreListed form spell start read rest → ((more : List CToken) → rest ≢ sign "," ∷ more)
    → (whole : List A) (tail : List CToken) → AreFilled form whole → start ≡ listed spell whole ++ (sign ")" ∷ tail) → read ≡ whole
listed_end {A} form spell start read rest h none whole tail w k = let m = h.every whole tail w k in left m.more m.is m.spelled
  where
    left : (more : List A) → whole ≡ read ++ more → rest ≡ behind spell more ++ (sign ")" ∷ tail) → read ≡ whole
    left [] i z = sym (i ∙ append_nil read)
    left (y ∷ ys) i z = absurd (none ((spell y ++ behind spell ys) ++ (sign ")" ∷ tail)) z)
