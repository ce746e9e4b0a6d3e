-- Items that are read one by one.
use Rattle.std.proofs.Common.{◌≡◌, ◌+◌, suc, List, [], ◌∷◌, ◌++◌, length, refl, sym, ap, subst, ◌∙◌, arith}
use Rattle.std.specs.Prelude.{Bool, true, false}
use Rattle.std.specs.List.{AllByRecursion}
use Rattle.c_token.specs.CTokens.{CToken}
use Rattle.c_tree.specs.declared.item.CItem.{CItem}
use Rattle.c_tree.specs.Forms.{IsItem}
use Rattle.c_tree.specs.Items.{item_spelling}
use Rattle.c_tree.specs.Reading.{IsReading}

-- what is left of a reading, of which these trees were read
pub record Remains (rest : List (List CToken)) (read trees : List CItem) (whole : Bool) : Type 0 where
  pub more : List CItem
  pub is : trees ≡ read ++ more
  pub reads : IsReading rest more whole

-- these trees were read of these items, and this is left
pub record IsFront (items : List (List CToken)) (read : List CItem) (rest : List (List CToken)) : Type 0 where
  pub joins : (trees : List CItem) (whole : Bool) → IsReading rest trees whole → IsReading items (read ++ trees) whole
  pub every : (trees : List CItem) (whole : Bool) → IsReading items trees whole → Remains rest read trees whole
  pub count : length read + length rest ≡ length items
  pub form : AllByRecursion IsItem read

append_nil : (xs : List CItem) → xs ++ [] ≡ xs
append_nil [] = refl
append_nil (x ∷ xs) = ap (λ t. x ∷ t) (append_nil xs)

append_assoc : (xs ys zs : List CItem) → (xs ++ ys) ++ zs ≡ xs ++ (ys ++ zs)
append_assoc [] ys zs = refl
append_assoc (x ∷ xs) ys zs = ap (λ t. x ∷ t) (append_assoc xs ys zs)

one_more : (xs : List CItem) (x : CItem) → AllByRecursion IsItem xs → IsItem x → AllByRecursion IsItem (xs ++ x ∷ [])
one_more [] x h k = (k, tt)
one_more (y ∷ xs) x h k = (h.0, one_more xs x h.1 k)

length_more : (xs : List CItem) (x : CItem) → length (xs ++ x ∷ []) ≡ suc (length xs)
length_more [] x = refl
length_more (y ∷ xs) x = ap (λ n. suc n) (length_more xs x)

pub front_starts : (items : List (List CToken)) → IsFront items [] items
front_starts items = record { joins = λ trees whole r. r; every = λ trees whole r. record { more = trees; is = refl; reads = r }; count = omega arith; form = tt }

pub front_steps : (items : List (List CToken)) (read : List CItem) (tokens : List CToken) (rest : List (List CToken)) (tree : CItem)
    → IsFront items read (tokens ∷ rest) → IsItem tree → item_spelling tree ≡ tokens → ((t : CItem) → IsItem t → item_spelling t ≡ tokens → tree ≡ t)
    → IsFront items (read ++ tree ∷ []) rest
unfolding IsReading
front_steps items read tokens rest tree h form e same = record {
  joins = λ trees whole r. subst (λ (t : List CItem). IsReading items t whole) (sym (append_assoc read (tree ∷ []) trees)) (h.joins (tree ∷ trees) whole (form, e, r));
  every = λ trees whole r. go trees whole (h.every trees whole r);
  count = counted;
  form = one_more read tree h.form form;
}
  where
    counted : length (read ++ tree ∷ []) + length rest ≡ length items
    counted = let n = length_more read tree in let k = h.count in omega arith

    left : (trees : List CItem) (whole : Bool) (more : List CItem) → trees ≡ read ++ more → IsReading (tokens ∷ rest) more whole → Remains rest (read ++ tree ∷ []) trees whole
    left trees whole [] is r = absurd (r.1 tree form e)
    left trees whole (t ∷ more) is r = record {
      more = more;
      is = is ∙ (ap (λ z. read ++ z ∷ more) (sym (same t r.0 r.1)) ∙ sym (append_assoc read (tree ∷ []) more));
      reads = r.2;
    }

    go : (trees : List CItem) (whole : Bool) → Remains (tokens ∷ rest) read trees whole → Remains rest (read ++ tree ∷ []) trees whole
    go trees whole r = left trees whole r.more r.is r.reads

-- ---- at the end

pub whole_reads : (items : List (List CToken)) (read : List CItem) → IsFront items read [] → IsReading items read true
unfolding IsReading
whole_reads items read h = subst (λ (t : List CItem). IsReading items t true) (append_nil read) (h.joins [] true refl)

pub record IsWhole (read trees : List CItem) (whole : Bool) : Type 0 where
  pub same : read ≡ trees
  pub ends : whole ≡ true

pub whole_every : (items : List (List CToken)) (read : List CItem) → IsFront items read [] → (trees : List CItem) (whole : Bool) → IsReading items trees whole → IsWhole read trees whole
unfolding IsReading
whole_every items read h trees whole r = let m = h.every trees whole r in go m.more m.is m.reads
  where
    go : (more : List CItem) → trees ≡ read ++ more → IsReading [] more whole → IsWhole read trees whole
    go [] is e = record { same = sym (is ∙ append_nil read); ends = e }
    go (t ∷ more) is e = absurd e

-- ---- where no item follows

pub stop_reads : (items : List (List CToken)) (read : List CItem) (tokens : List CToken) (rest : List (List CToken))
    → IsFront items read (tokens ∷ rest) → ((t : CItem) → IsItem t → item_spelling t ≡ tokens → ⊥) → IsReading items read false
unfolding IsReading
stop_reads items read tokens rest h none = subst (λ (t : List CItem). IsReading items t false) (append_nil read) (h.joins [] false (refl, none))

pub record IsCut (read trees : List CItem) (whole : Bool) : Type 0 where
  pub same : read ≡ trees
  pub ends : whole ≡ false

pub stop_every : (items : List (List CToken)) (read : List CItem) (tokens : List CToken) (rest : List (List CToken))
    → IsFront items read (tokens ∷ rest) → ((t : CItem) → IsItem t → item_spelling t ≡ tokens → ⊥) → (trees : List CItem) (whole : Bool) → IsReading items trees whole → IsCut read trees whole
unfolding IsReading
stop_every items read tokens rest h none trees whole r = let m = h.every trees whole r in go m.more m.is m.reads
  where
    go : (more : List CItem) → trees ≡ read ++ more → IsReading (tokens ∷ rest) more whole → IsCut read trees whole
    go [] is e = record { same = sym (is ∙ append_nil read); ends = e.0 }
    go (t ∷ more) is e = absurd (none t e.0 e.1)
