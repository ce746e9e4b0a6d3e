-- What one more entry does to a table.
use denote.Ref.{Bor}
use Rattle.std.proofs.Common.{◌≡◌, ℕ, suc, drop, ◌+◌, length, List, [], ◌∷◌, ◌++◌, Bool, true, false, if◌then◌else◌, refl, ap, sym, ◌∙◌, append_assoc, arith}
use Rattle.std.proofs.lemmas.List.{map-append}
use Rattle.cy_tree.specs.declared.set.NameKind.TheVariants as kind
use Rattle.name_table.specs.EntriesShown.{slices}
use Rattle.name_table.specs.Entries.{Entry, firsts, is_among, numbered, once, texts, with_entry, with_local}

texts-more : (table : List Entry) (e : Entry) → texts (table ++ e ∷ []) ≡ texts table ++ e.0 ∷ []
texts-more table e = map-append (λ (e : Entry). e.0) table (e ∷ [])

first-by : (table : List Entry) (e : Entry) (es : List Entry) (b : Bool)
    → table ++ (if b then firsts (texts table) es else e ∷ firsts (texts table ++ e.0 ∷ []) es)
    ≡ (if b then table else table ++ e ∷ []) ++ firsts (texts (if b then table else table ++ e ∷ [])) es
first-by table e es true = refl
first-by table e es false =
    ap (λ (ts : List (List ℕ)). table ++ e ∷ firsts ts es) (sym (texts-more table e))
    ∙ sym (append_assoc table (e ∷ []) (firsts (texts (table ++ e ∷ [])) es))

pub first-step : (table : List Entry) (e : Entry) (es : List Entry)
    → table ++ firsts (texts table) (e ∷ es) ≡ with_entry table e ++ firsts (texts (with_entry table e)) es
first-step table e es = first-by table e es (is_among (texts table) e.0)

numbered-more : (i : ℕ) (xs : List (List ℕ)) (x : List ℕ) → numbered i (xs ++ x ∷ []) ≡ numbered i xs ++ (x, kind.Local (i + length xs)) ∷ []
numbered-more i [] x = let e : i ≡ i + 0 = omega arith in ap (λ (n : ℕ). (x, kind.Local n) ∷ []) e
numbered-more i (y ∷ ys) x =
    let e : suc i + length ys ≡ i + suc (length ys) = omega arith in
    ap (λ (es : List Entry). (y, kind.Local i) ∷ es)
    (numbered-more (suc i) ys x ∙ ap (λ (n : ℕ). numbered (suc i) ys ++ (x, kind.Local n) ∷ []) e)

texts-length : (table : List Entry) → length (texts table) ≡ length table
texts-length [] = refl
texts-length (e ∷ es) = ap suc (texts-length es)

abbrev next : List Entry → List ℕ → Bool → List Entry
next table x b = if b then table else table ++ (x, kind.Local (length table)) ∷ []

numbered-by : (table : List Entry) (x : List ℕ) (b : Bool) → table ≡ numbered 0 (texts table) → next table x b ≡ numbered 0 (texts (next table x b))
numbered-by table x true so = so
numbered-by table x false so =
    let same : length table ≡ 0 + length (texts table) = omega (arith, texts-length table) in
    ap (λ (es : List Entry). es ++ (x, kind.Local (length table)) ∷ []) so
    ∙ ap (λ (n : ℕ). numbered 0 (texts table) ++ (x, kind.Local n) ∷ []) same
    ∙ sym (numbered-more 0 (texts table) x)
    ∙ ap (λ (ts : List (List ℕ)). numbered 0 ts) (sym (texts-more table (x, kind.Local (length table))))

pub local-numbered : (table : List Entry) (x : List ℕ) → table ≡ numbered 0 (texts table) → with_local table x ≡ numbered 0 (texts (with_local table x))
local-numbered table x so = numbered-by table x (is_among (texts table) x) so

local-by : (table : List Entry) (x : List ℕ) (xs : List (List ℕ)) (b : Bool)
    → texts table ++ (if b then once (texts table) xs else x ∷ once (texts table ++ x ∷ []) xs)
    ≡ texts (next table x b) ++ once (texts (next table x b)) xs
local-by table x xs true = refl
local-by table x xs false =
    sym (append_assoc (texts table) (x ∷ []) (once (texts table ++ x ∷ []) xs))
    ∙ ap (λ (ts : List (List ℕ)). ts ++ once ts xs) (sym (texts-more table (x, kind.Local (length table))))

pub local-step : (table : List Entry) (x : List ℕ) (xs : List (List ℕ))
    → texts table ++ once (texts table) (x ∷ xs) ≡ texts (with_local table x) ++ once (texts (with_local table x)) xs
local-step table x xs = local-by table x xs (is_among (texts table) x)

pub locals-step : (names : List (Bor (List ℕ))) (i j : ℕ) (x : Bor (List ℕ)) (table new : List Entry) (all : List (List ℕ))
    → j ≡ suc i → drop i names ≡ x ∷ drop (suc i) names → table ≡ numbered 0 (texts table) → all ≡ texts table ++ once (texts table) (slices (drop i names))
    → new ≡ with_local table x.now → (new ≡ numbered 0 (texts new)) × (all ≡ texts new ++ once (texts new) (slices (drop j names)))
locals-step names i j x table new all follows at so whole e = (
  e ∙ local-numbered table x.now so ∙ ap (λ (t : List Entry). numbered 0 (texts t)) (sym e),
  whole
      ∙ ap (λ (ns : List (Bor (List ℕ))). texts table ++ once (texts table) (slices ns)) at
      ∙ local-step table x.now (slices (drop (suc i) names))
      ∙ ap (λ (t : List Entry). texts t ++ once (texts t) (slices (drop (suc i) names))) (sym e)
      ∙ ap (λ (n : ℕ). texts new ++ once (texts new) (slices (drop n names))) (sym follows),
)
