-- A string that is undone byte by byte.
use Rattle.std.proofs.Common.{◌≡◌, ℕ, ◌<◌, List, [], ◌∷◌, ◌++◌, refl, sym, ap, ◌∙◌, arith}
use Rattle.std.specs.Prelude.{◌≢◌}
use Rattle.std.specs.List.{flat_map}
use Rattle.std.proofs.lemmas.Grind.{common_steps, flat_map-append}
use Rattle.c_tree.specs.Forms.{IsString}
use Rattle.c_tree.specs.Values.{quoted_byte}

-- what is left of a whole string, of which these bytes were undone
pub record Remains (bytes rest whole : List ℕ) : Type 0 where
  pub more : List ℕ
  pub form : IsString more
  pub is : whole ≡ bytes ++ more
  pub spelled : flat_map quoted_byte more ≡ rest

pub record IsUndone (raw bytes rest : List ℕ) : Type 0 where
  pub form : IsString bytes
  pub parts : flat_map quoted_byte bytes ++ rest ≡ raw
  pub every : (whole : List ℕ) → IsString whole → flat_map quoted_byte whole ≡ raw → Remains bytes rest whole

one_more : (bytes : List ℕ) (b : ℕ) → IsString bytes → b < 256 → IsString (bytes ++ b ∷ [])
one_more [] b h k = (k, tt)
one_more (x ∷ bytes) b h k = (h.0, one_more bytes b h.1 k)

append_assoc : (xs ys zs : List ℕ) → (xs ++ ys) ++ zs ≡ xs ++ (ys ++ zs)
append_assoc xs ys zs = grind (arith, common_steps)

append_nil : (xs : List ℕ) → xs ++ [] ≡ xs
append_nil xs = grind (arith, common_steps)

assoc_one : (xs ys : List ℕ) (x : ℕ) → xs ++ x ∷ ys ≡ (xs ++ x ∷ []) ++ ys
assoc_one xs ys x = sym (append_assoc xs (x ∷ []) ys)

pub undone_first : (raw : List ℕ) → IsUndone raw [] raw
undone_first raw = record { form = tt; parts = refl; every = λ whole form e. record { more = whole; form = form; is = refl; spelled = e } }

pub undone_step : (raw bytes rest more : List ℕ) (b : ℕ) → b < 256 → IsUndone raw bytes rest → rest ≢ [] → rest ≡ quoted_byte b ++ more
    → ((y : ℕ) (ys : List ℕ) → y < 256 → rest ≡ quoted_byte y ++ ys → (b ≡ y) × (more ≡ ys)) → IsUndone raw (bytes ++ b ∷ []) more
undone_step raw bytes rest more b small h some e every = record { form = one_more bytes b h.form small; parts = parts; every = go }
  where
    q : List ℕ → List ℕ
    q xs = flat_map quoted_byte xs

    parts : q (bytes ++ b ∷ []) ++ more ≡ raw
    parts =
        ap (λ (t : List ℕ). t ++ more) (flat_map-append quoted_byte bytes (b ∷ []))
        ∙ (ap (λ (t : List ℕ). (q bytes ++ t) ++ more) (append_nil (quoted_byte b))
        ∙ (append_assoc (q bytes) (quoted_byte b) more
        ∙ (ap (λ (t : List ℕ). q bytes ++ t) (sym e) ∙ h.parts)))

    left : (whole : List ℕ) (ys : List ℕ) → IsString ys → whole ≡ bytes ++ ys → q ys ≡ rest → Remains (bytes ++ b ∷ []) more whole
    left whole [] form is spelled = absurd (some (sym spelled))
    left whole (y ∷ ys) form is spelled =
        let found = every y (q ys) form.0 (sym spelled) in
        record { more = ys; form = form.1; is = is ∙ (ap (λ z. bytes ++ z ∷ ys) (sym found.0) ∙ assoc_one bytes ys b); spelled = sym found.1 }

    go : (whole : List ℕ) → IsString whole → q whole ≡ raw → Remains (bytes ++ b ∷ []) more whole
    go whole form k = let r = h.every whole form k in left whole r.more r.form r.is r.spelled

pub undone_none : (raw bytes rest : List ℕ) → IsUndone raw bytes rest → rest ≢ [] → ((y : ℕ) (ys : List ℕ) → y < 256 → rest ≡ quoted_byte y ++ ys → ⊥)
    → (whole : List ℕ) → IsString whole → flat_map quoted_byte whole ≡ raw → ⊥
undone_none raw bytes rest h some none whole form e = let r = h.every whole form e in go r.more r.form r.spelled
  where
    go : (ys : List ℕ) → IsString ys → flat_map quoted_byte ys ≡ rest → ⊥
    go [] f k = some (sym k)
    go (y ∷ ys) f k = none y (flat_map quoted_byte ys) f.0 (sym k)

pub undone_spelled : (raw bytes rest : List ℕ) → IsUndone raw bytes rest → rest ≡ [] → flat_map quoted_byte bytes ≡ raw
undone_spelled raw bytes rest h e = sym (append_nil (flat_map quoted_byte bytes)) ∙ (ap (λ (t : List ℕ). flat_map quoted_byte bytes ++ t) (sym e) ∙ h.parts)

pub undone_every : (raw bytes rest : List ℕ) → IsUndone raw bytes rest → rest ≡ [] → (whole : List ℕ) → IsString whole → flat_map quoted_byte whole ≡ raw → bytes ≡ whole
undone_every raw bytes rest h e whole form k = let r = h.every whole form k in go r.more r.is (r.spelled ∙ e)
  where
    filled : (y : ℕ) (ys : List ℕ) → quoted_byte y ++ ys ≡ [] → ⊥
    filled y ys z = grind (arith, common_steps)

    go : (ys : List ℕ) → whole ≡ bytes ++ ys → flat_map quoted_byte ys ≡ [] → bytes ≡ whole
    go [] is z = sym (is ∙ append_nil bytes)
    go (y ∷ ys) is z = absurd (filled y (flat_map quoted_byte ys) z)
