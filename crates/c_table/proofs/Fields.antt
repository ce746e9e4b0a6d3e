-- Fields that are read one by one, numbered from 0.
use Rattle.std.proofs.Common.{◌≡◌, ℕ, suc, ◌+◌, ◌<◌, List, [], ◌∷◌, ◌++◌, Some, length, refl, sym, ap, subst, ◌∙◌, arith, append_assoc, length-append}
use Rattle.std.specs.Prelude.{◌≢◌, None, Option, ⊤}
use Rattle.std.proofs.lemmas.Grind.{common_steps}
use Rattle.c_token.specs.CTokens.{CToken, sign}
use Rattle.c_tree.specs.declared.value.CType.{CType}
use Rattle.c_tree.specs.declared.value.CType.TheVariants as type
use Rattle.c_tree.specs.Names.{letter_token}
use Rattle.c_tree.specs.Values.{type_spelling}
use Rattle.c_tree.specs.Items.{fields_spelling}
use Rattle.c_input.specs.Reads.{ReadsEvery}
use Rattle.c_input.specs.Types.{type_tokens}
use Rattle.c_input.proofs.Spelled.{spelled}
use Rattle.c_table.specs.Parts.{end_tokens, field_tokens}
use Rattle.c_table.specs.Tables.{fields_tokens}

-- what is left of a whole list of fields, of which these were read
pub record Remain (read : List CType) (rest behind : List CToken) (whole : List CType) : Type 0 where
  pub more : List CType
  pub is : whole ≡ read ++ more
  pub spelled : rest ≡ fields_spelling (length read) more ++ (end_tokens ++ behind)

pub record AreRead (start : List CToken) (read : List CType) (rest : List CToken) : Type 0 where
  pub parts : start ≡ fields_spelling 0 read ++ rest
  pub every : (whole : List CType) (behind : List CToken) → start ≡ fields_tokens whole ++ behind → Remain read rest behind whole

assoc : (a b c : List CToken) → (a ++ b) ++ c ≡ a ++ (b ++ c)
assoc a b c = append_assoc a b c

-- the first field, and those behind it
first_field : (j : ℕ) (x : CType) (xs : List CType) (rest : List CToken) → fields_spelling j (x ∷ xs) ++ rest ≡ field_tokens j x ++ (fields_spelling (suc j) xs ++ rest)
first_field j x xs rest =
    assoc (type_spelling x) (letter_token "f" j ∷ sign ";" ∷ fields_spelling (suc j) xs) rest
    ∙ sym (assoc (type_spelling x) (letter_token "f" j ∷ sign ";" ∷ []) (fields_spelling (suc j) xs ++ rest))

-- one field more at the end
more_fields : (j : ℕ) (xs : List CType) (x : CType) (rest : List CToken) → fields_spelling j (xs ++ x ∷ []) ++ rest ≡ fields_spelling j xs ++ (field_tokens (j + length xs) x ++ rest)
more_fields j [] x rest = first_field j x [] rest ∙ ap (λ k. field_tokens k x ++ rest) number
  where
    number : j ≡ j + 0
    number = omega arith
more_fields j (y ∷ ys) x rest =
    first_field j y (ys ++ x ∷ []) rest
    ∙ (ap (λ (t : List CToken). field_tokens j y ++ t) (more_fields (suc j) ys x rest)
    ∙ (ap (λ k. field_tokens j y ++ (fields_spelling (suc j) ys ++ (field_tokens k x ++ rest))) number
    ∙ sym (first_field j y ys (field_tokens (j + length (y ∷ ys)) x ++ rest))))
  where
    number : suc j + length ys ≡ j + length (y ∷ ys)
    number = omega arith

pub fields_first : (start : List CToken) → AreRead start [] start
fields_first start = record {
  parts = refl;
  every = λ whole behind e. record { more = whole; is = refl; spelled = e ∙ assoc (fields_spelling 0 whole) end_tokens behind };
}

pub one_longer : (xs : List CType) (x : CType) → length (xs ++ x ∷ []) ≡ suc (length xs)
one_longer [] x = refl
one_longer (y ∷ ys) x = ap suc (one_longer ys x)

assoc_one : (xs ys : List CType) (x : CType) → xs ++ x ∷ ys ≡ (xs ++ x ∷ []) ++ ys
assoc_one xs ys x = sym (append_assoc xs (x ∷ []) ys)

same_left : (xs ys zs : List CToken) → xs ++ ys ≡ xs ++ zs → ys ≡ zs
same_left [] ys zs e = e
same_left (x ∷ xs) ys zs e = same_left xs ys zs cc

pub fields_step : (start : List CToken) (read : List CType) (rest after : List CToken) (kind : CType) (n : ℕ)
    → AreRead start read rest → n ≡ length read → ((r : List CToken) → rest ≢ end_tokens ++ r) → rest ≡ field_tokens n kind ++ after
    → ReadsEvery (λ _. ⊤) (field_tokens n) rest (Some kind) → AreRead start (read ++ kind ∷ []) after
fields_step start read rest after kind n h number some e every = record { parts = parts; every = go }
  where
    at_number : rest ≡ field_tokens (length read) kind ++ after
    at_number = e ∙ ap (λ k. field_tokens k kind ++ after) number

    zero_add : field_tokens (length read) kind ≡ field_tokens (0 + length read) kind
    zero_add = ap (λ k. field_tokens k kind) (let same : length read ≡ 0 + length read = omega arith in same)

    parts : start ≡ fields_spelling 0 (read ++ kind ∷ []) ++ after
    parts =
        h.parts
        ∙ (ap (λ (t : List CToken). fields_spelling 0 read ++ t) (at_number ∙ ap (λ (t : List CToken). t ++ after) zero_add)
        ∙ sym (more_fields 0 read kind after))

    left : (whole more : List CType) (behind : List CToken) → whole ≡ read ++ more → rest ≡ fields_spelling (length read) more ++ (end_tokens ++ behind) → Remain (read ++ kind ∷ []) after behind whole
    left whole [] behind is told = absurd (some behind told)
    left whole (y ∷ ys) behind is told =
        let tail : List CToken = fields_spelling (suc (length read)) ys ++ (end_tokens ++ behind) in
        let at : rest ≡ field_tokens (length read) y ++ tail = told ∙ first_field (length read) y ys (end_tokens ++ behind) in
        let found : Some kind ≡ Some y = every y tail tt (at ∙ ap (λ k. field_tokens k y ++ tail) (sym number)) in
        let same : y ≡ kind = cc in
        let after_is : after ≡ tail = same_left (field_tokens (length read) kind) after tail (sym at_number ∙ (at ∙ ap (λ z. field_tokens (length read) z ++ tail) same)) in
        record {
          more = ys;
          is = is ∙ (ap (λ z. read ++ z ∷ ys) same ∙ assoc_one read ys kind);
          spelled = after_is ∙ ap (λ k. fields_spelling k ys ++ (end_tokens ++ behind)) (sym (one_longer read kind));
        }

    go : (whole : List CType) (behind : List CToken) → start ≡ fields_tokens whole ++ behind → Remain (read ++ kind ∷ []) after behind whole
    go whole behind k = let r = h.every whole behind k in left whole r.more behind r.is r.spelled

-- where a field is there and none can be read
pub no_field : (start : List CToken) (read : List CType) (rest : List CToken) (n : ℕ) (found : Option CType) → AreRead start read rest → n ≡ length read → found ≡ None
    → ((r : List CToken) → rest ≢ end_tokens ++ r) → ReadsEvery (λ _. ⊤) (field_tokens n) rest found
    → (whole : List CType) (behind : List CToken) → start ≡ fields_tokens whole ++ behind → ⊥
no_field start read rest n found h number none some every whole behind k = let r = h.every whole behind k in go r.more r.spelled
  where
    go : (more : List CType) → rest ≡ fields_spelling (length read) more ++ (end_tokens ++ behind) → ⊥
    go [] told = some behind told
    go (y ∷ ys) told =
        let tail : List CToken = fields_spelling (suc (length read)) ys ++ (end_tokens ++ behind) in
        let missed : found ≡ Some y = every y tail tt (told ∙ (first_field (length read) y ys (end_tokens ++ behind) ∙ ap (λ k. field_tokens k y ++ tail) (sym number))) in
        cc

-- where there is one field more than numbers
pub too_many : (start : List CToken) (read : List CType) (rest : List CToken) → AreRead start read rest → ((r : List CToken) → rest ≢ end_tokens ++ r)
    → (whole : List CType) (behind : List CToken) → start ≡ fields_tokens whole ++ behind → length read < length whole
too_many start read rest h some whole behind k = let r = h.every whole behind k in go r.more r.is r.spelled
  where
    go : (more : List CType) → whole ≡ read ++ more → rest ≡ fields_spelling (length read) more ++ (end_tokens ++ behind) → length read < length whole
    go [] is told = absurd (some behind told)
    go (y ∷ ys) is told = omega (arith, length-append read (y ∷ ys), ap length is)

no_end : (t : CType) (more rest : List CToken) → type_tokens t ++ more ≡ end_tokens ++ rest → ⊥
no_end type.SignedChar more rest e = cc
no_end type.UnsignedChar more rest e = cc
no_end type.Short more rest e = cc
no_end type.UnsignedShort more rest e = cc
no_end type.Int more rest e = cc
no_end type.UnsignedInt more rest e = cc
no_end type.Long more rest e = cc
no_end type.UnsignedLong more rest e = cc
no_end type.PySsizeT more rest e = cc
no_end type.Object more rest e = cc
no_end type.View more rest e = cc
no_end type.ThreadState more rest e = cc
no_end type.LockState more rest e = cc
no_end type.TypeObject more rest e = cc

pub fields_read : (start : List CToken) (read : List CType) (rest new : List CToken) → AreRead start read rest → rest ≡ end_tokens ++ new → start ≡ fields_tokens read ++ new
fields_read start read rest new h e = h.parts ∙ (ap (λ (t : List CToken). fields_spelling 0 read ++ t) e ∙ sym (assoc (fields_spelling 0 read) end_tokens new))

pub fields_end : (start : List CToken) (read : List CType) (rest new : List CToken) → AreRead start read rest → rest ≡ end_tokens ++ new
    → (whole : List CType) (behind : List CToken) → start ≡ fields_tokens whole ++ behind → read ≡ whole
fields_end start read rest new h e whole behind k = let r = h.every whole behind k in go r.more r.is r.spelled
  where
    append_nil : (xs : List CType) → xs ++ [] ≡ xs
    append_nil xs = grind (arith, common_steps)

    go : (more : List CType) → whole ≡ read ++ more → rest ≡ fields_spelling (length read) more ++ (end_tokens ++ behind) → read ≡ whole
    go [] is told = sym (is ∙ append_nil read)
    go (y ∷ ys) is told =
        let tail : List CToken = letter_token "f" (length read) ∷ sign ";" ∷ [] in
        let more : List CToken = fields_spelling (suc (length read)) ys ++ (end_tokens ++ behind) in
        absurd (no_end y (tail ++ more) new
        (ap (λ (t : List CToken). t ++ (tail ++ more)) (sym (spelled y))
        ∙ (sym (assoc (type_spelling y) tail more) ∙ (sym (first_field (length read) y ys (end_tokens ++ behind)) ∙ (sym told ∙ e)))))

pub moved : (start : List CToken) (read : List CType) (rest new : List CToken) → AreRead start read rest → new ≡ rest → AreRead start read new
moved start read rest new h e = let P : List CToken → Type 0 = λ z. AreRead start read z in subst P (sym e) h
