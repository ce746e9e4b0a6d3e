-- Each piece takes at least a byte and ends between two characters.
use Rattle.std.proofs.Common.{◌≡◌, ℕ, suc, zero, ◌+◌, ◌-◌, ◌<◌, ◌≤◌, ◌⊎◌, inl, inr, Bool, true, false, cond, not, ◌&&◌, ◌||◌, eqb, ltb, eq-eqb, List, [], ◌∷◌, ◌++◌, length, take, drop, get_or, refl, sym, ap, lit<, length-append, ◌∙◌, subst, arith}
use Rattle.std.specs.Prelude.{chars, encode_utf8, encode_utf8_all, slice_index, nat_eq}
use Rattle.std.specs.Char.{is_digit, is_ascii_digit}
use Rattle.std.specs.List.{prefix_len, list_all, starts_with}
use Rattle.std.specs.Str.{IsUtf8, IsCharBoundary, all_scalars}
use Rattle.unicode_ident.specs.Ident.{is_xid_start, is_xid_continue}
use Rattle.unicode_ident.proofs.IdentLemmas.{is_xid_start-is_xid_continue, is_xid_continue-ascii}
use Rattle.std.proofs.lemmas.Bool.{cases_lt, cases_Bool, or_cases}
use Rattle.std.proofs.lemmas.Bool.Decides.{nat_tests, Decides-eqb}
use Rattle.std.proofs.lemmas.List.{length-take-le, take-append-drop, length-drop, get_or-drop}
use Rattle.std.proofs.lemmas.List.Prefix.{front_reads}
use Rattle.std.proofs.lemmas.Slice.Eq.{starts_is}
use Rattle.std.proofs.lemmas.List.Sums.{prefix_len-le-length, prefix_len_passes}
use Rattle.std.proofs.lemmas.Str.{IsCharBoundary-after_ascii, IsCharBoundary-before_ascii, IsCharBoundary-end, IsCharBoundary-start, IsCharBoundary-at_seam, IsCharBoundary-from_rest, IsUtf8-drop, encodes-append, encodes-chars, scalars-chars, length-encode, len_utf8_bounds}
use Rattle.pyx_lex.specs.Blanks.{is_blank, blanks, line_end_len, is_line_end, line_len}
use Rattle.pyx_lex.specs.Names.{starts_name, first_passes, begins_name, name_at}
use Rattle.pyx_lex.specs.declared.piece.Piece.{Piece}
use Rattle.pyx_lex.specs.Pieces.{first_len, piece_at, blanks_piece, backslash_piece, comment_piece, number_piece, name_piece, string_piece, sign_piece}
use Rattle.pyx_lex.specs.Signs.{begins_with, signs_of_three, signs_of_two, is_one, sign_len}
use Rattle.pyx_lex.specs.declared.string.Opening.{Opening}
use Rattle.pyx_lex.specs.Strings.{is_quote, is_prefix, begins_string, are_three, opening_at, closing_len, closes, stops, takes_next, inside_len, inside_of, behind_inside, is_closed, string_len}
use Rattle.pyx_lex.specs.Numbers.{digits_len, prefix_base, has_base, number_base, number_prefix, number_digits, number_len}

cut_after : (text : List ℕ) (n : ℕ) → IsUtf8 text → 0 < n → n ≤ length text → get_or text (n - 1) 0 < 128 → IsCharBoundary text n
cut_after text n utf8 pos le ascii =
    let e : n - 1 + 1 ≡ n = omega arith in
    subst (IsCharBoundary text) e (IsCharBoundary-after_ascii text (n - 1) utf8 (omega arith) ascii)

-- a byte that isn't 0 stands in the text
pub in_text : (text : List ℕ) (i : ℕ) → 0 < get_or text i 0 → i < length text
in_text [] i h = absurd (omega arith)
in_text (b ∷ rest) zero h = omega arith
in_text (b ∷ rest) (suc i) h = omega (arith, in_text rest i h)

pub byte_is : (b c : ℕ) → eqb b c ≡ true → b ≡ c
byte_is b c h = grind (arith, nat_tests)

and_left : (a b : Bool) → (a && b) ≡ true → a ≡ true
and_left true b h = refl
and_left false b h = h

and_right : (a b : Bool) → (a && b) ≡ true → b ≡ true
and_right true b h = h
and_right false b h = absurd (cc)

-- the place behind a byte that is c
pub cut_behind : (text : List ℕ) (i c : ℕ) → IsUtf8 text → eqb (get_or text i 0) c ≡ true → 0 < c → c < 128 → IsCharBoundary text (i + 1)
cut_behind text i c utf8 h pos small =
    let e : get_or text i 0 ≡ c = byte_is (get_or text i 0) c h in
    IsCharBoundary-after_ascii text i utf8 (in_text text i (omega arith)) (omega arith)

-- the first byte behind a place
pub first_behind : (text : List ℕ) (n : ℕ) → get_or (drop n text) 0 0 ≡ get_or text n 0
first_behind text n = let e : n + 0 ≡ n = omega arith in get_or-drop n text 0 0 ∙ ap (λ i. get_or text i 0) e

-- ---- blanks

blank_ascii : (b : ℕ) → is_blank b ≡ true → b < 128
blank_ascii b h = grind (arith, nat_tests)

pub blanks_cut : (text : List ℕ) → IsUtf8 text → IsCharBoundary text (length (blanks text))
blanks_cut text utf8 =
    let n : ℕ = prefix_len is_blank text in
    let le : n ≤ length text = prefix_len-le-length is_blank text in
    let same : length (blanks text) ≡ n = length-take-le n text le in
    subst (IsCharBoundary text) (sym same) (go n le refl)
  where
    go : (n : ℕ) → n ≤ length text → n ≡ prefix_len is_blank text → IsCharBoundary text n
    go zero le e = IsCharBoundary-start text utf8
    go (suc k) le e =
        cut_after text (suc k) utf8 (omega arith) le (blank_ascii _ (prefix_len_passes is_blank text (suc k - 1) 0 (omega arith)))

pub blanks_some : (text : List ℕ) → is_blank (slice_index text 0) ≡ true → 0 < length text → 0 < length (blanks text)
blanks_some [] h some = absurd (omega arith)
blanks_some (b ∷ rest) h some =
    let n : ℕ = prefix_len is_blank (b ∷ rest) in
    let step : n ≡ 1 + prefix_len is_blank rest = rw h refl in
    omega (arith, length-take-le n (b ∷ rest) (prefix_len-le-length is_blank (b ∷ rest)))

-- ---- line ends

pub line_end_cut : (text : List ℕ) → IsUtf8 text → IsCharBoundary text (line_end_len text)
line_end_cut text utf8 = go (eqb (get_or text 0 0) 10) refl
  where
    two : (t : Bool) → (eqb (get_or text 0 0) 13 && eqb (get_or text 1 0) 10) ≡ t → IsCharBoundary text (cond t 2 0)
    two true h = cut_behind text 1 10 utf8 (and_right _ _ h) (omega arith) (omega arith)
    two false h = IsCharBoundary-start text utf8

    go : (t : Bool) → eqb (get_or text 0 0) 10 ≡ t → IsCharBoundary text (cond t 1 (cond (eqb (get_or text 0 0) 13 && eqb (get_or text 1 0) 10) 2 0))
    go true h = cut_behind text 0 10 utf8 h (omega arith) (omega arith)
    go false h = two (eqb (get_or text 0 0) 13 && eqb (get_or text 1 0) 10) refl

-- a line end begins with an ASCII byte
line_end_ascii : (text : List ℕ) → is_line_end text ≡ true → get_or text 0 0 < 128
line_end_ascii text h = grind (arith, nat_tests)

line_len_le : (text : List ℕ) → line_len text ≤ length text
line_len_le [] = omega arith
line_len_le (b ∷ rest) = go (is_line_end (b ∷ rest)) (line_len_le rest)
  where
    go : (t : Bool) → line_len rest ≤ length rest → cond t 0 (1 + line_len rest) ≤ suc (length rest)
    go true le = omega arith
    go false le = omega arith

line_len_stops : (text : List ℕ) → line_len text < length text → is_line_end (drop (line_len text) text) ≡ true
line_len_stops [] lt = absurd (omega arith)
line_len_stops (b ∷ rest) lt = go (is_line_end (b ∷ rest)) refl (line_len_stops rest) lt
  where
    go : (t : Bool) → is_line_end (b ∷ rest) ≡ t → (line_len rest < length rest → is_line_end (drop (line_len rest) rest) ≡ true)
        → cond t 0 (1 + line_len rest) < length (b ∷ rest) → is_line_end (drop (cond t 0 (1 + line_len rest)) (b ∷ rest)) ≡ true
    go true h more lt = h
    go false h more lt = let one : 1 + line_len rest ≡ suc (line_len rest) = omega arith in rw one (more (omega arith))

pub line_cut : (text : List ℕ) → IsUtf8 text → IsCharBoundary text (line_len text)
line_cut text utf8 = go (cases_lt (line_len text) (length text))
  where
    go : (line_len text < length text) ⊎ (length text ≤ line_len text) → IsCharBoundary text (line_len text)
    go (inr le) = subst (IsCharBoundary text) (same_len le) (IsCharBoundary-end text)
      where
        same_len : length text ≤ line_len text → length text ≡ line_len text
        same_len le = omega (arith, line_len_le text)
    go (inl lt) = IsCharBoundary-before_ascii text (line_len text) lt (subst (λ b. b < 128) (first_behind text (line_len text)) (line_end_ascii (drop (line_len text) text) (line_len_stops text lt)))

-- ---- numbers

digit_ascii : (b base : ℕ) → base ≤ 36 → is_digit b base ≡ true → b < 128
digit_ascii b base small h = grind (arith, nat_tests)

digits_len_le : (base : ℕ) (text : List ℕ) → digits_len base text ≤ length text
digits_len_le base [] = omega arith
digits_len_le base (b ∷ rest) = go (is_digit b base || (eqb b 95 && is_digit (get_or rest 0 0) base)) (digits_len_le base rest)
  where
    go : (t : Bool) → digits_len base rest ≤ length rest → cond t (1 + digits_len base rest) 0 ≤ suc (length rest)
    go true le = omega arith
    go false le = omega arith

-- each byte of a run of digits is ASCII
digits_ascii : (base : ℕ) (text : List ℕ) (i : ℕ) → base ≤ 36 → i < digits_len base text → get_or text i 0 < 128
digits_ascii base [] i small lt = absurd (omega arith)
digits_ascii base (b ∷ rest) i small lt = go (cases_Bool (is_digit b base || (eqb b 95 && is_digit (get_or rest 0 0) base))) i lt (λ j. digits_ascii base rest j small)
  where
    run_byte : (is_digit b base || (eqb b 95 && is_digit (get_or rest 0 0) base)) ≡ true → b < 128
    run_byte h = grind (arith, nat_tests)

    go : ((is_digit b base || (eqb b 95 && is_digit (get_or rest 0 0) base)) ≡ true) ⊎ ((is_digit b base || (eqb b 95 && is_digit (get_or rest 0 0) base)) ≡ false)
        → (i : ℕ) → i < digits_len base (b ∷ rest) → ((j : ℕ) → j < digits_len base rest → get_or rest j 0 < 128) → get_or (b ∷ rest) i 0 < 128
    go (inl h) zero lt more = run_byte h
    go (inl h) (suc j) lt more = more j (let step : digits_len base (b ∷ rest) ≡ 1 + digits_len base rest = rw h refl in omega arith)
    go (inr h) j lt more = absurd (let step : digits_len base (b ∷ rest) ≡ 0 = rw h refl in omega arith)

base_small : (text : List ℕ) → number_base text ≤ 36
base_small text = grind (arith, nat_tests)

prefix_small : (text : List ℕ) → number_prefix text ≤ 2
prefix_small text = grind (arith, nat_tests)

-- behind the digits of a number
pub number_cut : (text : List ℕ) → IsUtf8 text → 0 < number_digits text → IsCharBoundary text (number_len text)
number_cut text utf8 some = go (number_base text) (number_prefix text) (base_small text) some
  where
    go : (base prefix : ℕ) → base ≤ 36 → 0 < digits_len base (drop prefix text) → IsCharBoundary text (prefix + digits_len base (drop prefix text))
    go base prefix small some =
        let digits : ℕ = digits_len base (drop prefix text) in
        let le : digits ≤ length (drop prefix text) = digits_len_le base (drop prefix text) in
        let ascii : get_or (drop prefix text) (digits - 1) 0 < 128 = digits_ascii base (drop prefix text) (digits - 1) small (omega arith) in
        let at : prefix + (digits - 1) ≡ prefix + digits - 1 = omega arith in
        cut_after text (prefix + digits) utf8 (omega arith) (omega (arith, length-drop prefix text))
        (subst (λ i. get_or text i 0 < 128) at (subst (λ b. b < 128) (get_or-drop prefix text (digits - 1) 0) ascii))

digits_begin : (base b : ℕ) (rest : List ℕ) → is_digit b base ≡ true → 0 < digits_len base (b ∷ rest)
digits_begin base b rest h =
    let step : digits_len base (b ∷ rest) ≡ 1 + digits_len base rest = rw h refl in omega arith

-- a number that begins with a digit has digits
pub number_some : (text : List ℕ) → is_ascii_digit (slice_index text 0) ≡ true → 0 < number_digits text
number_some [] h = absurd (cc)
number_some (b ∷ rest) h = go (has_base (b ∷ rest)) refl
  where
    plain : (t : Bool) → eqb b 48 ≡ t → 0 < digits_len (cond t 1 10) (b ∷ rest)
    plain true e = digits_begin 1 b rest (grind (arith, nat_tests))
    plain false e = digits_begin 10 b rest (grind (arith, nat_tests))

    go : (t : Bool) → has_base (b ∷ rest) ≡ t
        → 0 < digits_len (cond t (prefix_base (b ∷ rest)) (cond (eqb b 48) 1 10)) (drop (cond t 2 0) (b ∷ rest))
    go true e =
        let some : ltb 0 (digits_len (prefix_base (b ∷ rest)) (drop 2 (b ∷ rest))) ≡ true = and_right _ _ e in
        grind (arith, nat_tests)
    go false e = plain (eqb b 48) refl

-- ---- names

scalars_append : (xs ys : List ℕ) → all_scalars (xs ++ ys) ≡ true → all_scalars ys ≡ true
scalars_append [] ys h = h
scalars_append (x ∷ xs) ys h = scalars_append xs ys (and_right _ _ h)

-- behind some characters of a text
pub chars_cut : (text : List ℕ) (n : ℕ) → IsUtf8 text → IsCharBoundary text (length (encode_utf8_all (take n (chars text))))
chars_cut text n utf8 =
    let cs : List ℕ = chars text in
    let parts : text ≡ encode_utf8_all (take n cs) ++ encode_utf8_all (drop n cs) =
    sym (encodes-chars text utf8) ∙ (ap encode_utf8_all (sym (take-append-drop n cs)) ∙ encodes-append (take n cs) (drop n cs)) in
    let fine : all_scalars (drop n cs) ≡ true =
    scalars_append (take n cs) (drop n cs) (ap all_scalars (take-append-drop n cs) ∙ scalars-chars text utf8) in
    IsCharBoundary-at_seam text (encode_utf8_all (take n cs)) (encode_utf8_all (drop n cs)) parts (drop n cs, (fine, refl))

first_bytes : (n c : ℕ) (cs : List ℕ) → 0 < n → 0 < length (encode_utf8_all (take n (c ∷ cs)))
first_bytes zero c cs pos = absurd (omega arith)
first_bytes (suc n) c cs pos =
    omega (arith, length-append (encode_utf8 c) (encode_utf8_all (take n cs)), length-encode c, (len_utf8_bounds c).0)

start_continues : (c : ℕ) → starts_name c ≡ true → is_xid_continue c ≡ true
start_continues c h = go (or_cases (is_xid_start c) (eqb c 95) h)
  where
    go : (is_xid_start c ≡ true) ⊎ (eqb c 95 ≡ true) → is_xid_continue c ≡ true
    go (inl s) = is_xid_start-is_xid_continue c s
    go (inr e) = ap is_xid_continue (byte_is c 95 e) ∙ is_xid_continue-ascii 95 (lit< tt)

pub name_some : (text : List ℕ) → begins_name text ≡ true → 0 < length (name_at text)
name_some text h = go (chars text) refl h
  where
    go : (cs : List ℕ) → chars text ≡ cs → first_passes starts_name cs ≡ true → 0 < length (encode_utf8_all (take (prefix_len is_xid_continue cs) cs))
    go [] e h = absurd (cc)
    go (c ∷ cs) e h =
        first_bytes (prefix_len is_xid_continue (c ∷ cs)) c cs
        (let step : prefix_len is_xid_continue (c ∷ cs) ≡ 1 + prefix_len is_xid_continue cs = rw (start_continues c h) refl in omega arith)

pub first_some : (text : List ℕ) → IsUtf8 text → 0 < length text → 0 < first_len text
first_some text utf8 some = go (chars text) refl
  where
    go : (cs : List ℕ) → chars text ≡ cs → 0 < length (encode_utf8_all (take 1 cs))
    go [] e = absurd (let none : text ≡ [] = sym (encodes-chars text utf8) ∙ ap encode_utf8_all e in omega (arith, ap length none))
    go (c ∷ cs) e = first_bytes 1 c cs (lit< tt)

-- ---- signs

-- the signs of a table have this length and end in an ASCII byte
abbrev fits_sign : ℕ → List ℕ → Bool
fits_sign n sign = eqb (length sign) n && (ltb (get_or sign (n - 1) 0) 128 && ltb 0 (get_or sign (n - 1) 0))

abbrev AreSigns : ℕ → List (List ℕ) → Type 0
AreSigns n signs = list_all (fits_sign n) signs ≡ true

sign_fits : (n : ℕ) (sign : List ℕ) → fits_sign n sign ≡ true → (length sign ≡ n) × (get_or sign (n - 1) 0 < 128) × (0 < get_or sign (n - 1) 0)
sign_fits n sign h = (grind (arith, nat_tests), grind (arith, nat_tests), grind (arith, nat_tests))

sign_byte : (n : ℕ) (text : List ℕ) (signs : List (List ℕ)) → 0 < n → AreSigns n signs → begins_with text signs ≡ true
    → (get_or text (n - 1) 0 < 128) × (0 < get_or text (n - 1) 0)
sign_byte n text [] pos are h = absurd (cc)
sign_byte n text (sign ∷ signs) pos are h =
    go (or_cases (starts_with nat_eq text sign) (begins_with text signs) h) (sign_byte n text signs pos (and_right _ _ are))
  where
    go : (starts_with nat_eq text sign ≡ true) ⊎ (begins_with text signs ≡ true)
        → (begins_with text signs ≡ true → (get_or text (n - 1) 0 < 128) × (0 < get_or text (n - 1) 0))
        → (get_or text (n - 1) 0 < 128) × (0 < get_or text (n - 1) 0)
    go (inr h) more = more h
    go (inl h) more =
        let fits = sign_fits n sign (and_left _ _ are) in
        let front : text ≡ sign ++ drop (length sign) text = (starts_is Decides-eqb text sign _ refl).0 h in
        let same : get_or text (n - 1) 0 ≡ get_or sign (n - 1) 0 = front_reads 0 text sign (drop (length sign) text) front (n - 1) (omega (arith, fits.0)) in
        (omega (arith, same, fits.1), omega (arith, same, fits.2))

sign_cut_at : (n : ℕ) (text : List ℕ) → IsUtf8 text → 0 < n → (get_or text (n - 1) 0 < 128) × (0 < get_or text (n - 1) 0) → IsCharBoundary text n
sign_cut_at n text utf8 pos byte = cut_after text n utf8 pos (omega (arith, in_text text (n - 1) byte.1)) byte.0

one_byte : (b : ℕ) → is_one b ≡ true → (b < 128) × (0 < b)
one_byte b h = (grind (arith, nat_tests), grind (arith, nat_tests))

pub sign_cut : (text : List ℕ) → IsUtf8 text → IsCharBoundary text (sign_len text)
unfolding sign_len
sign_cut text utf8 = go (begins_with text signs_of_three) refl
  where
    one : (t : Bool) → is_one (get_or text 0 0) ≡ t → IsCharBoundary text (cond t 1 0)
    one true h = sign_cut_at 1 text utf8 (lit< tt) (one_byte (get_or text 0 0) h)
    one false h = IsCharBoundary-start text utf8

    two : (t : Bool) → begins_with text signs_of_two ≡ t → IsCharBoundary text (cond t 2 (cond (is_one (get_or text 0 0)) 1 0))
    two true h = sign_cut_at 2 text utf8 (lit< tt) (sign_byte 2 text signs_of_two (lit< tt) refl h)
    two false h = one (is_one (get_or text 0 0)) refl

    go : (t : Bool) → begins_with text signs_of_three ≡ t → IsCharBoundary text (cond t 3 (cond (begins_with text signs_of_two) 2 (cond (is_one (get_or text 0 0)) 1 0)))
    go true h = sign_cut_at 3 text utf8 (lit< tt) (sign_byte 3 text signs_of_three (lit< tt) refl h)
    go false h = two (begins_with text signs_of_two) refl

-- ---- strings

quote_small : (b : ℕ) → is_quote b ≡ true → (b < 128) × (0 < b)
quote_small b h = (grind (arith, nat_tests), grind (arith, nat_tests))

-- the quote of an opening stands there
pub opening_quote : (text : List ℕ) → begins_string text ≡ true
    → (is_quote (opening_at text).quote ≡ true) × (eqb (get_or text ((opening_at text).len - 1) 0) (opening_at text).quote ≡ true) × (0 < (opening_at text).len)
opening_quote text h = go (is_quote (get_or text 0 0)) refl
  where
    at : (prefix : ℕ) (triple : Bool) → are_three (get_or text prefix 0) (drop prefix text) ≡ triple
        → (eqb (get_or text (prefix + cond triple 3 1 - 1) 0) (get_or text prefix 0) ≡ true) × (0 < prefix + cond triple 3 1)
    at prefix true e =
        let third : eqb (get_or (drop prefix text) 2 0) (get_or text prefix 0) ≡ true = and_right _ _ (and_right _ _ e) in
        let place : prefix + 2 ≡ prefix + 3 - 1 = omega arith in
        (subst (λ i. eqb (get_or text i 0) (get_or text prefix 0) ≡ true) place (subst (λ b. eqb b (get_or text prefix 0) ≡ true) (get_or-drop prefix text 2 0) third), omega arith)
    at prefix false e =
        let place : prefix ≡ prefix + 1 - 1 = omega arith in
        (subst (λ i. eqb (get_or text i 0) (get_or text prefix 0) ≡ true) place (eq-eqb (get_or text prefix 0) (get_or text prefix 0) refl), omega arith)

    second : is_quote (get_or text 0 0) ≡ false → is_quote (get_or text 1 0) ≡ true
    second none =
        elim (or_cases (is_quote (get_or text 0 0)) (is_prefix (get_or text 0 0) && is_quote (get_or text 1 0)) h) [
          | inl e ↦ absurd (cc)
          | inr e ↦ and_right _ _ e
        ]

    go : (t : Bool) → is_quote (get_or text 0 0) ≡ t
        → (is_quote (get_or text (cond t 0 1) 0) ≡ true)
        × (eqb (get_or text (cond t 0 1 + cond (are_three (get_or text (cond t 0 1) 0) (drop (cond t 0 1) text)) 3 1 - 1) 0) (get_or text (cond t 0 1) 0) ≡ true)
        × (0 < cond t 0 1 + cond (are_three (get_or text (cond t 0 1) 0) (drop (cond t 0 1) text)) 3 1)
    go true e = let p = at 0 (are_three (get_or text 0 0) (drop 0 text)) refl in (e, p.0, p.1)
    go false e = let p = at 1 (are_three (get_or text 1 0) (drop 1 text)) refl in (second e, p.0, p.1)

inside_len_le : (o : Opening) (taken : Bool) (text : List ℕ) → inside_len o taken text ≤ length text
inside_len_le o taken [] = omega arith
inside_len_le o taken (b ∷ rest) = go (not taken && stops o (b ∷ rest)) (inside_len_le o (takes_next o taken b) rest)
  where
    go : (t : Bool) → inside_len o (takes_next o taken b) rest ≤ length rest
        → cond t 0 (1 + inside_len o (takes_next o taken b) rest) ≤ suc (length rest)
    go true le = omega arith
    go false le = omega arith

inside_stops : (o : Opening) (taken : Bool) (text : List ℕ) → inside_len o taken text < length text
    → stops o (drop (inside_len o taken text) text) ≡ true
inside_stops o taken [] lt = absurd (omega arith)
inside_stops o taken (b ∷ rest) lt =
    go (not taken && stops o (b ∷ rest)) refl (inside_stops o (takes_next o taken b) rest) lt
  where
    n : ℕ
    n = inside_len o (takes_next o taken b) rest

    go : (t : Bool) → (not taken && stops o (b ∷ rest)) ≡ t
        → (inside_len o (takes_next o taken b) rest < length rest → stops o (drop (inside_len o (takes_next o taken b) rest) rest) ≡ true)
        → cond t 0 (1 + inside_len o (takes_next o taken b) rest) < length (b ∷ rest)
        → stops o (drop (cond t 0 (1 + inside_len o (takes_next o taken b) rest)) (b ∷ rest)) ≡ true
    go true h more lt = and_right _ _ h
    go false h more lt =
        let one : 1 + inside_len o (takes_next o taken b) rest ≡ suc (inside_len o (takes_next o taken b) rest) = omega arith in
        rw one (more (omega arith))

-- the quotes that close a string begin with its quote
closes_first : (o : Opening) (text : List ℕ) → closes o text ≡ true → eqb (get_or text 0 0) o.quote ≡ true
closes_first o text h = go o.triple h
  where
    go : (t : Bool) → cond t (are_three o.quote text) (eqb (get_or text 0 0) o.quote) ≡ true → eqb (get_or text 0 0) o.quote ≡ true
    go true h = and_left _ _ h
    go false h = h

closes_last : (o : Opening) (text : List ℕ) → closes o text ≡ true → eqb (get_or text (closing_len o - 1) 0) o.quote ≡ true
closes_last o text h = go o.triple h
  where
    go : (t : Bool) → cond t (are_three o.quote text) (eqb (get_or text 0 0) o.quote) ≡ true → eqb (get_or text (cond t 3 1 - 1) 0) o.quote ≡ true
    go true h = and_right _ _ (and_right _ _ h)
    go false h = h

-- what stops a string begins with an ASCII byte
stops_ascii : (o : Opening) (text : List ℕ) → is_quote o.quote ≡ true → stops o text ≡ true → get_or text 0 0 < 128
stops_ascii o text q h = go (or_cases (closes o text) (not o.triple && eqb (get_or text 0 0) 10) h)
  where
    go : (closes o text ≡ true) ⊎ ((not o.triple && eqb (get_or text 0 0) 10) ≡ true) → get_or text 0 0 < 128
    go (inl c) = omega (arith, byte_is (get_or text 0 0) o.quote (closes_first o text c), (quote_small o.quote q).0)
    go (inr c) = omega (arith, byte_is (get_or text 0 0) 10 (and_right _ _ c))

-- behind the opening quotes, and behind the inside
pub opening_cut : (text : List ℕ) → IsUtf8 text → begins_string text ≡ true → IsCharBoundary text (opening_at text).len
opening_cut text utf8 h =
    let q = opening_quote text h in
    let small = quote_small (opening_at text).quote q.0 in
    let last : get_or text ((opening_at text).len - 1) 0 ≡ (opening_at text).quote = byte_is _ _ q.1 in
    cut_after text (opening_at text).len utf8 q.2
    (omega (arith, in_text text ((opening_at text).len - 1) (omega arith))) (omega arith)

abbrev pub behind_opening : List ℕ → List ℕ
behind_opening text = drop (opening_at text).len text

abbrev pub inside_bytes : List ℕ → ℕ
inside_bytes text = inside_len (opening_at text) false (behind_opening text)

pub inside_cut : (text : List ℕ) → IsUtf8 text → begins_string text ≡ true → IsCharBoundary text ((opening_at text).len + inside_bytes text)
inside_cut text utf8 h = go (cases_lt (inside_bytes text) (length (behind_opening text)))
  where
    go : (inside_bytes text < length (behind_opening text)) ⊎ (length (behind_opening text) ≤ inside_bytes text)
        → IsCharBoundary text ((opening_at text).len + inside_bytes text)
    go (inl lt) =
        let ascii = stops_ascii (opening_at text) (drop (inside_bytes text) (behind_opening text)) (opening_quote text h).0 (inside_stops (opening_at text) false (behind_opening text) lt) in
        let place : get_or (drop (inside_bytes text) (behind_opening text)) 0 0 ≡ get_or text ((opening_at text).len + inside_bytes text) 0 =
        first_behind (behind_opening text) (inside_bytes text) ∙ get_or-drop (opening_at text).len text (inside_bytes text) 0 in
        IsCharBoundary-before_ascii text ((opening_at text).len + inside_bytes text) (omega (arith, length-drop (opening_at text).len text)) (omega arith)
    go (inr le) =
        let len : (opening_at text).len ≤ length text = (opening_cut text utf8 h).0 in
        let same : length text ≡ (opening_at text).len + inside_bytes text =
        omega (arith, length-drop (opening_at text).len text, inside_len_le (opening_at text) false (behind_opening text)) in
        subst (IsCharBoundary text) same (IsCharBoundary-end text)

behind_sum : (a i n c : ℕ) → n ≡ i → 0 < c → a + (i + (c - 1)) + 1 ≡ a + n + c
behind_sum a i n c same pos = omega arith

closing_some : (o : Opening) → 0 < closing_len o
closing_some o = elim o.triple as (λ t. 0 < cond t 3 1) [ true ↦ omega arith | false ↦ omega arith ]

pub string_cut : (text : List ℕ) → IsUtf8 text → begins_string text ≡ true → IsCharBoundary text (string_len text)
string_cut text utf8 h = go (is_closed text) refl
  where
    inside : length (inside_of text) ≡ inside_bytes text
    inside = length-take-le (inside_bytes text) (behind_opening text) (inside_len_le (opening_at text) false (behind_opening text))

    go : (t : Bool) → is_closed text ≡ t
        → IsCharBoundary text ((opening_at text).len + length (inside_of text) + cond t (closing_len (opening_at text)) 0)
    go true e =
        let o : Opening = opening_at text in
        let small = quote_small o.quote (opening_quote text h).0 in
        let last : eqb (get_or (behind_inside text) (closing_len o - 1) 0) o.quote ≡ true = closes_last o (behind_inside text) (and_right _ _ e) in
        let place : get_or (behind_inside text) (closing_len o - 1) 0 ≡ get_or text (o.len + (inside_bytes text + (closing_len o - 1))) 0 =
        get_or-drop (inside_bytes text) (behind_opening text) (closing_len o - 1) 0 ∙ get_or-drop o.len text (inside_bytes text + (closing_len o - 1)) 0 in
        let same : o.len + (inside_bytes text + (closing_len o - 1)) + 1 ≡ o.len + length (inside_of text) + closing_len o =
        behind_sum o.len (inside_bytes text) (length (inside_of text)) (closing_len o) inside (closing_some o) in
        subst (IsCharBoundary text) same
        (cut_behind text (o.len + (inside_bytes text + (closing_len o - 1))) o.quote utf8 (subst (λ b. eqb b o.quote ≡ true) place last) small.1 small.0)
    go false e =
        let same : (opening_at text).len + inside_bytes text ≡ (opening_at text).len + length (inside_of text) + 0 = omega (arith, inside) in
        subst (IsCharBoundary text) same (inside_cut text utf8 h)

-- ---- pieces

-- the piece takes a byte at least, and the text may be cut behind it
abbrev pub IsCut : List ℕ → Piece → Type 0
IsCut text p = IsCharBoundary text p.len × (0 < p.len)

pick : (text : List ℕ) (t : Bool) (x y : Piece) → (t ≡ true → IsCut text x) → (t ≡ false → IsCut text y) → IsCut text (cond t x y)
pick text true x y holds fails = holds refl
pick text false x y holds fails = fails refl

line_end_some : (text : List ℕ) → is_line_end text ≡ true → 0 < line_end_len text
line_end_some text h = grind (arith, nat_tests)

backslash_cut : (text : List ℕ) → IsUtf8 text → eqb (get_or text 0 0) 92 ≡ true → IsCut text (backslash_piece text)
unfolding backslash_piece
backslash_cut text utf8 h =
    let one : IsCharBoundary text 1 = cut_behind text 0 92 utf8 h (lit< tt) (lit< tt) in
    pick text (is_line_end (drop 1 text)) _ _
    (λ e. (IsCharBoundary-from_rest text 1 (line_end_len (drop 1 text)) one.0 (line_end_cut (drop 1 text) (IsUtf8-drop text 1 utf8 one)), omega arith))
    (λ e. (one, lit< tt))

comment_some : (text : List ℕ) → 0 < length text → is_line_end text ≡ false → 0 < line_len text
comment_some [] some h = absurd (omega arith)
comment_some (b ∷ rest) some h = let step : line_len (b ∷ rest) ≡ 1 + line_len rest = rw h refl in omega arith

not_true : (t : Bool) → not t ≡ false → t ≡ true
not_true true h = refl
not_true false h = sym h

sign_or_stray : (text : List ℕ) → IsUtf8 text → 0 < length text → IsCut text (sign_piece text)
unfolding sign_piece
sign_or_stray text utf8 some =
    pick text (eqb (sign_len text) 0) _ _
    (λ h. (chars_cut text 1 utf8, first_some text utf8 some))
    (λ h. (sign_cut text utf8, grind (arith, nat_tests)))

pub piece_cut : (broken after_name : Bool) (text : List ℕ) → IsUtf8 text → 0 < length text → IsCut text (piece_at broken after_name text)
unfolding piece_at blanks_piece comment_piece number_piece name_piece string_piece
piece_cut broken after_name text utf8 some =
    pick text (is_blank (get_or text 0 0)) _ _ (λ h. (blanks_cut text utf8, blanks_some text h some)) (λ no_blank.
    pick text (is_line_end text) _ _ (λ h. (line_end_cut text utf8, line_end_some text h)) (λ no_end.
    pick text (eqb (get_or text 0 0) 92) _ _ (λ h. backslash_cut text utf8 h) (λ no_backslash.
    pick text (eqb (get_or text 0 0) 35) _ _ (λ h. (line_cut text utf8, comment_some text some no_end)) (λ no_comment.
    pick text (begins_string text) _ _ (λ h. (string_cut text utf8 h, omega (arith, (opening_quote text h).2))) (λ no_string.
    pick text (is_ascii_digit (get_or text 0 0)) _ _
    (λ h. let digits = number_some text h in (number_cut text utf8 digits, omega arith)) (λ no_number.
    pick text (begins_name text) _ _ (λ h. (chars_cut text (prefix_len is_xid_continue (chars text)) utf8, name_some text h)) (λ no_name.
    sign_or_stray text utf8 some)))))))
