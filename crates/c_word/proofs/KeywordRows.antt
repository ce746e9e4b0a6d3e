-- A keyword is in one of the rows.
use Rattle.std.proofs.Common.{◌≡◌, ℕ, Bool, true, false, ◌||◌, List, [], ◌∷◌, ◌++◌, refl, sym, ap, ◌∙◌}
use Rattle.std.specs.List.{list_any}
use Rattle.std.specs.Str.{bytes_eq}
use Rattle.c_tree.specs.Forms.{is_keyword}
use Rattle.c_word.specs.Keywords.{first_row, second_row, third_row, fourth_row, fifth_row, sixth_row}

or_assoc : (a b c : Bool) → (a || b) || c ≡ a || (b || c)
or_assoc true b c = refl
or_assoc false b c = refl

any_append : (p : List ℕ → Bool) (xs ys : List (List ℕ)) → list_any p (xs ++ ys) ≡ (list_any p xs || list_any p ys)
any_append p [] ys = refl
any_append p (x ∷ xs) ys = ap (λ (t : Bool). p x || t) (any_append p xs ys) ∙ sym (or_assoc (p x) (list_any p xs) (list_any p ys))

either : (p : List ℕ → Bool) (xs ys : List (List ℕ)) (a b : Bool) → list_any p xs ≡ a → list_any p ys ≡ b → list_any p (xs ++ ys) ≡ (a || b)
either p xs ys a b h k = any_append p xs ys ∙ λ t. (h t || k t)

pub keyword_rows : (word : List ℕ) (a b c d e f : Bool) → list_any (bytes_eq word) first_row ≡ a → list_any (bytes_eq word) second_row ≡ b → list_any (bytes_eq word) third_row ≡ c
    → list_any (bytes_eq word) fourth_row ≡ d → list_any (bytes_eq word) fifth_row ≡ e → list_any (bytes_eq word) sixth_row ≡ f
    → is_keyword word ≡ (a || (b || (c || (d || (e || f)))))
keyword_rows word a b c d e f ha hb hc hd he hf =
    let p : List ℕ → Bool = bytes_eq word in
    either p first_row (second_row ++ (third_row ++ (fourth_row ++ (fifth_row ++ sixth_row)))) a (b || (c || (d || (e || f)))) ha
    (either p second_row (third_row ++ (fourth_row ++ (fifth_row ++ sixth_row))) b (c || (d || (e || f))) hb
    (either p third_row (fourth_row ++ (fifth_row ++ sixth_row)) c (d || (e || f)) hc
    (either p fourth_row (fifth_row ++ sixth_row) d (e || f) hd
    (either p fifth_row sixth_row e f he hf))))
