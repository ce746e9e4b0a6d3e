-- Lists with a separator between their items, and lists of which only so many items may stand.
use Rattle.std.specs.Prelude.{ℕ, zero, suc, Bool, true, false, List, [], ◌∷◌}
use Rattle.forms.specs.Forms.{Form, Set, one, both, nothing, or, many, over}
use Rattle.forms.specs.Readers.{Reader, cons, read_one, read_both, read_or, read_nothing, read_turned, read_one_more, read_many, refuse}

abbrev pub second : {A B : Type 0} → A → B → B
second a b = b

abbrev pub first : {A B : Type 0} → A → B → A
first a b = a

abbrev pub pair : {A B : Type 0} → A → B → A × B
pair a b = (a, b)

abbrev pub itself : {T : Type 0} → T → T
itself x = x

-- items, and whether a separator stands behind the last
abbrev pub Row : Type 0 → Type 0
Row A = List A × Bool

abbrev pub push : {A : Type 0} → A → Row A → Row A
push x row = (x ∷ row.0, row.1)

-- ---- {',' x} [',']

abbrev pub yes : {T : Type 0} → T → Bool
yes x = true

unfoldable pub trail : {T A : Type 0} → Set T → Form T A → Form T (Row A)
trail sep L = both pair (many (both second (one sep itself) L)) (or (one sep yes) (nothing false))

-- [',' [x ..]], where what follows x is given
abbrev pub trailed : {T A : Type 0} → Set T → Form T A → Form T (Row A) → Form T (Row A)
trailed sep L K = or (both second (one sep itself) (or (both push L K) (nothing ([], true)))) (nothing ([], false))

-- {',' x} [','] with at most n more x; a further one passes the limit at its first token
unfoldable pub trail_upto : {T A : Type 0} → ℕ → Set T → (T → ℕ) → Form T A → Form T (Row A)
trail_upto zero sep number L = trailed sep (over number L) (trail sep L)
trail_upto (suc n) sep number L = trailed sep L (trail_upto n sep number L)

abbrev pub read_trailed : {T A : Type 0} → Set T → Set T → Reader T A → Reader T (Row A) → Reader T (Row A)
read_trailed sep b p q = read_or sep (read_both second (read_one sep itself) (read_or b (read_both push p q) (read_nothing ([], true)))) (read_nothing ([], false))

unfoldable pub read_trail : {T A : Type 0} → Set T → Set T → Reader T A → Reader T (Row A)
read_trail sep b p = read_turned (read_trailed sep b p) ([], false)

unfoldable pub read_trail_upto : {T A : Type 0} → ℕ → Set T → Set T → (T → ℕ) → Reader T A → Reader T (Row A)
read_trail_upto zero sep b number p = read_trailed sep b (refuse b number) (read_trail sep b p)
read_trail_upto (suc n) sep b number p = read_trailed sep b p (read_trail_upto n sep b number p)

-- ---- {x}, with at most n of them; a further one passes the limit

abbrev pub one_more : {T A : Type 0} → Form T A → Form T (List A) → Form T (List A)
one_more L K = or (both cons L K) (nothing [])

-- {x} with at most n of the one form, and then of the other, which passes a limit
unfoldable pub many_upto : {T A : Type 0} → ℕ → Form T A → Form T A → Form T (List A)
many_upto zero L M = one_more M (many L)
many_upto (suc n) L M = one_more L (many_upto n L M)

unfoldable pub read_many_upto : {T A : Type 0} → ℕ → Set T → Reader T A → Reader T A → Reader T (List A)
read_many_upto zero b p q = read_one_more b q (read_many b p)
read_many_upto (suc n) b p q = read_one_more b p (read_many_upto n b p q)
