-- What an insertion into the map of a store does to the bytes of each name.
use Rattle.std.proofs.Common.{◌≡◌, ◌≢◌, ◌∙◌, ap, subst, sym, ℕ, Bool, true, false, List, Some, option_map, Vec}
use Rattle.std.proofs.lemmas.Bool.{cases_Bool}
use Rattle.std.proofs.lemmas.Map.Text.{is_eq-slice_cmp}
use Rattle.std.proofs.lemmas.Slice.Eq.{bytes_eq-Decides}
use Rattle.std.specs.BTreeMap.{BTreeMap, Updates, get_by}
use Rattle.std.specs.Cmp.{eq_by_cmp_equiv}
use Rattle.std.specs.Cmp.Lexicographic.{slice_cmp, nat_list_cmp_total}
use Rattle.std.specs.Map.{lookup, IsKeyTest, AreApart, KeepsOthers}
use Rattle.std.specs.Ordering.{is_eq, nat_cmp}
use Rattle.std.specs.declared.alloc.Global.{Global}
use Rattle.std.specs.declared.cmp.Ordering.{Ordering}
use Rattle.cy_io.specs.Told.{FileMap, IsWritten}
use mathlib.Core.Logic.{⊎_elim}

other_entries : {K X : Type 0} (eq : K → K → Bool) (test : K → Bool) (old new : List (K × X)) → KeepsOthers eq test old new
    → (other : K → Bool) → IsKeyTest eq other → AreApart test other → lookup other new ≡ lookup other old
unfolding KeepsOthers
other_entries eq test old new h = h

not_equal : (xs ys : List ℕ) → xs ≢ ys → is_eq (slice_cmp nat_cmp xs ys) ≡ false
not_equal xs ys apart = ⊎_elim
    (λ y. absurd (apart ((bytes_eq-Decides xs ys).0 (sym (is_eq-slice_cmp xs ys) ∙ y))))
    (λ n. n)
    (cases_Bool (is_eq (slice_cmp nat_cmp xs ys)))

is_equal : (xs ys : List ℕ) → is_eq (slice_cmp nat_cmp xs ys) ≡ true → xs ≡ ys
is_equal xs ys y = (bytes_eq-Decides xs ys).0 (sym (is_eq-slice_cmp xs ys) ∙ y)

abbrev pub in_order : Vec ℕ Global → Vec ℕ Global → Ordering
in_order x y = slice_cmp nat_cmp x.items y.items

abbrev pub bytes_of : BTreeMap (Vec ℕ Global) (Vec ℕ Global) → FileMap
bytes_of m = λ name. option_map (λ file. file.items) (get_by (λ key. slice_cmp nat_cmp name key.items) m)

pub written : (m n : BTreeMap (Vec ℕ Global) (Vec ℕ Global)) (k v : Vec ℕ Global) → Updates in_order m n k (Some v)
    → (name bytes : List ℕ) → k.items ≡ name → v.items ≡ bytes → IsWritten name bytes (bytes_of m) (bytes_of n)
written m n k v h name bytes named held = (
  subst (λ l. bytes_of n l ≡ Some bytes) named (ap (option_map (λ file. file.items)) h.1 ∙ ap Some held),
  λ other apart. ap (option_map (λ file. file.items)) (other_entries _ _ _ _ h.3 _
      (λ x y. (eq_by_cmp_equiv nat_list_cmp_total).congr other x.items y.items)
      (λ key y. not_equal other key.items (λ e. apart (e ∙ sym (is_equal k.items key.items y) ∙ named)))),
)
