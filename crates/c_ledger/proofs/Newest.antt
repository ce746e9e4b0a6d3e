-- What is done to the newest frame, where the frames are numbered and where the newest comes first.
use Rattle.std.specs.Prelude.{◌≡◌, List, [], ◌∷◌, ◌++◌, ◌+◌, ◌-◌, length, take, drop, reverse, slice_get, slice_set, unwrap_or}
use Rattle.std.proofs.Common.{refl, sym, ap, ◌∙◌, subst, arith}
use Rattle.std.proofs.lemmas.List.{reverse-append, reverse-reverse, length-append, take_at, get_or_at, set_at}
use Rattle.std.proofs.lemmas.Option.{unwrap_or-slice_get}
use Rattle.c_ledger.specs.Ledger.{Account, Accounts, opened}
use Rattle.c_ledger.specs.Newest.{AreTogether, first_account, with_first}

-- a list is empty, or has a last item
ended : (P : List Account → Type 0) → P [] → ((xs : List Account) (a : Account) → P (xs ++ a ∷ [])) → (xs : List Account) → P xs
ended P none more xs = subst P (reverse-reverse xs) (front (reverse xs))
  where
    front : (bs : List Account) → P (reverse bs)
    front [] = none
    front (b ∷ bs) = subst P (sym (reverse-append (b ∷ []) bs)) (more (reverse bs) b)

last_number : (xs : List Account) (a : Account) → length xs ≡ length (xs ++ a ∷ []) - 1
last_number xs a = let e : length (xs ++ a ∷ []) ≡ length xs + 1 = length-append xs (a ∷ []) in omega arith

entered-is : (xs : List Account) (a : Account) → reverse (xs ++ a ∷ []) ≡ a ∷ reverse xs
entered-is xs a = reverse-append xs (a ∷ [])

abbrev Left : List Account → Type 0
Left xs = reverse (take (length xs - 1) xs) ≡ drop 1 (reverse xs)

left-is : (xs : List Account) → Left xs
left-is = ended Left refl
    (λ xs a. ap reverse (take_at xs (a ∷ []) (length (xs ++ a ∷ []) - 1) (last_number xs a)) ∙ ap (drop 1) (sym (entered-is xs a)))

abbrev IsNewest : List Account → Type 0
IsNewest xs = unwrap_or (slice_get xs (length xs - 1)) (opened []) ≡ first_account (reverse xs)

account-is : (xs : List Account) → IsNewest xs
account-is = ended IsNewest refl
    (λ xs a. unwrap_or-slice_get (xs ++ a ∷ []) (length (xs ++ a ∷ []) - 1) (opened [])
    ∙ (get_or_at xs a [] (opened []) (length (xs ++ a ∷ []) - 1) (last_number xs a) ∙ ap first_account (sym (entered-is xs a))))

abbrev IsChanged : Account → List Account → Type 0
IsChanged b xs = reverse (slice_set xs (length xs - 1) b) ≡ with_first (reverse xs) b

changed-is : (b : Account) (xs : List Account) → IsChanged b xs
changed-is b = ended (IsChanged b) refl
    (λ xs a. ap reverse (set_at xs a [] b (length (xs ++ a ∷ []) - 1) (last_number xs a))
    ∙ (entered-is xs b ∙ ap (λ bs. with_first bs b) (sym (entered-is xs a))))

pub are_together : (l : Accounts) → AreTogether l
are_together l = record {
  entered = λ lent. entered-is l.frames (opened lent);
  left = left-is l.frames;
  account = account-is l.frames;
  changed = λ a. changed-is a l.frames;
}
