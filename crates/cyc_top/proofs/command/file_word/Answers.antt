use Rattle.std.proofs.Common.{◌≡◌, ◌<◌, ◌≤◌, List, [], ◌∷◌, length, get_or, arith, sym, ◌∙◌, codes}
use Rattle.std.proofs.lemmas.Slice.Eq.{bytes_eq-Decides}
use Rattle.cyc_top.proofs.command.file_word.Goals as goal

two_items : {X : Type 0} (xs : List X) (a b : X) → 2 ≤ length xs → length xs < 3 → a ≡ get_or xs 0 a → b ≡ get_or xs 1 b → xs ≡ a ∷ b ∷ []
two_items [] a b some few p q = absurd (omega arith)
two_items (x ∷ []) a b some few p q = absurd (omega arith)
two_items (x ∷ y ∷ []) a b some few p q = cc
two_items (x ∷ y ∷ z ∷ zs) a b some few p q = absurd (omega arith)

pub returns-then-eq-clause-found : goal.returns-then-eq-clause-found
returns-then-eq-clause-found c =
    let two = two_items c.args.words.now c.name-item.result c.file-item.result (omega arith) (omega arith) c.name-item.is c.file-item.is in
    let name = (bytes_eq-Decides c.as_str.result.now (codes "build")).0 (sym c.eq.ensures ∙ c.if-eq.true) in
    let file = c.as_bytes.ensures.value in
    let text = c.as_str.ensures.value in
    rw two cc
