use Rattle.std.proofs.Common.{◌≡◌, Some, ap, sym, ◌∙◌}
use Rattle.std.proofs.lemmas.Bool.Decides.{Decides-eqb}
use Rattle.std.proofs.lemmas.Slice.Eq.{slice_eq-Decides}
use Rattle.c_tree.specs.declared.name.Place.TheVariants as place
use Rattle.c_tree.specs.declared.name.Place.{Place}
use Rattle.c_tree.specs.Names.{place_name}
use Rattle.c_tree.specs.Forms.{IsPlace}
use Rattle.c_word.proofs.Once.{place_once, equal, not_equal}
use Rattle.c_word.proofs.names.place.Goals as goal

pub returns-in-Some-clause-every : goal.returns-in-Some-clause-every
returns-in-Some-clause-every c = λ x form e.
    ap Some (place_once (place.Constant c.in-Some.number) x c.in-Some.ensures.some.0 form (c.in-Some.ensures.some.1 ∙ sym e))

pub returns-in-Some-lettered-clause-every : goal.returns-in-Some-lettered-clause-every
returns-in-Some-lettered-clause-every c = λ x form e.
    ap Some (place_once (place.Global c.in-Some-lettered.number) x c.in-Some-lettered.ensures.some.0 form (c.in-Some-lettered.ensures.some.1 ∙ sym e))

pub returns-then-eq-clause-every : goal.returns-then-eq-clause-every
returns-then-eq-clause-every c = λ x form e.
    ap Some (place_once place.Module x tt form (sym c.as_slice.ensures ∙ (equal _ _ _ (slice_eq-Decides Decides-eqb _ _ _ c.eq.ensures) c.if-eq.true ∙ sym e)))

pub returns-then-eq-2-clause-every : goal.returns-then-eq-2-clause-every
returns-then-eq-2-clause-every c = λ x form e.
    ap Some (place_once place.Dictionary x tt form (sym c.as_slice-2.ensures ∙ (equal _ _ _ (slice_eq-Decides Decides-eqb _ _ _ c.eq-2.ensures) c.if-eq-2.true ∙ sym e)))

pub returns-then-eq-3-clause-every : goal.returns-then-eq-3-clause-every
returns-then-eq-3-clause-every c = λ x form e.
    ap Some (place_once place.Builtins x tt form (sym c.as_slice-3.ensures ∙ (equal _ _ _ (slice_eq-Decides Decides-eqb _ _ _ c.eq-3.ensures) c.if-eq-3.true ∙ sym e)))

pub returns-then-eq-4-clause-every : goal.returns-then-eq-4-clause-every
returns-then-eq-4-clause-every c = λ x form e.
    ap Some (place_once place.Ready x tt form (sym c.as_slice-4.ensures ∙ (equal _ _ _ (slice_eq-Decides Decides-eqb _ _ _ c.eq-4.ensures) c.if-eq-4.true ∙ sym e)))

none : (c : goal.Else-eq-4) → (x : Place) → IsPlace x → place_name x ≡ c.args.bytes.now → ⊥
none c (place.Constant j) h e = c.in_default.not-Some j (c.lettered.ensures.every j h e)
none c (place.Global j) h e = c.in_default-lettered.not-Some j (c.lettered-2.ensures.every j h e)
none c place.Module h e = not_equal _ _ _ _ (slice_eq-Decides Decides-eqb _ _ _ c.eq.ensures) c.if-eq.false c.as_slice.ensures e
none c place.Dictionary h e = not_equal _ _ _ _ (slice_eq-Decides Decides-eqb _ _ _ c.eq-2.ensures) c.if-eq-2.false c.as_slice-2.ensures e
none c place.Builtins h e = not_equal _ _ _ _ (slice_eq-Decides Decides-eqb _ _ _ c.eq-3.ensures) c.if-eq-3.false c.as_slice-3.ensures e
none c place.Ready h e = not_equal _ _ _ _ (slice_eq-Decides Decides-eqb _ _ _ c.eq-4.ensures) c.if-eq-4.false c.as_slice-4.ensures e

pub returns-clause-every : goal.returns-clause-every
returns-clause-every c = λ x h e. absurd (none c x h e)
