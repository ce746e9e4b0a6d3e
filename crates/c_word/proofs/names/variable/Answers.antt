use Rattle.std.proofs.Common.{◌≡◌, Some, ap, sym, ◌∙◌}
use Rattle.std.proofs.lemmas.Bool.Decides.{Decides-eqb}
use Rattle.std.proofs.lemmas.Slice.Eq.{slice_eq-Decides}
use Rattle.c_tree.specs.declared.name.Variable.TheVariants as variable
use Rattle.c_tree.specs.declared.name.Variable.{Variable}
use Rattle.c_tree.specs.Names.{variable_name}
use Rattle.c_tree.specs.Forms.{IsVariable}
use Rattle.c_word.proofs.Once.{variable_once, equal, not_equal}
use Rattle.c_word.proofs.names.variable.Goals as goal

pub returns-in-Some-clause-every : goal.returns-in-Some-clause-every
returns-in-Some-clause-every c = λ x form e.
    ap Some (variable_once (variable.Parameter c.in-Some.number) x c.in-Some.ensures.some.0 form (c.in-Some.ensures.some.1 ∙ sym e))

pub returns-in-Some-lettered-clause-every : goal.returns-in-Some-lettered-clause-every
returns-in-Some-lettered-clause-every c = λ x form e.
    ap Some (variable_once (variable.Local c.in-Some-lettered.number) x c.in-Some-lettered.ensures.some.0 form (c.in-Some-lettered.ensures.some.1 ∙ sym e))

pub returns-in-Some-lettered-2-clause-every : goal.returns-in-Some-lettered-2-clause-every
returns-in-Some-lettered-2-clause-every c = λ x form e.
    ap Some (variable_once (variable.Temporary c.in-Some-lettered-2.number) x c.in-Some-lettered-2.ensures.some.0 form (c.in-Some-lettered-2.ensures.some.1 ∙ sym e))

pub returns-then-eq-clause-every : goal.returns-then-eq-clause-every
returns-then-eq-clause-every c = λ x form e.
    ap Some (variable_once variable.Returned x tt form (sym c.as_slice.ensures ∙ (equal _ _ _ (slice_eq-Decides Decides-eqb _ _ _ c.eq.ensures) c.if-eq.true ∙ sym e)))

pub returns-in-Some-fixed-clause-every : goal.returns-in-Some-fixed-clause-every
returns-in-Some-fixed-clause-every c = λ x form e.
    ap Some (variable_once (variable.Fixed c.in-Some-fixed.parameter) x tt form (c.in-Some-fixed.ensures.some ∙ sym e))

pub returns-in-Some-place-clause-every : goal.returns-in-Some-place-clause-every
returns-in-Some-place-clause-every c = λ x form e.
    ap Some (variable_once (variable.Place c.in-Some-place.place) x c.in-Some-place.ensures.some.0 form (c.in-Some-place.ensures.some.1 ∙ sym e))

none : (c : goal.In_default-place) → (x : Variable) → IsVariable x → variable_name x ≡ c.args.bytes.now → ⊥
none c (variable.Parameter j) h e = c.in_default.not-Some j (c.lettered.ensures.every j h e)
none c (variable.Local j) h e = c.in_default-lettered.not-Some j (c.lettered-2.ensures.every j h e)
none c (variable.Temporary j) h e = c.in_default-lettered-2.not-Some j (c.lettered-3.ensures.every j h e)
none c variable.Returned h e = not_equal _ _ _ _ (slice_eq-Decides Decides-eqb _ _ _ c.eq.ensures) c.if-eq.false c.as_slice.ensures e
none c (variable.Fixed x) h e = c.in_default-fixed.not-Some x (c.fixed.ensures.every x e)
none c (variable.Place x) h e = c.in_default-place.not-Some x (c.place.ensures.every x h e)

pub returns-clause-every : goal.returns-clause-every
returns-clause-every c = λ x h e. absurd (none c x h e)
