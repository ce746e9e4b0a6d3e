use Rattle.std.proofs.Common.{◌≡◌, Some, ap, sym, ◌∙◌}
use Rattle.std.proofs.lemmas.Bool.Decides.{Decides-eqb}
use Rattle.std.proofs.lemmas.Slice.Eq.{slice_eq-Decides}
use Rattle.c_token.specs.declared.exception.Exception.TheVariants as exception
use Rattle.c_token.specs.declared.exception.Exception.{Exception}
use Rattle.c_tree.specs.Values.{exception_name}
use Rattle.c_word.proofs.Once.{exception_once, equal, not_equal}
use Rattle.c_word.proofs.names.exception.Goals as goal

pub returns-then-eq-clause-every : goal.returns-then-eq-clause-every
returns-then-eq-clause-every c = λ x e.
    ap Some (exception_once exception.BaseException x (sym c.as_slice.ensures ∙ (equal _ _ _ (slice_eq-Decides Decides-eqb _ _ _ c.eq.ensures) c.if-eq.true ∙ sym e)))

pub returns-then-eq-2-clause-every : goal.returns-then-eq-2-clause-every
returns-then-eq-2-clause-every c = λ x e.
    ap Some (exception_once exception.TypeError x (sym c.as_slice-2.ensures ∙ (equal _ _ _ (slice_eq-Decides Decides-eqb _ _ _ c.eq-2.ensures) c.if-eq-2.true ∙ sym e)))

pub returns-then-eq-3-clause-every : goal.returns-then-eq-3-clause-every
returns-then-eq-3-clause-every c = λ x e.
    ap Some (exception_once exception.NotImplementedError x (sym c.as_slice-3.ensures ∙ (equal _ _ _ (slice_eq-Decides Decides-eqb _ _ _ c.eq-3.ensures) c.if-eq-3.true ∙ sym e)))

pub returns-then-eq-4-clause-every : goal.returns-then-eq-4-clause-every
returns-then-eq-4-clause-every c = λ x e.
    ap Some (exception_once exception.OverflowError x (sym c.as_slice-4.ensures ∙ (equal _ _ _ (slice_eq-Decides Decides-eqb _ _ _ c.eq-4.ensures) c.if-eq-4.true ∙ sym e)))

pub returns-then-eq-5-clause-every : goal.returns-then-eq-5-clause-every
returns-then-eq-5-clause-every c = λ x e.
    ap Some (exception_once exception.ZeroDivisionError x (sym c.as_slice-5.ensures ∙ (equal _ _ _ (slice_eq-Decides Decides-eqb _ _ _ c.eq-5.ensures) c.if-eq-5.true ∙ sym e)))

pub returns-then-eq-6-clause-every : goal.returns-then-eq-6-clause-every
returns-then-eq-6-clause-every c = λ x e.
    ap Some (exception_once exception.ValueError x (sym c.as_slice-6.ensures ∙ (equal _ _ _ (slice_eq-Decides Decides-eqb _ _ _ c.eq-6.ensures) c.if-eq-6.true ∙ sym e)))

pub returns-then-eq-7-clause-every : goal.returns-then-eq-7-clause-every
returns-then-eq-7-clause-every c = λ x e.
    ap Some (exception_once exception.IndexError x (sym c.as_slice-7.ensures ∙ (equal _ _ _ (slice_eq-Decides Decides-eqb _ _ _ c.eq-7.ensures) c.if-eq-7.true ∙ sym e)))

pub returns-then-eq-8-clause-every : goal.returns-then-eq-8-clause-every
returns-then-eq-8-clause-every c = λ x e.
    ap Some (exception_once exception.AttributeError x (sym c.as_slice-8.ensures ∙ (equal _ _ _ (slice_eq-Decides Decides-eqb _ _ _ c.eq-8.ensures) c.if-eq-8.true ∙ sym e)))

pub returns-then-eq-9-clause-every : goal.returns-then-eq-9-clause-every
returns-then-eq-9-clause-every c = λ x e.
    ap Some (exception_once exception.SystemError x (sym c.as_slice-9.ensures ∙ (equal _ _ _ (slice_eq-Decides Decides-eqb _ _ _ c.eq-9.ensures) c.if-eq-9.true ∙ sym e)))

pub returns-then-eq-10-clause-every : goal.returns-then-eq-10-clause-every
returns-then-eq-10-clause-every c = λ x e.
    ap Some (exception_once exception.NameError x (sym c.as_slice-10.ensures ∙ (equal _ _ _ (slice_eq-Decides Decides-eqb _ _ _ c.eq-10.ensures) c.if-eq-10.true ∙ sym e)))

pub returns-then-eq-11-clause-every : goal.returns-then-eq-11-clause-every
returns-then-eq-11-clause-every c = λ x e.
    ap Some (exception_once exception.UnboundLocalError x (sym c.as_slice-11.ensures ∙ (equal _ _ _ (slice_eq-Decides Decides-eqb _ _ _ c.eq-11.ensures) c.if-eq-11.true ∙ sym e)))

none : (c : goal.Else-eq-11) → (x : Exception) → exception_name x ≡ c.args.bytes.now → ⊥
none c exception.BaseException e = not_equal _ _ _ _ (slice_eq-Decides Decides-eqb _ _ _ c.eq.ensures) c.if-eq.false c.as_slice.ensures e
none c exception.TypeError e = not_equal _ _ _ _ (slice_eq-Decides Decides-eqb _ _ _ c.eq-2.ensures) c.if-eq-2.false c.as_slice-2.ensures e
none c exception.NotImplementedError e = not_equal _ _ _ _ (slice_eq-Decides Decides-eqb _ _ _ c.eq-3.ensures) c.if-eq-3.false c.as_slice-3.ensures e
none c exception.OverflowError e = not_equal _ _ _ _ (slice_eq-Decides Decides-eqb _ _ _ c.eq-4.ensures) c.if-eq-4.false c.as_slice-4.ensures e
none c exception.ZeroDivisionError e = not_equal _ _ _ _ (slice_eq-Decides Decides-eqb _ _ _ c.eq-5.ensures) c.if-eq-5.false c.as_slice-5.ensures e
none c exception.ValueError e = not_equal _ _ _ _ (slice_eq-Decides Decides-eqb _ _ _ c.eq-6.ensures) c.if-eq-6.false c.as_slice-6.ensures e
none c exception.IndexError e = not_equal _ _ _ _ (slice_eq-Decides Decides-eqb _ _ _ c.eq-7.ensures) c.if-eq-7.false c.as_slice-7.ensures e
none c exception.AttributeError e = not_equal _ _ _ _ (slice_eq-Decides Decides-eqb _ _ _ c.eq-8.ensures) c.if-eq-8.false c.as_slice-8.ensures e
none c exception.SystemError e = not_equal _ _ _ _ (slice_eq-Decides Decides-eqb _ _ _ c.eq-9.ensures) c.if-eq-9.false c.as_slice-9.ensures e
none c exception.NameError e = not_equal _ _ _ _ (slice_eq-Decides Decides-eqb _ _ _ c.eq-10.ensures) c.if-eq-10.false c.as_slice-10.ensures e
none c exception.UnboundLocalError e = not_equal _ _ _ _ (slice_eq-Decides Decides-eqb _ _ _ c.eq-11.ensures) c.if-eq-11.false c.as_slice-11.ensures e

pub returns-clause-every : goal.returns-clause-every
returns-clause-every c = λ x e. absurd (none c x e)
