-- Each operation has an answer that it can have, whatever the entry is.
use Rattle.std.specs.Prelude.{ℕ, Bool, true, false, ℤ, pos, ◌≡◌, if◌then◌else◌}
use Rattle.std.specs.Ordering.{int_eq}
use Rattle.std.proofs.Common.{refl}
use Rattle.api_model.specs.declared.object.Obj.{Obj}
use Rattle.api_model.specs.declared.object.Obj.TheVariants as obj
use Rattle.api_model.specs.declared.info.Info.{Info}
use Rattle.api_model.specs.declared.entry.Entry.{Entry}
use Rattle.api_model.specs.declared.entry.Entry.TheVariants as entry
use Rattle.api_model.specs.declared.op.Op.{Op}
use Rattle.api_model.specs.declared.op.Answer.TheVariants as answers
use Rattle.api_model.specs.declared.answers.Fits.{Fits}
use Rattle.api_model.specs.declared.answers.Fits.TheVariants as fits
use Rattle.api_model.specs.Answers.{in_i64, in_u64, is_bit, is_view, read_obj, unfit, given, raised, counted, absent, built, viewed, answer_by, answer_of, fits_of}
use Rattle.api_model.specs.InForm.{can_answer}

unfit_fits : (f : Fits) → can_answer f (unfit f) ≡ true
unfit_fits fits.AnObject = refl
unfit_fits f = refl

given_fits : (f : Fits) (o : Obj) → can_answer f (given f o) ≡ true
given_fits fits.AnObject o = refl
given_fits f o = refl

raised_fits : (f : Fits) (o : Obj) → can_answer f (raised f o) ≡ true
raised_fits fits.AnObject o = refl
raised_fits f o = refl

absent_fits : (f : Fits) → can_answer f (absent f) ≡ true
absent_fits fits.AnObject = refl
absent_fits f = refl

built_fits : (f : Fits) (instances : ℕ) → can_answer f (built f instances) ≡ true
built_fits fits.AnObject instances = refl
built_fits f instances = refl

-- a number that was tested, or a raise
tested : (f : Fits) (n : ℤ) (b : Bool) → can_answer f (answers.Number n) ≡ b → can_answer f (unfit f) ≡ true
    → can_answer f (if b then answers.Number n else unfit f) ≡ true
tested f n true h k = h
tested f n false h k = k

counted_fits : (f : Fits) (n : ℤ) → can_answer f (counted f n) ≡ true
counted_fits fits.Signed n = tested fits.Signed n (in_i64 n) refl refl
counted_fits fits.Unsigned n = tested fits.Unsigned n (in_u64 n) refl refl
counted_fits fits.Bit n = tested fits.Bit n (is_bit n) refl refl
counted_fits fits.SureBit n =
    elim (int_eq n (pos 0)) as (λ b. can_answer fits.SureBit (if b then answers.Number (pos 0) else answers.Number (pos 1)) ≡ true) [ true ↦ refl | false ↦ refl ]
counted_fits f n = refl

viewed_fits : (f : Fits) (i : Info) (views : ℕ) → can_answer f (viewed f i views) ≡ true
viewed_fits fits.NextView i views =
    elim (is_view i) as (λ b. can_answer fits.NextView (if b then answers.Object (obj.View views) else unfit fits.NextView) ≡ true) [ true ↦ refl | false ↦ refl ]
viewed_fits f i views = refl

by_fits : (f : Fits) (e : Entry) (instances views : ℕ) → can_answer f (answer_by f e instances views) ≡ true
by_fits f (entry.OkNode o) instances views = given_fits f (read_obj instances views o)
by_fits f (entry.Num n) instances views = counted_fits f n
by_fits f (entry.Raise o) instances views = raised_fits f (read_obj instances views o)
by_fits f entry.Missing instances views = absent_fits f
by_fits f entry.Made instances views = built_fits f instances
by_fits f (entry.View i) instances views = viewed_fits f i views
by_fits f e instances views = unfit_fits f

pub answer_fits : (o : Op) (e : Entry) (instances views : ℕ) → can_answer (fits_of o) (answer_of o e instances views) ≡ true
answer_fits o e instances views = by_fits (fits_of o) e instances views
