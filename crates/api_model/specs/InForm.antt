-- Which answers an operation can have at all.
use Rattle.std.specs.Prelude.{Bool, true, false, ℤ, pos}
use Rattle.std.specs.Ordering.{int_eq}
use Rattle.api_model.specs.declared.op.Answer.{Answer}
use Rattle.api_model.specs.declared.op.Answer.TheVariants as answers
use Rattle.api_model.specs.declared.answers.Fits.{Fits}
use Rattle.api_model.specs.declared.answers.Fits.TheVariants as fits
use Rattle.api_model.specs.Answers.{in_i64, in_u64, is_bit}

-- a number that an operation can give
abbrev pub can_count : Fits → ℤ → Bool
can_count fits.Zero n = int_eq n (pos 0)
can_count fits.Signed n = in_i64 n
can_count fits.Unsigned n = in_u64 n
can_count fits.Bit n = is_bit n
can_count fits.SureBit n = is_bit n
can_count f n = false

-- whether it can give an object
abbrev pub can_give : Fits → Bool
can_give fits.AnObject = true
can_give fits.NextView = true
can_give fits.NextInstance = true
can_give fits.ObjectOrMissing = true
can_give fits.SureObject = true
can_give fits.Thrown = true
can_give f = false

-- whether it can raise
abbrev pub can_raise : Fits → Bool
can_raise fits.SureObject = false
can_raise fits.SureBit = false
can_raise fits.Thrown = false
can_raise fits.Anything = false
can_raise f = true

-- whether it can find nothing
abbrev pub can_miss : Fits → Bool
can_miss fits.ObjectOrMissing = true
can_miss f = false

-- whether its answer says nothing
abbrev pub is_plain : Fits → Bool
is_plain fits.Anything = true
is_plain f = false

-- whether it can have the answer
abbrev pub can_answer : Fits → Answer → Bool
can_answer f (answers.Object o) = can_give f
can_answer f (answers.Number n) = can_count f n
can_answer f answers.Missing = can_miss f
can_answer f (answers.Raised o) = can_raise f
can_answer f answers.Plain = is_plain f
