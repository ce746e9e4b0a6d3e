-- What a script entry answers to an operation. The object space is the project's own.
--
-- | Operations                                                          | Fit answers                                    |
-- | binary and in-place, unary, comparisons, getattr, getitem, iter,    | ok: the object                                 |
-- | call, and what makes a number, text, tuple, list, dict or module    |                                                |
-- | view                                                                | a view that fits: the next view                |
-- | alloc                                                               | made: the next instance                        |
-- | next, dictget                                                       | ok: the object; missing: nothing is there      |
-- | dict                                                                | ok: the object; it never fails: else Foreign 0 |
-- | setattr, delattr, setitem, delitem, dictset, dictdel, ready,        |                                                |
-- | addobject                                                           | any number: 0                                  |
-- | aslong, asulong                                                     | a number of I64, of U64                        |
-- | istrue, contains, isinstance                                        | 0 or 1                                         |
-- | matches, isclass, native                                            | any number, not 0 is 1; never fails: else 0    |
-- | fail                                                                | ok, raise: the object; else Foreign 0          |
-- | unraisable                                                          | anything                                       |
--
-- Where an operation can fail, `raise` raises its object, and an entry that doesn't fit counts as a raise of Foreign 0.
use Rattle.std.specs.Prelude.{ℕ, Bool, ◌&&◌, ◌||◌, List, ◌∷◌, ℤ, pos, negsuc, ◌+◌, ◌*◌, length, nat_eq, nat_le, nat_lt, nat_abs, int_le, if◌then◌else◌}
use Rattle.std.specs.List.{list_all}
use Rattle.std.specs.Ordering.{int_eq}
use Rattle.api_model.specs.declared.object.Obj.{Obj}
use Rattle.api_model.specs.declared.object.Obj.TheVariants as obj
use Rattle.api_model.specs.declared.info.Info.{Info}
use Rattle.api_model.specs.declared.entry.Entry.{Entry}
use Rattle.api_model.specs.declared.entry.Entry.TheVariants as entry
use Rattle.api_model.specs.declared.op.Op.{Op}
use Rattle.api_model.specs.declared.op.Op.TheVariants as op
use Rattle.api_model.specs.declared.op.Answer.{Answer}
use Rattle.api_model.specs.declared.op.Answer.TheVariants as answers
use Rattle.api_model.specs.declared.answers.Fits.{Fits}
use Rattle.api_model.specs.declared.answers.Fits.TheVariants as fits

-- the rows of the table above
abbrev pub fits_of : Op → Fits
fits_of (op.Binary b x y) = fits.AnObject
fits_of (op.InPlace b x y) = fits.AnObject
fits_of (op.Unary u x) = fits.AnObject
fits_of (op.GetAttr x name) = fits.AnObject
fits_of (op.GetItem x key) = fits.AnObject
fits_of (op.Iter x) = fits.AnObject
fits_of (op.Compare c x y) = fits.AnObject
fits_of (op.Call f xs) = fits.AnObject
fits_of (op.Make m) = fits.AnObject
fits_of (op.View x) = fits.NextView
fits_of (op.Alloc class) = fits.NextInstance
fits_of (op.Next x) = fits.ObjectOrMissing
fits_of (op.DictGet d key) = fits.ObjectOrMissing
fits_of (op.Dict m) = fits.SureObject
fits_of (op.Change c) = fits.Zero
fits_of (op.AsLong x) = fits.Signed
fits_of (op.AsUlong x) = fits.Unsigned
fits_of (op.IsTrue x) = fits.Bit
fits_of (op.Contains x y) = fits.Bit
fits_of (op.IsInstance x c) = fits.Bit
fits_of (op.Matches x c) = fits.SureBit
fits_of (op.IsClass x) = fits.SureBit
fits_of (op.Native x name) = fits.SureBit
fits_of (op.Fail x text) = fits.Thrown
fits_of op.Unraisable = fits.Anything

-- what a script names: an instance or a view that isn't made yet reads as None
abbrev pub read_obj : ℕ → ℕ → Obj → Obj
read_obj instances views (obj.Inst k) = if nat_lt k instances then obj.Inst k else obj.NoneNode
read_obj instances views (obj.View k) = if nat_lt k views then obj.View k else obj.NoneNode
read_obj instances views o = o

-- from 0 to 2^60
abbrev pub is_length : ℤ → Bool
is_length n = int_le (pos 0) n && int_le n (pos 1152921504606846976)

-- from -2^60 to 2^60
abbrev pub is_stride : ℤ → Bool
is_stride n = int_le (negsuc 1152921504606846975) n && int_le n (pos 1152921504606846976)

-- the sum of the lengths, each times its stride's size
abbrev pub reach : List ℤ → List ℤ → ℕ
reach (n ∷ lengths) (s ∷ strides) = nat_abs n * nat_abs s + reach lengths strides
reach _ _ = 0

-- whether both lists are of one length, from 1 to 8
abbrev pub has_dimensions : ℕ → ℕ → Bool
has_dimensions lengths strides = nat_eq lengths strides && (nat_le 1 lengths && nat_le lengths 8)

-- Whether an entry fits that makes a view with this buffer. Its letter belongs to the form of the entry, and is not
-- asked here.
abbrev pub is_view : Info → Bool
is_view i =
    (nat_le i.item 1048576 && has_dimensions (length i.shape) (length i.strides))
    && (list_all is_length i.shape && (list_all is_stride i.strides && nat_le (reach i.shape i.strides) 1152921504606846976))

-- from -2^63 to 2^63 - 1
abbrev pub in_i64 : ℤ → Bool
in_i64 n = int_le (negsuc 9223372036854775807) n && int_le n (pos 9223372036854775807)

-- from 0 to 2^64 - 1
abbrev pub in_u64 : ℤ → Bool
in_u64 n = int_le (pos 0) n && int_le n (pos 18446744073709551615)

abbrev pub is_bit : ℤ → Bool
is_bit n = int_eq n (pos 0) || int_eq n (pos 1)

abbrev pub foreign_0 : Obj
foreign_0 = obj.Foreign 0

-- an entry that doesn't fit: the default of what never fails, else a raise of Foreign 0
abbrev pub unfit : Fits → Answer
unfit fits.SureObject = answers.Object foreign_0
unfit fits.SureBit = answers.Number (pos 0)
unfit fits.Thrown = answers.Object foreign_0
unfit fits.Anything = answers.Plain
unfit f = answers.Raised foreign_0

-- `ok` with an object
abbrev pub given : Fits → Obj → Answer
given fits.AnObject o = answers.Object o
given fits.ObjectOrMissing o = answers.Object o
given fits.SureObject o = answers.Object o
given fits.Thrown o = answers.Object o
given f o = unfit f

-- `raise` with an object
abbrev pub raised : Fits → Obj → Answer
raised fits.SureObject o = unfit fits.SureObject
raised fits.SureBit o = unfit fits.SureBit
raised fits.Thrown o = answers.Object o
raised fits.Anything o = answers.Plain
raised f o = answers.Raised o

-- `num` with a number
abbrev pub counted : Fits → ℤ → Answer
counted fits.Zero n = answers.Number (pos 0)
counted fits.Signed n = if in_i64 n then answers.Number n else unfit fits.Signed
counted fits.Unsigned n = if in_u64 n then answers.Number n else unfit fits.Unsigned
counted fits.Bit n = if is_bit n then answers.Number n else unfit fits.Bit
counted fits.SureBit n = if int_eq n (pos 0) then answers.Number (pos 0) else answers.Number (pos 1)
counted f n = unfit f

-- `missing`
abbrev pub absent : Fits → Answer
absent fits.ObjectOrMissing = answers.Missing
absent f = unfit f

-- `made`, with the number of instances made so far
abbrev pub built : Fits → ℕ → Answer
built fits.NextInstance instances = answers.Object (obj.Inst instances)
built f instances = unfit f

-- `view`, with the number of views made so far
abbrev pub viewed : Fits → Info → ℕ → Answer
viewed fits.NextView i views = if is_view i then answers.Object (obj.View views) else unfit fits.NextView
viewed f i views = unfit f

abbrev pub answer_by : Fits → Entry → ℕ → ℕ → Answer
answer_by f (entry.OkNode o) instances views = given f (read_obj instances views o)
answer_by f (entry.Num n) instances views = counted f n
answer_by f (entry.Raise o) instances views = raised f (read_obj instances views o)
answer_by f entry.Missing instances views = absent f
answer_by f entry.Made instances views = built f instances
answer_by f (entry.View i) instances views = viewed f i views
answer_by f e instances views = unfit f

-- what an entry answers to an operation, with the numbers of instances and of views made so far
abbrev pub answer_of : Op → Entry → ℕ → ℕ → Answer
answer_of o e instances views = answer_by (fits_of o) e instances views
