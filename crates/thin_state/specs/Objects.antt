-- Objects, what a script entry answers to an operation, and what the operation comes to. The object space is the project's own.
use Rattle.std.specs.Prelude.{ℕ, Bool, true, false, ◌&&◌, List, [], ◌∷◌, nat_eq, nat_lt, if◌then◌else◌}
use Rattle.std.specs.Str.{bytes_eq}
use Rattle.c_token.specs.declared.exception.Exception.{Exception}
use Rattle.c_token.specs.declared.exception.Exception.TheVariants as exception
use Rattle.thin_state.specs.declared.space.Obj.{Obj}
use Rattle.thin_state.specs.declared.space.Obj.TheVariants as obj
use Rattle.thin_state.specs.declared.space.Entry.{Entry}
use Rattle.thin_state.specs.declared.space.Entry.TheVariants as entry
use Rattle.thin_state.specs.declared.space.Op.{Op}
use Rattle.thin_state.specs.declared.space.Op.TheVariants as op
use Rattle.thin_state.specs.declared.space.Answer.{Answer}
use Rattle.thin_state.specs.declared.space.Answer.TheVariants as answers

-- exception types by number
abbrev pub exception_number : Exception → ℕ
exception_number exception.BaseException = 0
exception_number exception.TypeError = 1
exception_number exception.NotImplementedError = 2
exception_number exception.OverflowError = 3
exception_number exception.ZeroDivisionError = 4
exception_number exception.ValueError = 5
exception_number exception.IndexError = 6
exception_number exception.AttributeError = 7
exception_number exception.SystemError = 8
exception_number exception.NameError = 9
exception_number exception.UnboundLocalError = 10

-- whether two objects are one
abbrev pub same_obj : Obj → Obj → Bool
same_obj (obj.Foreign k) (obj.Foreign j) = nat_eq k j
same_obj (obj.Inst k) (obj.Inst j) = nat_eq k j
same_obj (obj.View k) (obj.View j) = nat_eq k j
same_obj (obj.Class a) (obj.Class b) = bytes_eq a.module b.module && bytes_eq a.class b.class
same_obj (obj.ExceptionType a) (obj.ExceptionType b) = nat_eq (exception_number a) (exception_number b)
same_obj obj.NoneNode obj.NoneNode = true
same_obj obj.TrueNode obj.TrueNode = true
same_obj obj.FalseNode obj.FalseNode = true
same_obj _ _ = false

-- objects that are never released: None, True, False, exception types and class objects
abbrev pub permanent : Obj → Bool
permanent obj.NoneNode = true
permanent obj.TrueNode = true
permanent obj.FalseNode = true
permanent (obj.ExceptionType e) = true
permanent (obj.Class c) = true
permanent _ = false

-- what a script names: an instance or view that isn't made yet reads as None
abbrev pub read_obj : ℕ → ℕ → Obj → Obj
read_obj instances views (obj.Inst k) = if nat_lt k instances then obj.Inst k else obj.NoneNode
read_obj instances views (obj.View k) = if nat_lt k views then obj.View k else obj.NoneNode
read_obj instances views o = o

abbrev pub read_objs : ℕ → ℕ → List Obj → List Obj
read_objs instances views [] = []
read_objs instances views (o ∷ os) = read_obj instances views o ∷ read_objs instances views os

-- how an operation answers: with a new object or a raise, never failing, or with an object that becomes the exception
pub data Fits : Type 0 where
  NewOrRaise : Fits
  Sure : Fits
  SureEither : Fits

abbrev pub fits_of : Op → Fits
fits_of (op.Module n) = NewOrRaise
fits_of (op.Dict o) = Sure
fits_of (op.Import n) = NewOrRaise
fits_of (op.Binary b x y) = NewOrRaise
fits_of (op.Fail o t) = SureEither

-- what an entry that gives an object, one that raises, and one that doesn't fit answer
abbrev pub given : Fits → Obj → Answer
given _ o = answers.Object o

abbrev pub raised : Fits → Obj → Answer
raised NewOrRaise o = answers.Raised o
raised Sure o = answers.Object (obj.Foreign 0)
raised SureEither o = answers.Object o

abbrev pub unfit : Fits → Answer
unfit NewOrRaise = answers.Raised (obj.Foreign 0)
unfit Sure = answers.Object (obj.Foreign 0)
unfit SureEither = answers.Object (obj.Foreign 0)

abbrev pub answer_by : Fits → Entry → ℕ → ℕ → Answer
answer_by f (entry.OkNode o) instances views = given f (read_obj instances views o)
answer_by f (entry.Raise o) instances views = raised f (read_obj instances views o)
answer_by f _ instances views = unfit f

-- what an entry answers to an operation: an entry that doesn't fit is a raise of Foreign 0, or the default of an operation that never fails
abbrev pub answer : Op → Entry → ℕ → ℕ → Answer
answer o e instances views = answer_by (fits_of o) e instances views

-- what an answer comes to where a new object is wanted
pub data NewResult : Type 0 where
  Gave : Obj → NewResult
  Raises : Obj → NewResult

abbrev pub new_result : Answer → NewResult
new_result (answers.Object o) = Gave o
new_result (answers.Raised o) = Raises o
new_result _ = Raises (obj.Foreign 0)

-- what an answer comes to where the operation never fails
abbrev pub sure_result : Answer → Obj
sure_result (answers.Object o) = o
sure_result (answers.Raised o) = o
sure_result _ = obj.Foreign 0
