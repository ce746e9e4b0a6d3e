-- What a call answers, and what its clause says of it. The project's own.
use Rattle.std.specs.Prelude.{◌≡◌, Bool, true, false, ◌&&◌, ℤ, pos, Option, Some, None}
use Rattle.std.specs.Ordering.{int_eq}
use Rattle.cy_tree.specs.declared.ty.Clause.{Clause}
use Rattle.cy_tree.specs.declared.ty.Clause.TheVariants as clause
use Rattle.cy_tree.specs.declared.ty.Signature.{Signature}
use Rattle.cy_tree.specs.declared.ty.Ty.{Ty}
use Rattle.cy_tree.specs.declared.ty.Ty.TheVariants as ty
use Rattle.cy_tree.specs.Clauses.{FailedWhere, WhereNull, WhereValue, WhereValueAndException, WhereException, Never, OnFailure, AnswersNull, AnswersValue, AnswersZeroOrNothing, ReportsAndAnswersZeroOrNothing, MayBeWritten}
use Rattle.exc_protocol.specs.declared.CResult.{CResult}
use Rattle.exc_protocol.specs.declared.CResult.TheVariants as answered
use Rattle.exc_protocol.specs.declared.Test.{Test}
use Rattle.exc_protocol.specs.declared.Test.TheVariants as test
use Rattle.exc_protocol.specs.declared.Exit.{Exit}
use Rattle.exc_protocol.specs.declared.Exit.TheVariants as exit

-- a signature whose result is no view, and whose clause may be written with it
abbrev pub IsCallable : Ty → Option Clause → Type 0
IsCallable (ty.View v) c = ⊥
IsCallable t None = Unit {0}
IsCallable t (Some c) = MayBeWritten t c

-- whether a call with this answer is taken as failed, where an exception is set or where none is
abbrev pub is_failed : FailedWhere → CResult → Bool → Bool
is_failed WhereNull answered.Null set = true
is_failed (WhereValue v) (answered.Number n) set = int_eq n v
is_failed (WhereValueAndException v) (answered.Number n) set = int_eq n v && set
is_failed WhereException answer set = set
is_failed _ answer set = false

-- what a test says, where an exception is set or where none is
abbrev pub says : Test → Bool → Bool
says test.Failed set = true
says test.Fine set = false
says test.AskError set = set

-- an answer of a type that can have the clause
abbrev pub CanAnswer : Clause → CResult → Type 0
CanAnswer clause.Null answered.Null = Unit {0}
CanAnswer clause.Null answered.Object = Unit {0}
CanAnswer (clause.Value v) (answered.Number n) = Unit {0}
CanAnswer (clause.MaybeValue v) (answered.Number n) = Unit {0}
CanAnswer clause.Star (answered.Number n) = Unit {0}
CanAnswer clause.Star answered.Nothing = Unit {0}
CanAnswer clause.Noexcept (answered.Number n) = Unit {0}
CanAnswer clause.Noexcept answered.Nothing = Unit {0}
CanAnswer c answer = ⊥

-- a result type that can have the clause, with its default put in
abbrev pub CanHave : Clause → Ty → Type 0
CanHave clause.Null ty.Object = Unit {0}
CanHave clause.Null (ty.Class id) = Unit {0}
CanHave (clause.Value v) (ty.Num t) = Unit {0}
CanHave (clause.Value v) ty.Bint = Unit {0}
CanHave (clause.MaybeValue v) (ty.Num t) = Unit {0}
CanHave (clause.MaybeValue v) ty.Bint = Unit {0}
CanHave clause.Star (ty.Num t) = Unit {0}
CanHave clause.Star ty.Bint = Unit {0}
CanHave clause.Star ty.Void = Unit {0}
CanHave clause.Noexcept (ty.Num t) = Unit {0}
CanHave clause.Noexcept ty.Bint = Unit {0}
CanHave clause.Noexcept ty.Void = Unit {0}
CanHave c t = ⊥

-- the exit of a callee that fails: 0 of a number type, and nothing of `void`
abbrev pub exit_of : OnFailure → Ty → Exit
exit_of AnswersNull t = exit.Null
exit_of (AnswersValue v) t = exit.Number v
exit_of AnswersZeroOrNothing ty.Void = exit.Nothing
exit_of AnswersZeroOrNothing t = exit.Number (pos 0)
exit_of ReportsAndAnswersZeroOrNothing ty.Void = exit.ReportNothing
exit_of ReportsAndAnswersZeroOrNothing t = exit.ReportNumber
