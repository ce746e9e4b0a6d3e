-- Exception clauses (Cython documentation, "Error return values"). That calls see them so, and the defaults, is the
-- project's own.
use Rattle.std.specs.Prelude.{◌≡◌, ◌⊎◌, ℤ, pos, negsuc, Option, Some, None}
use Rattle.cy_num.specs.declared.types.CNum.{CNum}
use Rattle.cy_num.specs.Types.{IsValue}
use Rattle.cy_num.specs.Wrapping.{wrap}
use Rattle.cy_tree.specs.declared.ty.Clause.{Clause}
use Rattle.cy_tree.specs.declared.ty.Clause.TheVariants as clause
use Rattle.cy_tree.specs.declared.ty.Ty.{Ty}
use Rattle.cy_tree.specs.declared.ty.Ty.TheVariants as ty

-- where the caller takes a call as failed
pub data FailedWhere : Type 0 where
  WhereNull : FailedWhere
  WhereValue : ℤ → FailedWhere
  WhereValueAndException : ℤ → FailedWhere
  WhereException : FailedWhere
  Never : FailedWhere

-- what the callee answers where it fails
pub data OnFailure : Type 0 where
  AnswersNull : OnFailure
  AnswersValue : ℤ → OnFailure
  AnswersZeroOrNothing : OnFailure
  ReportsAndAnswersZeroOrNothing : OnFailure

pub record ClauseRow : Type 0 where
  pub caller : FailedWhere
  pub callee : OnFailure

abbrev pub row_is : FailedWhere → OnFailure → ClauseRow
row_is caller callee = record { caller = caller; callee = callee }

-- the table of clauses: an object result, `except V`, `except? V`, `except *`, `noexcept`
abbrev pub clause_row : Clause → ClauseRow
clause_row clause.Null = row_is WhereNull AnswersNull
clause_row (clause.Value v) = row_is (WhereValue v) (AnswersValue v)
clause_row (clause.MaybeValue v) = row_is (WhereValueAndException v) (AnswersValue v)
clause_row clause.Star = row_is WhereException AnswersZeroOrNothing
clause_row clause.Noexcept = row_is Never ReportsAndAnswersZeroOrNothing

-- the clause where none is written: -1 as a value of the type, which is 1 for `bint`
abbrev pub default_clause : Ty → Clause
default_clause (ty.Num t) = clause.MaybeValue (wrap t (negsuc 0))
default_clause ty.Bint = clause.MaybeValue (pos 1)
default_clause ty.Void = clause.Star
default_clause _ = clause.Null

-- the clause that holds: `noexcept` on an object or class result counts as none
abbrev pub clause_of : Ty → Option Clause → Clause
clause_of t None = default_clause t
clause_of ty.Object (Some c) = clause.Null
clause_of (ty.Class id) (Some c) = clause.Null
clause_of t (Some c) = c

-- whether a clause may be written with a result: a value is one of the type, none is on `void`, and an object or class
-- has `noexcept` alone
abbrev pub MayBeWritten : Ty → Clause → Type 0
MayBeWritten (ty.Num t) (clause.Value v) = IsValue t v
MayBeWritten (ty.Num t) (clause.MaybeValue v) = IsValue t v
MayBeWritten ty.Bint (clause.Value v) = (v ≡ pos 0) ⊎ (v ≡ pos 1)
MayBeWritten ty.Bint (clause.MaybeValue v) = (v ≡ pos 0) ⊎ (v ≡ pos 1)
MayBeWritten (ty.Num t) clause.Star = Unit {0}
MayBeWritten ty.Bint clause.Star = Unit {0}
MayBeWritten ty.Void clause.Star = Unit {0}
MayBeWritten (ty.View v) c = ⊥
MayBeWritten t clause.Noexcept = Unit {0}
MayBeWritten t c = ⊥
