-- What the words of a type mean: numbers, and the parts of views (Cython documentation, "Language Basics", C types; "Typed Memoryviews").
use Rattle.std.specs.Prelude.{ℕ, Bool, true, false, if◌then◌else◌, nat_eq, List, [], ◌∷◌, Option, Some, None}
use Rattle.cy_num.specs.declared.types.CNum.{CNum}
use Rattle.cy_num.specs.declared.types.CNum.TheVariants as number
use Rattle.cy_tree.specs.declared.ty.Ty.{Ty}
use Rattle.cy_tree.specs.declared.ty.Ty.TheVariants as ty
use Rattle.cy_tree.specs.declared.types.Dim.{Dim}
use Rattle.cy_tree.specs.declared.types.NumberWords.{NumberWords}
use Rattle.cy_tree.specs.declared.types.NumberWords.TheVariants as words
use Rattle.cy_tree.specs.declared.types.TypeName.{TypeName}
use Rattle.cy_tree.specs.declared.types.TypeName.TheVariants as type

-- the table of number words
abbrev pub words_meant : NumberWords → Ty
words_meant words.SignedChar = ty.Num number.I8
words_meant words.UnsignedChar = ty.Num number.U8
words_meant words.Short = ty.Num number.I16
words_meant words.ShortInt = ty.Num number.I16
words_meant words.UnsignedShort = ty.Num number.U16
words_meant words.UnsignedShortInt = ty.Num number.U16
words_meant words.Int = ty.Num number.I32
words_meant words.Unsigned = ty.Num number.U32
words_meant words.UnsignedInt = ty.Num number.U32
words_meant words.Long = ty.Num number.I64
words_meant words.LongInt = ty.Num number.I64
words_meant words.LongLong = ty.Num number.I64
words_meant words.LongLongInt = ty.Num number.I64
words_meant words.UnsignedLong = ty.Num number.U64
words_meant words.UnsignedLongInt = ty.Num number.U64
words_meant words.UnsignedLongLong = ty.Num number.U64
words_meant words.UnsignedLongLongInt = ty.Num number.U64
words_meant words.PySsizeT = ty.Num number.I64
words_meant words.SizeT = ty.Num number.U64
words_meant words.Bint = ty.Bint
words_meant words.Void = ty.Void

-- ---- views

abbrev pub as_number : Ty → Option CNum
as_number (ty.Num t) = Some t
as_number _ = None

-- the element of a view: a C number type
abbrev pub element : TypeName → Option CNum
element (type.Number w) = as_number (words_meant w)
element _ = None

abbrev pub last_is_contiguous : Option ℕ → Option Bool
last_is_contiguous None = Some false
last_is_contiguous (Some n) = if nat_eq n 1 then Some true else None

abbrev pub without_number : Option ℕ → Option Bool → Option Bool
without_number None more = more
without_number (Some n) more = None

-- whether the dimensions end with `::1`; None where a `::` isn't last or has another number
abbrev pub contiguity : List Dim → Option Bool
contiguity [] = Some false
contiguity (d ∷ []) = last_is_contiguous d.step
contiguity (d ∷ e ∷ ds) = without_number d.step (contiguity (e ∷ ds))
