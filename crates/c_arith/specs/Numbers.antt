-- Numbers of C with their types (ISO/IEC 9899:2011 6.2.5, 6.4.4.1).
use Rattle.std.specs.Prelude.{⊤, ℤ, pos, Option, Some, None}
use Rattle.c_arith.specs.declared.number.Computed.{Computed}
use Rattle.c_arith.specs.declared.number.Computed.TheVariants.{Value, Undefined}
use Rattle.c_arith.specs.declared.number.Number.{Number}
use Rattle.c_tree.specs.declared.value.CType.{CType}
use Rattle.c_tree.specs.declared.value.CType.TheVariants as type
use Rattle.c_tree.specs.declared.value.Literal.{Literal}
use Rattle.c_tree.specs.declared.value.Literal.TheVariants as literal
use Rattle.cy_num.specs.declared.types.CNum.{CNum}
use Rattle.cy_num.specs.declared.types.CNum.TheVariants.{I8, U8, I16, U16, I32, U32, I64, U64}
use Rattle.cy_num.specs.Types.{IsValue}

-- the number type that a C type is (6.2.5); `Py_ssize_t` is as `long`
abbrev pub number_type : CType → Option CNum
number_type type.SignedChar = Some I8
number_type type.UnsignedChar = Some U8
number_type type.Short = Some I16
number_type type.UnsignedShort = Some U16
number_type type.Int = Some I32
number_type type.UnsignedInt = Some U32
number_type type.Long = Some I64
number_type type.UnsignedLong = Some U64
number_type type.PySsizeT = Some I64
number_type type.Object = None
number_type type.View = None
number_type type.ThreadState = None
number_type type.LockState = None
number_type type.TypeObject = None

-- the type of a literal, by its suffix (6.4.4.1)
abbrev pub literal_type : Literal → CNum
literal_type (literal.Int z) = I32
literal_type (literal.Unsigned n) = U32
literal_type (literal.Long z) = I64
literal_type (literal.UnsignedLong n) = U64

abbrev pub literal_value : Literal → ℤ
literal_value (literal.Int z) = z
literal_value (literal.Unsigned n) = pos n
literal_value (literal.Long z) = z
literal_value (literal.UnsignedLong n) = pos n

abbrev pub number_of : Literal → Number
number_of k = record { kind = literal_type k; value = literal_value k }

-- the value of a number is one of its type
abbrev pub IsNumber : Number → Type 0
IsNumber n = IsValue n.kind n.value

-- where a number comes out, its value is one of its type
abbrev pub IfNumber : Computed → Type 0
IfNumber (Value n) = IsNumber n
IfNumber Undefined = ⊤
