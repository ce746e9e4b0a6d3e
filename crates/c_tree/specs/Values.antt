-- How types and operands are spelled. The project's own profile of C (ISO/IEC 9899:2011).
use Rattle.std.specs.Prelude.{ℕ, suc, ◌+◌, ◌/◌, ◌%◌, ◌||◌, List, [], ◌∷◌, ◌++◌, ℤ, pos, negsuc, nat_lt, nat_eq, if◌then◌else◌, codes, decimal}
use Rattle.std.specs.List.{flat_map}
use Rattle.c_token.specs.CTokens.{CToken, Word, Str, word, sign}
use Rattle.c_token.specs.declared.exception.Exception.{Exception}
use Rattle.c_token.specs.declared.exception.Exception.TheVariants as exception
use Rattle.c_tree.specs.declared.value.CResult.{CResult}
use Rattle.c_tree.specs.declared.value.CResult.TheVariants as result
use Rattle.c_tree.specs.declared.value.CType.{CType}
use Rattle.c_tree.specs.declared.value.CType.TheVariants as type
use Rattle.c_tree.specs.declared.value.CValue.{CValue}
use Rattle.c_tree.specs.declared.value.CValue.TheVariants as value
use Rattle.c_tree.specs.declared.value.Literal.{Literal}
use Rattle.c_tree.specs.declared.value.Literal.TheVariants as literal
use Rattle.c_tree.specs.Names.{text, variable_token, name_token}

abbrev pub type_spelling : CType → List CToken
type_spelling type.SignedChar = text "signed char"
type_spelling type.UnsignedChar = text "unsigned char"
type_spelling type.Short = text "short"
type_spelling type.UnsignedShort = text "unsigned short"
type_spelling type.Int = text "int"
type_spelling type.UnsignedInt = text "unsigned int"
type_spelling type.Long = text "long"
type_spelling type.UnsignedLong = text "unsigned long"
type_spelling type.PySsizeT = text "Py_ssize_t"
type_spelling type.Object = text "PyObject *"
type_spelling type.View = text "cyc_view"
type_spelling type.ThreadState = text "PyThreadState *"
type_spelling type.LockState = text "PyGILState_STATE"
type_spelling type.TypeObject = text "PyTypeObject *"

abbrev pub result_spelling : CResult → List CToken
result_spelling result.Void = text "void"
result_spelling (result.Value kind) = type_spelling kind

-- ---- literals

-- a literal below zero stands in brackets (ISO/IEC 9899:2011 6.5.3.3)
abbrev pub negative : List ℕ → List CToken
negative digits = sign "(" ∷ sign "-" ∷ Word digits ∷ sign ")" ∷ []

-- No literal has the least value of a signed type, as its digits have the next type: it is one less than the next (ISO/IEC
-- 9899:2011 6.4.4.1).
abbrev pub int_spelling : ℤ → List CToken
int_spelling (pos n) = Word (decimal n) ∷ []
int_spelling (negsuc n) = if nat_eq n 2147483647 then text "(-2147483647 - 1)" else negative (decimal (suc n))

abbrev pub long_spelling : ℤ → List CToken
long_spelling (pos n) = Word (decimal n ++ codes "L") ∷ []
long_spelling (negsuc n) = if nat_eq n 9223372036854775807 then text "(-9223372036854775807L - 1L)" else negative (decimal (suc n) ++ codes "L")

abbrev pub literal_spelling : Literal → List CToken
literal_spelling (literal.Int z) = int_spelling z
literal_spelling (literal.Unsigned n) = Word (decimal n ++ codes "u") ∷ []
literal_spelling (literal.Long z) = long_spelling z
literal_spelling (literal.UnsignedLong n) = Word (decimal n ++ codes "uL") ∷ []

-- a byte in a string: a printable one, or a backslash and three octal digits (ISO/IEC 9899:2011 6.4.4.4)
abbrev pub quoted_byte : ℕ → List ℕ
quoted_byte b =
    if (nat_lt b 32 || nat_lt 126 b) || (nat_eq b 34 || nat_eq b 92)
    then 92 ∷ (48 + b / 64) ∷ (48 + b / 8 % 8) ∷ (48 + b % 8) ∷ []
    else b ∷ []

abbrev pub string : List ℕ → CToken
string bytes = Str (flat_map quoted_byte bytes)

-- ---- operands

abbrev pub exception_name : Exception → List ℕ
exception_name exception.BaseException = codes "PyExc_BaseException"
exception_name exception.TypeError = codes "PyExc_TypeError"
exception_name exception.NotImplementedError = codes "PyExc_NotImplementedError"
exception_name exception.OverflowError = codes "PyExc_OverflowError"
exception_name exception.ZeroDivisionError = codes "PyExc_ZeroDivisionError"
exception_name exception.ValueError = codes "PyExc_ValueError"
exception_name exception.IndexError = codes "PyExc_IndexError"
exception_name exception.AttributeError = codes "PyExc_AttributeError"
exception_name exception.SystemError = codes "PyExc_SystemError"
exception_name exception.NameError = codes "PyExc_NameError"
exception_name exception.UnboundLocalError = codes "PyExc_UnboundLocalError"

abbrev pub value_spelling : CValue → List CToken
value_spelling (value.Variable x) = variable_token x ∷ []
value_spelling (value.Argument j) = word "args" ∷ sign "[" ∷ Word (decimal j) ∷ sign "]" ∷ []
value_spelling (value.Literal n) = literal_spelling n
value_spelling value.Null = text "NULL"
value_spelling value.NoneObject = text "Py_None"
value_spelling value.TrueObject = text "Py_True"
value_spelling value.FalseObject = text "Py_False"
value_spelling (value.Exception e) = Word (exception_name e) ∷ []
value_spelling (value.ClassObject n) = text "(PyObject *)&" ++ (name_token "cyc_ty_" n ∷ [])
value_spelling (value.TypeAddress n) = sign "&" ∷ name_token "cyc_ty_" n ∷ []
value_spelling value.Definition = text "&cyc_def"
