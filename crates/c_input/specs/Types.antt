-- The tokens of types, told one by one. The project's own profile of C (ISO/IEC 9899:2011 6.7.2).
use Rattle.std.specs.Prelude.{List, [], ◌∷◌}
use Rattle.c_token.specs.CTokens.{CToken, word, sign}
use Rattle.c_tree.specs.declared.value.CType.{CType}
use Rattle.c_tree.specs.declared.value.CType.TheVariants as type

abbrev pub type_tokens : CType → List CToken
type_tokens type.SignedChar = word "signed" ∷ word "char" ∷ []
type_tokens type.UnsignedChar = word "unsigned" ∷ word "char" ∷ []
type_tokens type.Short = word "short" ∷ []
type_tokens type.UnsignedShort = word "unsigned" ∷ word "short" ∷ []
type_tokens type.Int = word "int" ∷ []
type_tokens type.UnsignedInt = word "unsigned" ∷ word "int" ∷ []
type_tokens type.Long = word "long" ∷ []
type_tokens type.UnsignedLong = word "unsigned" ∷ word "long" ∷ []
type_tokens type.PySsizeT = word "Py_ssize_t" ∷ []
type_tokens type.Object = word "PyObject" ∷ sign "*" ∷ []
type_tokens type.View = word "cyc_view" ∷ []
type_tokens type.ThreadState = word "PyThreadState" ∷ sign "*" ∷ []
type_tokens type.LockState = word "PyGILState_STATE" ∷ []
type_tokens type.TypeObject = word "PyTypeObject" ∷ sign "*" ∷ []
