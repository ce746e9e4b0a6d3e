-- Sorts of operands, by how they begin. The project's own profile of C.
use Rattle.std.specs.Prelude.{⊤, ℕ, List, [], ◌∷◌, Bool, false, negsuc, codes}
use Rattle.std.specs.Char.{is_ascii_digit}
use Rattle.c_tree.specs.declared.value.CValue.{CValue}
use Rattle.c_tree.specs.declared.value.CValue.TheVariants as value
use Rattle.c_tree.specs.declared.value.Literal.{Literal}
use Rattle.c_tree.specs.declared.value.Literal.TheVariants as literal
use Rattle.c_tree.specs.Values.{exception_name}
use Rattle.c_tree.specs.Forms.{IsLiteral, IsNumber, IsNumbered, IsVariable}
use Rattle.c_input.specs.Literals.{IsNegative}

-- a word that begins with a digit
abbrev pub begins_number : List ℕ → Bool
begins_number [] = false
begins_number (first ∷ more) = is_ascii_digit first

-- a name of an object of the API
abbrev pub IsObject : CValue → Type 0
IsObject value.Null = ⊤
IsObject value.NoneObject = ⊤
IsObject value.TrueObject = ⊤
IsObject value.FalseObject = ⊤
IsObject (value.Exception e) = ⊤
IsObject _ = ⊥

-- that name
abbrev pub object_word : CValue → List ℕ
object_word value.Null = codes "NULL"
object_word value.NoneObject = codes "Py_None"
object_word value.TrueObject = codes "Py_True"
object_word value.FalseObject = codes "Py_False"
object_word (value.Exception e) = exception_name e
object_word _ = []

-- an operand in brackets: a literal below zero, or the address of a type object as an object
abbrev pub IsBracketed : CValue → Type 0
IsBracketed (value.Literal l) = IsNegative l
IsBracketed (value.ClassObject n) = IsNumbered n
IsBracketed _ = ⊥

-- a literal that is one word
abbrev pub IsPlainLiteral : Literal → Type 0
IsPlainLiteral (literal.Int (negsuc n)) = ⊥
IsPlainLiteral (literal.Long (negsuc n)) = ⊥
IsPlainLiteral l = IsLiteral l

-- an operand that begins with a word
abbrev pub IsWorded : CValue → Type 0
IsWorded (value.Variable x) = IsVariable x
IsWorded (value.Argument j) = IsNumber j
IsWorded (value.Literal l) = IsPlainLiteral l
IsWorded value.Null = ⊤
IsWorded value.NoneObject = ⊤
IsWorded value.TrueObject = ⊤
IsWorded value.FalseObject = ⊤
IsWorded (value.Exception e) = ⊤
IsWorded _ = ⊥
