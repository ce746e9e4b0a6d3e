-- Operands that name an object of the file by its address. The project's own profile of C.
use Rattle.std.specs.Prelude.{⊤}
use Rattle.c_tree.specs.declared.value.CValue.{CValue}
use Rattle.c_tree.specs.declared.value.CValue.TheVariants as value
use Rattle.c_tree.specs.Forms.{IsNumber, IsNumbered, IsVariable}

-- `&cyc_def` and `&cyc_ty_0_1`
abbrev pub IsAddress : CValue → Type 0
IsAddress (value.TypeAddress n) = IsNumbered n
IsAddress value.Definition = ⊤
IsAddress _ = ⊥

-- `(PyObject *)&cyc_ty_0_1`
abbrev pub IsClassObject : CValue → Type 0
IsClassObject (value.ClassObject n) = IsNumbered n
IsClassObject _ = ⊥

-- a variable, or an element of `args`
abbrev pub IsStored : CValue → Type 0
IsStored (value.Variable x) = IsVariable x
IsStored (value.Argument j) = IsNumber j
IsStored _ = ⊥
