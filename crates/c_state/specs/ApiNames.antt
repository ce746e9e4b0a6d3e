-- Which function of the Python/C API a name is (Python/C API manual). `cyc_fmt` is the written files' own.
use Rattle.std.specs.Prelude.{ℕ, List, [], ◌∷◌, ◌++◌, Option, Some, None, if◌then◌else◌, codes}
use Rattle.std.specs.Str.{bytes_eq}
use Prim.Native.String.{String}
use Rattle.api_model.specs.declared.op.BinaryOp.TheVariants as binary
use Rattle.api_model.specs.declared.op.UnaryOp.TheVariants as unary
use Rattle.c_value.specs.declared.api.Api.{Api}
use Rattle.c_value.specs.declared.api.Api.TheVariants as api

pub record Named : Type 0 where
  pub name : List ℕ
  pub function : Api

abbrev pub is : String → Api → Named
is name f = record { name = codes name; function = f }

unfoldable pub sums : List Named
sums =
    is "PyNumber_Add" (api.Binary binary.Add)
    ∷ is "PyNumber_Subtract" (api.Binary binary.Sub)
    ∷ is "PyNumber_Multiply" (api.Binary binary.Mul)
    ∷ is "PyNumber_FloorDivide" (api.Binary binary.FloorDiv)
    ∷ is "PyNumber_TrueDivide" (api.Binary binary.TrueDiv)
    ∷ is "PyNumber_Remainder" (api.Binary binary.Mod)
    ∷ []

unfoldable pub shifts : List Named
shifts =
    is "PyNumber_Lshift" (api.Binary binary.Lshift)
    ∷ is "PyNumber_Rshift" (api.Binary binary.Rshift)
    ∷ is "PyNumber_And" (api.Binary binary.And)
    ∷ is "PyNumber_Or" (api.Binary binary.Or)
    ∷ is "PyNumber_Xor" (api.Binary binary.Xor)
    ∷ []

unfoldable pub sums_in_place : List Named
sums_in_place =
    is "PyNumber_InPlaceAdd" (api.InPlace binary.Add)
    ∷ is "PyNumber_InPlaceSubtract" (api.InPlace binary.Sub)
    ∷ is "PyNumber_InPlaceMultiply" (api.InPlace binary.Mul)
    ∷ is "PyNumber_InPlaceFloorDivide" (api.InPlace binary.FloorDiv)
    ∷ is "PyNumber_InPlaceTrueDivide" (api.InPlace binary.TrueDiv)
    ∷ is "PyNumber_InPlaceRemainder" (api.InPlace binary.Mod)
    ∷ []

unfoldable pub shifts_in_place : List Named
shifts_in_place =
    is "PyNumber_InPlaceLshift" (api.InPlace binary.Lshift)
    ∷ is "PyNumber_InPlaceRshift" (api.InPlace binary.Rshift)
    ∷ is "PyNumber_InPlaceAnd" (api.InPlace binary.And)
    ∷ is "PyNumber_InPlaceOr" (api.InPlace binary.Or)
    ∷ is "PyNumber_InPlaceXor" (api.InPlace binary.Xor)
    ∷ []

unfoldable pub protocols : List Named
protocols =
    is "PyNumber_Negative" (api.Unary unary.Neg)
    ∷ is "PyNumber_Positive" (api.Unary unary.Pos)
    ∷ is "PyNumber_Invert" (api.Unary unary.Inv)
    ∷ is "PyObject_GetAttr" api.GetAttr
    ∷ is "PyObject_GetItem" api.GetItem
    ∷ is "PyObject_GetIter" api.GetIter
    ∷ is "PyObject_RichCompare" api.RichCompare
    ∷ is "PyObject_CallFunctionObjArgs" api.CallFunctionObjArgs
    ∷ []

unfoldable pub made_objects : List Named
made_objects =
    is "PyLong_FromLong" api.FromLong
    ∷ is "PyLong_FromUnsignedLong" api.FromUnsignedLong
    ∷ is "PyLong_FromString" api.FromString
    ∷ is "PyUnicode_FromStringAndSize" api.FromStringAndSize
    ∷ is "PyTuple_Pack" api.TuplePack
    ∷ is "PyList_New" api.ListNew
    ∷ is "PyDict_New" api.DictNew
    ∷ []

unfoldable pub modules_and_types : List Named
modules_and_types =
    is "PyImport_ImportModule" api.ImportModule
    ∷ is "PyModule_Create" api.ModuleCreate
    ∷ is "PyMemoryView_FromObject" api.MemoryViewFromObject
    ∷ is "PyType_GenericAlloc" api.GenericAlloc
    ∷ is "PyIter_Next" api.IterNext
    ∷ is "PyDict_GetItemWithError" api.DictGetItem
    ∷ is "PyModule_GetDict" api.ModuleGetDict
    ∷ []

unfoldable pub changes : List Named
changes =
    is "PyObject_SetAttr" api.SetAttr
    ∷ is "PyObject_DelAttr" api.DelAttr
    ∷ is "PyObject_SetItem" api.SetItem
    ∷ is "PyObject_DelItem" api.DelItem
    ∷ is "PyDict_SetItem" api.DictSetItem
    ∷ is "PyDict_DelItem" api.DictDelItem
    ∷ is "PyType_Ready" api.TypeReady
    ∷ is "PyModule_AddObjectRef" api.AddObjectRef
    ∷ []

unfoldable pub numbers : List Named
numbers =
    is "PyLong_AsLong" api.AsLong
    ∷ is "PyLong_AsUnsignedLong" api.AsUnsignedLong
    ∷ is "PyObject_IsTrue" api.IsTrue
    ∷ is "PySequence_Contains" api.Contains
    ∷ is "PyObject_IsInstance" api.IsInstance
    ∷ []

unfoldable pub exceptions : List Named
exceptions =
    is "PyErr_GivenExceptionMatches" api.ExceptionMatches
    ∷ is "PyExceptionClass_Check" api.ExceptionClassCheck
    ∷ is "PyErr_SetString" api.SetString
    ∷ is "PyErr_WriteUnraisable" api.WriteUnraisable
    ∷ is "PyErr_Occurred" api.Occurred
    ∷ is "PyErr_GetRaisedException" api.GetRaised
    ∷ is "PyErr_SetRaisedException" api.SetRaised
    ∷ []

unfoldable pub counts_and_lock : List Named
counts_and_lock =
    is "Py_INCREF" api.Incref
    ∷ is "Py_DECREF" api.Decref
    ∷ is "Py_XDECREF" api.Xdecref
    ∷ is "PyList_SET_ITEM" api.ListSetItem
    ∷ is "PyEval_SaveThread" api.SaveThread
    ∷ is "PyEval_RestoreThread" api.RestoreThread
    ∷ is "PyGILState_Ensure" api.GilEnsure
    ∷ is "PyGILState_Release" api.GilRelease
    ∷ []

unfoldable pub tests : List Named
tests =
    is "PyObject_TypeCheck" api.TypeCheck
    ∷ is "PyType_HasFeature" api.HasFeature
    ∷ is "PyMemoryView_GET_BUFFER" api.GetBuffer
    ∷ is "PyTuple_GET_SIZE" api.TupleSize
    ∷ is "PyTuple_GET_ITEM" api.TupleItem
    ∷ is "cyc_fmt" api.FormatTest
    ∷ []

unfoldable pub all_names : List Named
all_names =
    sums ++ (shifts ++ (sums_in_place ++ (shifts_in_place ++ (protocols ++ (made_objects ++ (modules_and_types
    ++ (changes ++ (numbers ++ (exceptions ++ (counts_and_lock ++ tests))))))))))

abbrev pub function_in : List Named → List ℕ → Option Api
function_in [] name = None
function_in (f ∷ fs) name = if bytes_eq name f.name then Some f.function else function_in fs name

-- the function of a name
unfoldable pub api_of : List ℕ → Option Api
api_of name = function_in all_names name
