-- Functions of the Python/C API: what each gives, how it signals failure, what it needs and what it steals. The table is the
-- project's own, written after the Python/C API manual.
use Rattle.std.specs.Prelude.{ℕ, true, false, List, [], ◌∷◌, ◌++◌, Option, Some, None, if◌then◌else◌, codes}
use Rattle.std.specs.Str.{bytes_eq}
use Prim.Native.String.{String}
use Rattle.api_model.specs.declared.rows.Gives.{Gives}
use Rattle.api_model.specs.declared.rows.Gives.TheVariants.{New, Borrowed, Number, Nothing}
use Rattle.api_model.specs.declared.rows.Fails.{Fails}
use Rattle.api_model.specs.declared.rows.Fails.TheVariants.{Null, NullSet, MinusOne, MinusOneSet, GreatestSet, Never}
use Rattle.api_model.specs.declared.rows.ApiRow.{ApiRow}

-- The shapes of rows. Each needs the lock, and that no exception is set, where nothing else is said.

-- a row that asks the script
abbrev pub asked : Gives → Fails → ApiRow
asked gives fails = record { gives = gives; fails = fails; steals = None; entry = true; lock = true; clean = true }

-- a row that asks nothing and never fails
abbrev pub unasked : Gives → ApiRow
unasked gives = record { gives = gives; fails = Never; steals = None; entry = false; lock = true; clean = true }

-- a new object, or NULL
abbrev pub made : ApiRow
made = asked New Null

-- 0, or -1
abbrev pub done : ApiRow
done = asked Number MinusOne

-- a row that may be called with an exception set
abbrev pub with_error : ApiRow → ApiRow
with_error r = record r { clean = false }

-- a row that may be called without the lock
abbrev pub without_lock : ApiRow → ApiRow
without_lock r = record r { lock = false }

-- a row that takes over a reference to the argument with this number, from 0
abbrev pub stealing : ℕ → ApiRow → ApiRow
stealing argument r = record r { steals = Some argument }

-- a function and its row
pub record Function : Type 0 where
  pub name : List ℕ
  pub row : ApiRow

abbrev pub is : String → ApiRow → Function
is name row = record { name = codes name; row = row }

-- The table, in pieces.

-- new, NULL raises: add, sub, mul, floordiv, truediv, mod
unfoldable pub sums : List Function
sums =
    is "PyNumber_Add" made
    ∷ is "PyNumber_Subtract" made
    ∷ is "PyNumber_Multiply" made
    ∷ is "PyNumber_FloorDivide" made
    ∷ is "PyNumber_TrueDivide" made
    ∷ is "PyNumber_Remainder" made
    ∷ []

-- lshift, rshift, and, or, xor
unfoldable pub shifts : List Function
shifts =
    is "PyNumber_Lshift" made
    ∷ is "PyNumber_Rshift" made
    ∷ is "PyNumber_And" made
    ∷ is "PyNumber_Or" made
    ∷ is "PyNumber_Xor" made
    ∷ []

-- iadd, isub, imul, ifloordiv, itruediv, imod
unfoldable pub sums_in_place : List Function
sums_in_place =
    is "PyNumber_InPlaceAdd" made
    ∷ is "PyNumber_InPlaceSubtract" made
    ∷ is "PyNumber_InPlaceMultiply" made
    ∷ is "PyNumber_InPlaceFloorDivide" made
    ∷ is "PyNumber_InPlaceTrueDivide" made
    ∷ is "PyNumber_InPlaceRemainder" made
    ∷ []

-- ilshift, irshift, iand, ior, ixor
unfoldable pub shifts_in_place : List Function
shifts_in_place =
    is "PyNumber_InPlaceLshift" made
    ∷ is "PyNumber_InPlaceRshift" made
    ∷ is "PyNumber_InPlaceAnd" made
    ∷ is "PyNumber_InPlaceOr" made
    ∷ is "PyNumber_InPlaceXor" made
    ∷ []

-- neg, pos, inv; getattr, getitem, iter; lt to ge; call
unfoldable pub protocols : List Function
protocols =
    is "PyNumber_Negative" made
    ∷ is "PyNumber_Positive" made
    ∷ is "PyNumber_Invert" made
    ∷ is "PyObject_GetAttr" made
    ∷ is "PyObject_GetItem" made
    ∷ is "PyObject_GetIter" made
    ∷ is "PyObject_RichCompare" made
    ∷ is "PyObject_CallFunctionObjArgs" made
    ∷ []

-- int, uint, bigint, str, tuple
unfoldable pub numbers_and_texts : List Function
numbers_and_texts =
    is "PyLong_FromLong" made
    ∷ is "PyLong_FromUnsignedLong" made
    ∷ is "PyLong_FromString" made
    ∷ is "PyUnicode_FromStringAndSize" made
    ∷ is "PyTuple_Pack" made
    ∷ []

-- list, newdict, import, module
unfoldable pub containers_and_modules : List Function
containers_and_modules =
    is "PyList_New" made
    ∷ is "PyDict_New" made
    ∷ is "PyImport_ImportModule" made
    ∷ is "PyModule_Create" made
    ∷ []

-- view, alloc, next, dictget, dict
unfoldable pub objects : List Function
objects =
    is "PyMemoryView_FromObject" made
    ∷ is "PyType_GenericAlloc" made
    ∷ is "PyIter_Next" (asked New NullSet)
    ∷ is "PyDict_GetItemWithError" (asked Borrowed NullSet)
    ∷ is "PyModule_GetDict" (asked Borrowed Never)
    ∷ []

-- setattr, delattr, setitem, delitem; dictset, dictdel; ready, addobject
unfoldable pub changes : List Function
changes =
    is "PyObject_SetAttr" done
    ∷ is "PyObject_DelAttr" done
    ∷ is "PyObject_SetItem" done
    ∷ is "PyObject_DelItem" done
    ∷ is "PyDict_SetItem" done
    ∷ is "PyDict_DelItem" done
    ∷ is "PyType_Ready" done
    ∷ is "PyModule_AddObjectRef" done
    ∷ []

-- aslong, asulong, istrue, contains, isinstance
unfoldable pub numbers : List Function
numbers =
    is "PyLong_AsLong" (asked Number MinusOneSet)
    ∷ is "PyLong_AsUnsignedLong" (asked Number GreatestSet)
    ∷ is "PyObject_IsTrue" (asked Number MinusOne)
    ∷ is "PySequence_Contains" (asked Number MinusOne)
    ∷ is "PyObject_IsInstance" (asked Number MinusOne)
    ∷ []

-- matches, isclass, fail, unraisable
unfoldable pub handlers : List Function
handlers =
    is "PyErr_GivenExceptionMatches" (with_error (asked Number Never))
    ∷ is "PyExceptionClass_Check" (asked Number Never)
    ∷ is "PyErr_SetString" (with_error (asked Nothing Never))
    ∷ is "PyErr_WriteUnraisable" (with_error (asked Nothing Never))
    ∷ []

-- without an entry: the counts, and an item put into a new list
unfoldable pub counts : List Function
counts =
    is "Py_INCREF" (with_error (unasked Nothing))
    ∷ is "Py_DECREF" (with_error (unasked Nothing))
    ∷ is "Py_XDECREF" (with_error (unasked Nothing))
    ∷ is "PyList_SET_ITEM" (stealing 2 (unasked Nothing))
    ∷ []

-- the exception that is set
unfoldable pub errors : List Function
errors =
    is "PyErr_Occurred" (with_error (unasked Borrowed))
    ∷ is "PyErr_GetRaisedException" (with_error (unasked New))
    ∷ is "PyErr_SetRaisedException" (stealing 0 (with_error (unasked Nothing)))
    ∷ []

-- the lock
unfoldable pub locks : List Function
locks =
    is "PyEval_SaveThread" (with_error (unasked Number))
    ∷ is "PyEval_RestoreThread" (without_lock (with_error (unasked Nothing)))
    ∷ is "PyGILState_Ensure" (without_lock (with_error (unasked Number)))
    ∷ is "PyGILState_Release" (with_error (unasked Nothing))
    ∷ []

-- tests, and reads of a view and of arguments
unfoldable pub reads : List Function
reads =
    is "PyObject_TypeCheck" (unasked Number)
    ∷ is "PyType_HasFeature" (unasked Number)
    ∷ is "PyMemoryView_GET_BUFFER" (unasked Number)
    ∷ is "PyTuple_GET_SIZE" (unasked Number)
    ∷ is "PyTuple_GET_ITEM" (unasked Borrowed)
    ∷ []

-- new, NULL raises
unfoldable pub made_rows : List Function
made_rows = sums ++ (shifts ++ (sums_in_place ++ (shifts_in_place ++ (protocols ++ (numbers_and_texts ++ containers_and_modules)))))

-- the other rows with an entry
unfoldable pub asked_rows : List Function
asked_rows = objects ++ (changes ++ (numbers ++ handlers))

-- the rows without an entry
unfoldable pub unasked_rows : List Function
unasked_rows = counts ++ (errors ++ (locks ++ reads))

-- the whole table
unfoldable pub api_table : List Function
api_table = made_rows ++ (asked_rows ++ unasked_rows)

-- the row of a name in a table
abbrev pub row_in : List Function → List ℕ → Option ApiRow
row_in [] name = None
row_in (f ∷ fs) name = if bytes_eq name f.name then Some f.row else row_in fs name

-- the row of a name
unfoldable pub row_of : List ℕ → Option ApiRow
row_of name = row_in api_table name
