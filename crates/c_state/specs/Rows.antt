-- Calls of the Python/C API that ask the outside: their operands, the operation, and the tests before it (Python/C API
-- manual; the table of rows is api_model's).
use Rattle.std.specs.Prelude.{ℕ, zero, suc, Bool, true, false, not, ◌&&◌, ◌||◌, List, [], ◌∷◌, Option, Some, None, ℤ, pos, negsuc, nat_eq, length, is_none, is_some, if◌then◌else◌}
use Rattle.cy_num.specs.declared.types.CNum.TheVariants as number
use Rattle.api_model.specs.declared.object.ClassName.{ClassName}
use Rattle.api_model.specs.declared.object.Obj.{Obj}
use Rattle.api_model.specs.declared.op.Comparison.{Comparison}
use Rattle.api_model.specs.declared.op.Comparison.TheVariants as comparison
use Rattle.api_model.specs.declared.op.Make.TheVariants as make
use Rattle.api_model.specs.declared.op.Change.TheVariants as change
use Rattle.api_model.specs.declared.op.Op.{Op}
use Rattle.api_model.specs.declared.op.Op.TheVariants as op
use Rattle.api_model.specs.declared.rows.ApiRow.{ApiRow}
use Rattle.api_model.specs.declared.rows.Gives.{Gives}
use Rattle.api_model.specs.declared.rows.Gives.TheVariants as gives
use Rattle.c_tree.specs.declared.name.Variable.{Variable}
use Rattle.c_tree.specs.declared.statement.Argument.{Argument}
use Rattle.c_tree.specs.declared.item.TypeObject.{TypeObject}
use Rattle.c_tree.specs.declared.item.CFile.{CFile}
use Rattle.c_value.specs.declared.api.Api.{Api}
use Rattle.c_value.specs.declared.api.Api.TheVariants as api
use Rattle.c_value.specs.declared.step.FaultKind.{FaultKind}
use Rattle.c_value.specs.declared.step.FaultKind.TheVariants as fault
use Rattle.c_value.specs.declared.kind.Kind.{Kind}
use Rattle.c_value.specs.declared.kind.Kind.TheVariants as kind
use Rattle.c_value.specs.declared.value.Value.{Value}
use Rattle.c_value.specs.declared.value.Value.TheVariants as value
use Rattle.c_value.specs.declared.value.Reading.{Reading}
use Rattle.c_value.specs.declared.frame.Making.{Making}
use Rattle.c_value.specs.declared.frame.Making.TheVariants as making
use Rattle.c_state.specs.Linked.{type_at}
use Rattle.c_value.specs.Values.{c_string, converted, int, size, is_null, all_set, passed, values_of, fits}
use Rattle.c_state.specs.State.{all_held}
use Rattle.c_value.specs.declared.change.Planned.{Planned}
use Rattle.c_value.specs.declared.change.Planned.TheVariants.{Asks}
use Rattle.c_value.specs.declared.change.Asking.{Asking}
use Rattle.c_state.specs.Planned.{need, need_some, need_strictly}
use Rattle.c_state.specs.Reads.{class_named, receives}
use Rattle.c_state.specs.Stores.{is_tuple}
use Rattle.c_state.specs.declared.state.Frame.{Frame}
use Rattle.c_state.specs.declared.state.State.{State}

-- ---- operands

abbrev pub ulong : Kind
ulong = kind.Number number.U64

abbrev pub objects : ℕ → List Kind
objects zero = []
objects (suc n) = kind.Object ∷ objects n

-- as many objects as there are operands but one, and a last operand that is NULL
abbrev pub all_but_last : List Reading → List Kind
all_but_last [] = []
all_but_last (v ∷ []) = kind.Null ∷ []
all_but_last (v ∷ w ∷ vs) = kind.Object ∷ all_but_last (w ∷ vs)

abbrev pub packed : List Reading → List Kind
packed [] = size ∷ []
packed (n ∷ vs) = size ∷ objects (length vs)

-- the types of a row's operands
abbrev pub operands : Api → List Reading → List Kind
operands (api.Binary b) vs = objects 2
operands (api.InPlace b) vs = objects 2
operands (api.Unary u) vs = objects 1
operands api.GetAttr vs = objects 2
operands api.GetItem vs = objects 2
operands api.GetIter vs = objects 1
operands api.RichCompare vs = kind.Object ∷ kind.Object ∷ int ∷ []
operands api.CallFunctionObjArgs vs = all_but_last vs
operands api.FromLong vs = size ∷ []
operands api.FromUnsignedLong vs = ulong ∷ []
operands api.FromString vs = kind.Text ∷ kind.Null ∷ int ∷ []
operands api.FromStringAndSize vs = kind.Text ∷ size ∷ []
operands api.TuplePack vs = packed vs
operands api.ListNew vs = size ∷ []
operands api.DictNew vs = []
operands api.ImportModule vs = kind.Text ∷ []
operands api.ModuleCreate vs = kind.Definition ∷ []
operands api.MemoryViewFromObject vs = objects 1
operands api.GenericAlloc vs = kind.TypeObject ∷ size ∷ []
operands api.IterNext vs = objects 1
operands api.DictGetItem vs = objects 2
operands api.ModuleGetDict vs = objects 1
operands api.SetAttr vs = objects 3
operands api.DelAttr vs = objects 2
operands api.SetItem vs = objects 3
operands api.DelItem vs = objects 2
operands api.DictSetItem vs = objects 3
operands api.DictDelItem vs = objects 2
operands api.TypeReady vs = kind.TypeObject ∷ []
operands api.AddObjectRef vs = kind.Object ∷ kind.Text ∷ kind.Object ∷ []
operands api.AsLong vs = objects 1
operands api.AsUnsignedLong vs = objects 1
operands api.IsTrue vs = objects 1
operands api.Contains vs = objects 2
operands api.IsInstance vs = objects 2
operands api.ExceptionMatches vs = objects 2
operands api.ExceptionClassCheck vs = objects 1
operands api.SetString vs = kind.Object ∷ kind.Text ∷ []
operands api.WriteUnraisable vs = objects 1
operands api.Incref vs = objects 1
operands api.Decref vs = objects 1
operands api.Xdecref vs = objects 1
operands api.ListSetItem vs = kind.Object ∷ size ∷ kind.Object ∷ []
operands api.Occurred vs = []
operands api.GetRaised vs = []
operands api.SetRaised vs = objects 1
operands api.SaveThread vs = []
operands api.RestoreThread vs = kind.ThreadState ∷ []
operands api.GilEnsure vs = []
operands api.GilRelease vs = kind.LockState ∷ []
operands api.TypeCheck vs = kind.Object ∷ kind.TypeObject ∷ []
operands api.HasFeature vs = kind.TypeObject ∷ int ∷ []
operands api.GetBuffer vs = objects 1
operands api.TupleSize vs = objects 1
operands api.TupleItem vs = kind.Object ∷ size ∷ []
operands api.FormatTest vs = kind.Text ∷ kind.Text ∷ []

-- no NULL, and no arguments of an `__init__`, where an object, a type or a text is needed
abbrev pub is_needed : Kind → Value → Bool
is_needed kind.Object v = not (is_null v || is_tuple v)
is_needed kind.TypeObject v = not (is_null v)
is_needed kind.Text v = not (is_null v)
is_needed _ v = true

abbrev pub are_needed : List Kind → List Reading → Bool
are_needed (k ∷ ks) (v ∷ vs) = is_needed k v.value && are_needed ks vs
are_needed _ _ = true

-- operands as they are where they meet the types
abbrev pub converted_by : List Kind → List Value → List Value
converted_by (k ∷ ks) (v ∷ vs) = converted k v ∷ converted_by ks vs
converted_by ks vs = vs

abbrev pub values_by : Api → List Reading → List Value
values_by a vs = converted_by (operands a vs) (values_of vs)

-- ---- operations

-- the next operands of an operation: objects, numbers, texts
abbrev pub with_object : Value → (Obj → Option Op) → Option Op
with_object (value.Object o) more = more o
with_object _ more = None

abbrev pub with_number : Value → (ℤ → Option Op) → Option Op
with_number (value.Number z) more = more z
with_number _ more = None

abbrev pub with_text : Value → (List ℕ → Option Op) → Option Op
with_text (value.Text t) more = more t
with_text _ more = None

abbrev pub with_definition : Value → (List ℕ → Option Op) → Option Op
with_definition (value.Definition n) more = more n
with_definition _ more = None

abbrev pub with_class_of : Option TypeObject → (ClassName → Option Op) → Option Op
with_class_of None more = None
with_class_of (Some t) more = more (class_named t.name)

abbrev pub with_type : List CFile → Value → (ClassName → Option Op) → Option Op
with_type files (value.TypeObject t a) more = with_class_of (type_at files t) more
with_type files _ more = None

abbrev pub magnitude : ℤ → ℕ
magnitude (pos n) = n
magnitude (negsuc n) = suc n

abbrev pub comparison_of : ℤ → Option Comparison
comparison_of (pos zero) = Some comparison.Lt
comparison_of (pos (suc zero)) = Some comparison.Le
comparison_of (pos (suc (suc zero))) = Some comparison.Eq
comparison_of (pos (suc (suc (suc zero)))) = Some comparison.Ne
comparison_of (pos (suc (suc (suc (suc zero))))) = Some comparison.Gt
comparison_of (pos (suc (suc (suc (suc (suc zero)))))) = Some comparison.Ge
comparison_of _ = None

abbrev pub compare_op : Obj → Obj → Option Comparison → Option Op
compare_op x y None = None
compare_op x y (Some o) = Some (op.Compare o x y)

-- the first objects among some values, up to one that is none
abbrev pub objects_of : List Value → List Obj
objects_of [] = []
objects_of (value.Object o ∷ vs) = o ∷ objects_of vs
objects_of (v ∷ vs) = []

abbrev pub one_object : (Obj → Op) → List Value → Option Op
one_object o (x ∷ []) = with_object x (λ a. Some (o a))
one_object o _ = None

abbrev pub two_objects : (Obj → Obj → Op) → List Value → Option Op
two_objects o (x ∷ y ∷ []) = with_object x (λ a. with_object y (λ b. Some (o a b)))
two_objects o _ = None

abbrev pub three_objects : (Obj → Obj → Obj → Op) → List Value → Option Op
three_objects o (x ∷ y ∷ z ∷ []) = with_object x (λ a. with_object y (λ b. with_object z (λ d. Some (o a b d))))
three_objects o _ = None

abbrev pub one_number : (ℤ → Op) → List Value → Option Op
one_number o (x ∷ []) = with_number x (λ z. Some (o z))
one_number o _ = None

abbrev pub one_text : (List ℕ → Op) → List Value → Option Op
one_text o (x ∷ []) = with_text x (λ t. Some (o t))
one_text o _ = None

abbrev pub compare_of : List Value → Option Op
compare_of (x ∷ y ∷ z ∷ []) = with_object x (λ a. with_object y (λ b. with_number z (λ n. compare_op a b (comparison_of n))))
compare_of _ = None

abbrev pub call_of : List Value → Option Op
call_of [] = None
call_of (f ∷ vs) = with_object f (λ o. Some (op.Call o (objects_of vs)))

abbrev pub bigint_of : List Value → Option Op
bigint_of (x ∷ y ∷ z ∷ []) = with_text x (λ t. Some (op.Make (make.BigInt (c_string t))))
bigint_of _ = None

abbrev pub str_of : List Value → Option Op
str_of (x ∷ z ∷ []) = with_text x (λ t. Some (op.Make (make.Str t)))
str_of _ = None

abbrev pub tuple_of : List Value → Option Op
tuple_of [] = None
tuple_of (z ∷ vs) = Some (op.Make (make.TupleOf (objects_of vs)))

abbrev pub module_of : List Value → Option Op
module_of (x ∷ []) = with_definition x (λ n. Some (op.Make (make.Module n)))
module_of _ = None

abbrev pub alloc_of : List CFile → List Value → Option Op
alloc_of files (x ∷ z ∷ []) = with_type files x (λ n. Some (op.Alloc n))
alloc_of files _ = None

abbrev pub ready_of : List CFile → List Value → Option Op
ready_of files (x ∷ []) = with_type files x (λ n. Some (op.Change (change.Ready n)))
ready_of files _ = None

abbrev pub add_object_of : List Value → Option Op
add_object_of (x ∷ y ∷ z ∷ []) = with_object x (λ a. with_text y (λ t. with_object z (λ b. Some (op.Change (change.AddObject a (c_string t) b)))))
add_object_of _ = None

abbrev pub fail_of : List Value → Option Op
fail_of (x ∷ y ∷ []) = with_object x (λ a. with_text y (λ t. Some (op.Fail a (c_string t))))
fail_of _ = None

-- the operation that a row asks of these values
abbrev pub op_of : List CFile → Api → List Value → Option Op
op_of files (api.Binary b) vs = two_objects (op.Binary b) vs
op_of files (api.InPlace b) vs = two_objects (op.InPlace b) vs
op_of files (api.Unary u) vs = one_object (op.Unary u) vs
op_of files api.GetAttr vs = two_objects op.GetAttr vs
op_of files api.GetItem vs = two_objects op.GetItem vs
op_of files api.GetIter vs = one_object op.Iter vs
op_of files api.RichCompare vs = compare_of vs
op_of files api.CallFunctionObjArgs vs = call_of vs
op_of files api.FromLong vs = one_number (λ z. op.Make (make.Int z)) vs
op_of files api.FromUnsignedLong vs = one_number (λ z. op.Make (make.Uint (magnitude z))) vs
op_of files api.FromString vs = bigint_of vs
op_of files api.FromStringAndSize vs = str_of vs
op_of files api.TuplePack vs = tuple_of vs
op_of files api.ListNew vs = one_number (λ z. op.Make (make.ListOfLength z)) vs
op_of files api.DictNew vs = Some (op.Make make.EmptyDict)
op_of files api.ImportModule vs = one_text (λ t. op.Make (make.Import (c_string t))) vs
op_of files api.ModuleCreate vs = module_of vs
op_of files api.MemoryViewFromObject vs = one_object op.View vs
op_of files api.GenericAlloc vs = alloc_of files vs
op_of files api.IterNext vs = one_object op.Next vs
op_of files api.DictGetItem vs = two_objects op.DictGet vs
op_of files api.ModuleGetDict vs = one_object op.Dict vs
op_of files api.SetAttr vs = three_objects (λ a b d. op.Change (change.SetAttr a b d)) vs
op_of files api.DelAttr vs = two_objects (λ a b. op.Change (change.DelAttr a b)) vs
op_of files api.SetItem vs = three_objects (λ a b d. op.Change (change.SetItem a b d)) vs
op_of files api.DelItem vs = two_objects (λ a b. op.Change (change.DelItem a b)) vs
op_of files api.DictSetItem vs = three_objects (λ a b d. op.Change (change.DictSet a b d)) vs
op_of files api.DictDelItem vs = two_objects (λ a b. op.Change (change.DictDel a b)) vs
op_of files api.TypeReady vs = ready_of files vs
op_of files api.AddObjectRef vs = add_object_of vs
op_of files api.AsLong vs = one_object op.AsLong vs
op_of files api.AsUnsignedLong vs = one_object op.AsUlong vs
op_of files api.IsTrue vs = one_object op.IsTrue vs
op_of files api.Contains vs = two_objects op.Contains vs
op_of files api.IsInstance vs = two_objects op.IsInstance vs
op_of files api.ExceptionMatches vs = two_objects op.Matches vs
op_of files api.ExceptionClassCheck vs = one_object op.IsClass vs
op_of files api.SetString vs = fail_of vs
op_of files api.WriteUnraisable vs = Some op.Unraisable
op_of files _ vs = None

-- what an answer may add
abbrev pub making_of_type : List Value → Making
making_of_type (value.TypeObject t a ∷ vs) = making.Instance t a
making_of_type _ = making.Nothing

abbrev pub making_of : Api → List Value → Making
making_of api.GenericAlloc vs = making_of_type vs
making_of api.MemoryViewFromObject vs = making.View
making_of _ vs = making.Nothing

-- ---- asking

-- the type of what a row gives, if it gives anything
abbrev pub number_given : Api → Kind
number_given api.AsLong = size
number_given api.AsUnsignedLong = ulong
number_given api.TupleSize = size
number_given api.SaveThread = kind.ThreadState
number_given api.GilEnsure = kind.LockState
number_given _ = int

abbrev pub given_by : Gives → Api → Option Kind
given_by gives.New a = Some kind.Object
given_by gives.Borrowed a = Some kind.Object
given_by gives.Number a = Some (number_given a)
given_by gives.Nothing a = None

abbrev pub receives_row : State → Frame → Option Variable → Option Kind → Bool
receives_row c f None k = true
receives_row c f (Some x) None = false
receives_row c f (Some x) (Some k) = receives c f (Some x) k

-- the fault where a row is called with an exception set that needs none, or would set one over another
abbrev pub clean_fault : ApiRow → FaultKind
clean_fault r = if r.clean then fault.ErrorSet else fault.ErrorLost

abbrev pub sets_error : Api → Bool
sets_error api.SetString = true
sets_error api.SetRaised = true
sets_error _ = false

abbrev pub may_run : State → Api → ApiRow → Bool
may_run c a r = is_none c.thread.error || not (r.clean || sets_error a)

-- `unraisable` clears the exception before its calling entries run
abbrev pub clears_error : Api → Bool
clears_error api.WriteUnraisable = true
clears_error _ = false

abbrev pub asking : Api → ApiRow → Option Variable → List Value → Op → Asking
asking a r x vs o = record { op = o; row = r; making = making_of a vs; target = x; clears = clears_error a }

-- Numbers and texts among the operands, as far as they are set: a comparison from 0 to 5, base 10, as many bytes as the text
-- has, as many objects as are packed.
abbrev pub is_number_of : ℕ → Value → Bool
is_number_of n (value.Number (pos m)) = nat_eq n m
is_number_of n (value.Number (negsuc m)) = false
is_number_of n v = true

abbrev pub is_comparison : Value → Bool
is_comparison (value.Number z) = is_some (comparison_of z)
is_comparison v = true

abbrev pub is_length_of : Value → Value → Bool
is_length_of (value.Text t) n = is_number_of (length t) n
is_length_of v n = true

abbrev pub suit_values : Api → List Value → Bool
suit_values api.RichCompare (x ∷ y ∷ z ∷ []) = is_comparison z
suit_values api.FromString (x ∷ y ∷ z ∷ []) = is_number_of 10 z
suit_values api.FromStringAndSize (x ∷ z ∷ []) = is_length_of x z
suit_values api.TuplePack (z ∷ vs) = is_number_of (length vs) z
suit_values a vs = true

-- whether the operands are those of a row
abbrev pub suit_row : Api → List Reading → Bool
suit_row a vs = fits (operands a vs) vs && (are_needed (operands a vs) vs && suit_values a (values_by a vs))

-- `x = Py..(k, ..);` where the script is asked
abbrev pub ask : List CFile → State → Frame → Option Variable → Api → ApiRow → List Argument → List Reading → Planned
ask files c f x a r ks vs =
    need (suit_row a vs && receives_row c f x (given_by r.gives a)) fault.Stuck
    (need (all_set vs) fault.Undefined
    (need_strictly c c.shared.lock fault.Unlocked
    (need (may_run c a r) (clean_fault r)
    (need_strictly c (all_held c (passed vs)) fault.Unheld
    (need_some (op_of files a (values_by a vs)) fault.Stuck (λ o. Asks (asking a r x (values_by a vs) o)))))))
