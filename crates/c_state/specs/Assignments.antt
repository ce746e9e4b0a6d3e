-- `x = k;`, `x = k OP k;`, `x = ~k;`, `x = (T)k;` and jumps (ISO/IEC 9899:2011 6.5.3.3 to 6.5.16, 6.8.6.1).
use Rattle.api_model.specs.declared.object.Obj.{Obj}
use Rattle.std.specs.Prelude.{zero, Bool, true, false, not, ◌&&◌, ◌||◌, List, Option, Some, None, ℤ, pos, is_none, ℕ, ◌++◌, [], option_to_list}
use Rattle.cy_num.specs.declared.types.CNum.{CNum}
use Rattle.cy_num.specs.Wrapping.{wrap}
use Rattle.c_tree.specs.declared.name.Variable.{Variable}
use Rattle.c_tree.specs.declared.name.Variable.TheVariants as variable
use Rattle.c_tree.specs.declared.value.CType.{CType}
use Rattle.c_tree.specs.declared.value.CValue.{CValue}
use Rattle.c_tree.specs.declared.statement.BinaryOp.{BinaryOp}
use Rattle.c_tree.specs.declared.statement.BinaryOp.TheVariants as op
use Rattle.c_tree.specs.declared.statement.CTest.{CTest}
use Rattle.c_tree.specs.declared.statement.CTest.TheVariants as test
use Rattle.c_tree.specs.declared.item.CFile.{CFile}
use Rattle.c_arith.specs.declared.number.Computed.{Computed}
use Rattle.c_arith.specs.declared.number.Computed.TheVariants as computation
use Rattle.c_arith.specs.declared.number.Number.{Number}
use Rattle.c_arith.specs.Operators.{computed, inverted}
use Rattle.c_value.specs.declared.step.FaultKind.TheVariants as fault
use Rattle.c_value.specs.declared.kind.Kind.{Kind}
use Rattle.c_value.specs.declared.kind.Kind.TheVariants as kind
use Rattle.c_value.specs.declared.value.Value.{Value}
use Rattle.c_value.specs.declared.value.Value.TheVariants as value
use Rattle.c_value.specs.declared.value.Reading.{Reading}
use Rattle.c_value.specs.Values.{kind_of, int, converts, is_number, is_view, are_pointers, is_set, same_pointer}
use Rattle.c_value.specs.declared.change.Flow.TheVariants as flow
use Rattle.c_value.specs.declared.change.Planned.{Planned}
use Rattle.c_value.specs.declared.change.Planned.TheVariants.{Does}
use Rattle.c_state.specs.Planned.{need, need_some, need_strictly, nothing, lending}
use Rattle.c_state.specs.Reads.{read, lends, may_read, takes}
use Rattle.c_state.specs.Stores.{give, may_store_to, may_write_to, is_tuple}
use Rattle.c_state.specs.declared.state.Frame.{Frame}
use Rattle.c_state.specs.declared.state.State.{State}

-- the arguments of an `__init__` go to variables of functions alone
abbrev pub may_hold : Variable → Value → Bool
may_hold (variable.Place p) v = not (is_tuple v)
may_hold x v = true

-- `x = k;`
abbrev pub assign : State → Frame → Variable → CValue → Reading → Planned
assign c f x k v =
    need (takes c f x v.kind && (may_store_to c f x && may_hold x v.value)) fault.Stuck
    (need (is_set v.value) fault.Undefined
    (need_strictly c (may_read c k v && may_write_to c f x) fault.Unlocked
    (give c f x v.value (lending (lends k v)))))

-- ---- operators

abbrev pub truth : Bool → Value
truth true = value.Number (pos 1)
truth false = value.Number (pos 0)

abbrev pub is_equality : BinaryOp → Bool
is_equality op.Equal = true
is_equality op.NotEqual = true
is_equality _ = false

abbrev pub by_equality : BinaryOp → Bool → Bool
by_equality op.NotEqual same = not same
by_equality _ same = same

-- two numbers may be operands of any operator, two pointers of `==` and `!=` alone
abbrev pub may_compute : Reading → BinaryOp → Reading → Bool
may_compute v o w = (is_number v.kind && is_number w.kind) || (is_equality o && are_pointers v.kind w.kind)

abbrev pub result_of : Computed → Option (Kind × Value)
result_of (computation.Value n) = Some (kind.Number n.kind, value.Number n.value)
result_of computation.Undefined = None

-- a number is one of its type (6.2.6.1)
abbrev pub number : CNum → ℤ → Number
number t z = record { kind = t; value = wrap t z }

abbrev pub computed_by : Kind → Value → BinaryOp → Kind → Value → Option (Kind × Value)
computed_by (kind.Number t) (value.Number a) o (kind.Number u) (value.Number b) = result_of (computed o (number t a) (number u b))
computed_by (kind.Number t) v o (kind.Number u) w = None
computed_by j v o k w = Some (int, truth (by_equality o (same_pointer v w)))

-- the type and the value of `k OP k`; nothing where C leaves it undefined
abbrev pub computed_of : Reading → BinaryOp → Reading → Option (Kind × Value)
computed_of v o w = computed_by v.kind v.value o w.kind w.value

abbrev pub both_set : Reading → Reading → Bool
both_set v w = is_set v.value && is_set w.value

-- `x = k OP k;`
abbrev pub binary : State → Frame → Variable → CValue → Reading → BinaryOp → CValue → Reading → Planned
binary c f x a v o b w =
    need (may_compute v o w) fault.Stuck
    (need (takes c f x int && may_store_to c f x) fault.Stuck
    (need (both_set v w) fault.Undefined
    (need_some (computed_of v o w) fault.Undefined (λ r.
    (need_strictly c (may_read c a v && (may_read c b w && may_write_to c f x)) fault.Unlocked
    (give c f x r.1 (lending (lends a v ++ lends b w))))))))

abbrev pub inverse_of : Kind → Value → Value
inverse_of (kind.Number t) (value.Number a) = value.Number (inverted (number t a)).value
inverse_of k v = v

-- `x = ~k;`
abbrev pub invert : State → Frame → Variable → CValue → Reading → Planned
invert c f x k v =
    need (is_number v.kind && (takes c f x int && may_store_to c f x)) fault.Stuck
    (need (is_set v.value) fault.Undefined
    (need_strictly c (may_read c k v && may_write_to c f x) fault.Unlocked
    (give c f x (inverse_of v.kind v.value) nothing)))

-- `x = (T)k;`: a number to a number type, or a pointer to its own type
abbrev pub cast_value : Kind → Value → Value
cast_value (kind.Number t) (value.Number z) = value.Number (wrap t z)
cast_value k v = v

-- a struct is no type of a cast (6.5.4)
abbrev pub may_cast : Kind → Kind → Bool
may_cast from to = converts from to && not (is_view to)

abbrev pub cast : State → Frame → Variable → CType → CValue → Reading → Planned
cast c f x t k v =
    need (may_cast v.kind (kind_of t) && (takes c f x (kind_of t) && may_store_to c f x)) fault.Stuck
    (need (is_set v.value) fault.Undefined
    (need_strictly c (may_read c k v && may_write_to c f x) fault.Unlocked
    (give c f x (cast_value (kind_of t) v.value) (lending (lends k v)))))

-- ---- jumps

-- a jump to a label where a test holds, beside loans
abbrev pub branch : ℕ → List Obj → Bool → Planned
branch label os true = Does (record nothing { lends = os; flow = flow.Jumps label })
branch label os false = Does (lending os)

abbrev pub is_true : Value → Bool
is_true (value.Number (pos zero)) = false
is_true _ = true

-- `if (k OP k) goto L;`
abbrev pub goto_compare : State → ℕ → CValue → Reading → BinaryOp → CValue → Reading → Planned
goto_compare c label a v o b w =
    need (may_compute v o w) fault.Stuck
    (need (both_set v w) fault.Undefined
    (need_some (computed_of v o w) fault.Undefined (λ r.
    (need_strictly c (may_read c a v && may_read c b w) fault.Unlocked
    (branch label (lends a v ++ lends b w) (is_true r.1))))))

-- `if (PyErr_Occurred()) goto L;` lends the exception
abbrev pub goto_error : State → ℕ → Planned
goto_error c label = need_strictly c c.shared.lock fault.Unlocked (branch label (option_to_list c.thread.error) (not (is_none c.thread.error)))

abbrev pub goto : List CFile → State → Frame → CTest → ℕ → Planned
goto files c f (test.Compare a o b) label =
    need_some (read files c f a) fault.Stuck (λ v.
    need_some (read files c f b) fault.Stuck (λ w. goto_compare c label a v o b w))
goto files c f test.ErrorSet label = goto_error c label
goto files c f test.Always label = branch label [] true
