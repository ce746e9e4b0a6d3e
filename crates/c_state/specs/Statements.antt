-- One statement of a function: what each form comes to.
use Rattle.std.specs.Prelude.{ℕ, Bool, true, false, ◌&&◌, List, [], ◌∷◌, Option, Some, None, is_none, is_some, if◌then◌else◌}
use Rattle.api_model.specs.declared.rows.ApiRow.{ApiRow}
use Rattle.api_model.specs.declared.op.Op.{Op}
use Rattle.api_model.specs.declared.op.Op.TheVariants as op
use Rattle.api_model.specs.declared.rows.Gives.TheVariants as gives
use Rattle.api_model.specs.declared.rows.Fails.TheVariants as fails
use Rattle.api_model.specs.Rows.{asked, row_of}
use Rattle.c_tree.specs.declared.name.Numbered.{Numbered}
use Rattle.c_tree.specs.declared.name.FunctionName.TheVariants as function
use Rattle.c_tree.specs.declared.name.Variable.{Variable}
use Rattle.c_tree.specs.declared.statement.Argument.{Argument}
use Rattle.c_tree.specs.declared.statement.Callee.{Callee}
use Rattle.c_tree.specs.declared.statement.Callee.TheVariants as callee
use Rattle.c_tree.specs.declared.statement.CStmt.{CStmt}
use Rattle.c_tree.specs.declared.statement.CStmt.TheVariants as stmt
use Rattle.c_tree.specs.declared.item.Line.{Line}
use Rattle.c_tree.specs.declared.item.MethodRow.{MethodRow}
use Rattle.c_tree.specs.declared.item.CItem.{CItem}
use Rattle.c_tree.specs.declared.item.CItem.TheVariants as item
use Rattle.c_tree.specs.declared.item.CFile.{CFile}
use Rattle.c_value.specs.declared.api.Api.{Api}
use Rattle.c_value.specs.declared.api.Api.TheVariants as api
use Rattle.c_value.specs.declared.step.FaultKind.TheVariants as fault
use Rattle.c_value.specs.declared.value.Value.{Value}
use Rattle.c_value.specs.declared.value.Value.TheVariants as value
use Rattle.c_value.specs.declared.value.Reading.{Reading}
use Rattle.c_value.specs.declared.frame.Making.TheVariants as making
use Rattle.c_value.specs.Names.{same_number}
use Rattle.c_state.specs.Linked.{function_named, items_at, table_named}
use Rattle.c_value.specs.Values.{int, is_set}
use Rattle.api_model.specs.declared.entry.Entry.{Entry}
use Rattle.c_state.specs.State.{in_frame}
use Rattle.c_value.specs.declared.change.Planned.{Planned}
use Rattle.c_value.specs.declared.change.Planned.TheVariants.{Fault, Asks}
use Rattle.c_value.specs.declared.change.Asking.{Asking}
use Rattle.c_state.specs.Planned.{need, need_some, need_strictly}
use Rattle.c_state.specs.Reads.{read, read_each, variable_reading, takes}
use Rattle.c_state.specs.Assignments.{assign, binary, invert, cast, goto}
use Rattle.c_state.specs.Fields.{field_statement, load_field, store_field, store_table, has_heap_type, free, is_plain, uses}
use Rattle.c_state.specs.Calls.{call, call_method}
use Rattle.c_state.specs.ApiNames.{api_of}
use Rattle.c_state.specs.Rows.{ask}
use Rattle.c_state.specs.Direct.{direct}
use Rattle.c_state.specs.Buffers.{view_number, is_indirect, has_format, format_test}
use Rattle.c_state.specs.Views.{take_buffer, copy_buffer, move_buffer, store_memory, load_memory, store_extent, load_extent}
use Rattle.c_state.specs.Elements.{load_element, store_element}
use Rattle.c_state.specs.Returns.{return_value, return_nothing}
use Rattle.c_state.specs.declared.state.Frame.{Frame}
use Rattle.c_state.specs.declared.state.State.{State}
use Rattle.c_frame.specs.Lines.{after_label, Next}

-- ---- functions of the API

abbrev pub by_row : List CFile → State → Frame → Option Variable → Api → List Argument → List Reading → ApiRow → Planned
by_row files c f x a ks vs r = if r.entry then ask files c f x a r ks vs else direct files c f x a r ks vs

abbrev pub by_function : List CFile → State → Frame → Option Variable → List ℕ → List Argument → List Reading → Api → Planned
by_function files c f x name ks vs api.FormatTest = format_test c f x vs
by_function files c f x name ks vs a = need_some (row_of name) fault.Stuck (by_row files c f x a ks vs)

-- a name that is no function of the API is none of the profile
abbrev pub call_named : List CFile → State → Frame → Option Variable → List ℕ → List Argument → List Reading → Planned
call_named files c f x name ks vs = need_some (api_of name) fault.Stuck (by_function files c f x name ks vs)

abbrev pub call_by : List CFile → State → Frame → Option Variable → Callee → List Argument → List Reading → Planned
call_by files c f x (callee.Function name) ks vs = call files c f x name ks vs
call_by files c f x (callee.Named name) ks vs = call_named files c f x name ks vs

-- ---- `x = PyCFunction_Check(y) && PyCFunction_GetFunction(y) == ..cyc_w_M_K;`

abbrev pub row_with : List MethodRow → Numbered → Option (List ℕ) → Option (List ℕ)
row_with [] wrapper other = other
row_with (r ∷ rs) wrapper other = if same_number r.wrapper wrapper then Some r.name else row_with rs wrapper other

-- the name under which a file's tables have a wrapper
abbrev pub name_with : List CItem → Numbered → Option (List ℕ)
name_with [] wrapper = None
name_with (item.Methods static t rows ∷ is) wrapper = row_with rows wrapper (name_with is wrapper)
name_with (i ∷ is) wrapper = name_with is wrapper

abbrev pub native_of : Value → List ℕ → Option Op
native_of (value.Object o) name = Some (op.Native o name)
native_of v name = None

abbrev pub asking_native : Variable → Op → Asking
asking_native x o = record { op = o; row = asked gives.Number fails.Never; making = making.Nothing; target = Some x; clears = false }

abbrev pub native : State → Frame → Variable → Reading → List ℕ → Planned
native c f x y name =
    need (is_plain y && takes c f x int) fault.Stuck
    (need (is_set y.value) fault.Undefined
    (need_strictly c c.shared.lock fault.Unlocked
    (need (is_none c.thread.error) fault.ErrorSet
    (need_strictly c (uses c y) fault.Unheld
    (need_some (native_of y.value name) fault.Stuck (λ o. Asks (asking_native x o)))))))

abbrev pub is_native : List CFile → State → Frame → Variable → Variable → Numbered → Planned
is_native files c f x y wrapper =
    need (is_some (function_named files f.file (function.Wrapper wrapper))) fault.Stuck
    (need_some (name_with (items_at files f.file) wrapper) fault.Stuck (λ name.
    (need_some (variable_reading c f y) fault.Stuck (λ v. native c f x v name))))

-- ---- the forms

-- one statement, with the lines after it in the newest frame f
abbrev pub act : List CFile → List Entry → State → Frame → CStmt → Planned
act files script c f (stmt.Assign x k) = need_some (read files c f k) fault.Stuck (assign c f x k)
act files script c f (stmt.Binary x a o b) =
    need_some (read files c f a) fault.Stuck (λ v. need_some (read files c f b) fault.Stuck (λ w. binary c f x a v o b w))
act files script c f (stmt.Invert x k) = need_some (read files c f k) fault.Stuck (invert c f x k)
act files script c f (stmt.Cast x t k) = need_some (read files c f k) fault.Stuck (cast c f x t k)
act files script c f (stmt.Call x name ks) = need_some (read_each files c f ks) fault.Stuck (call_by files c f x name ks)
act files script c f (stmt.LoadField x p) = field_statement files c f p (load_field c f x p)
act files script c f (stmt.StoreField p k) =
    field_statement files c f p (λ y t. need_some (read files c f k) fault.Stuck (store_field c p y t k))
act files script c f (stmt.StoreTable y class) =
    need (is_some (table_named files class)) fault.Stuck
    (need_some (variable_reading c f y) fault.Stuck (store_table c y class))
act files script c f (stmt.CallMethod x class y j ks) =
    need_some (variable_reading c f y) fault.Stuck (λ v.
    need_some (read_each files c f ks) fault.Stuck (call_method files c f x class y j v ks))
act files script c f (stmt.IsNative x y wrapper) = is_native files c f x y wrapper
act files script c f (stmt.HasHeapType x y) = need_some (variable_reading c f y) fault.Stuck (has_heap_type c f x y)
act files script c f (stmt.Goto test label) = need_some (after_label f.function.lines label) fault.Stuck (λ ls. goto files c f test label)
act files script c f (stmt.Return None) = return_nothing c f
act files script c f (stmt.Return (Some k)) = need_some (read files c f k) fault.Stuck (return_value c f k)
act files script c f (stmt.Free x) = need_some (variable_reading c f x) fault.Stuck (free c x)
act files script c f (stmt.ViewNumber x y n) = need_some (variable_reading c f y) fault.Stuck (view_number c f x y n)
act files script c f (stmt.IsIndirect x y) = need_some (variable_reading c f y) fault.Stuck (is_indirect c f x y)
act files script c f (stmt.HasFormat x y letters) = need_some (variable_reading c f y) fault.Stuck (has_format c f x y letters)
act files script c f (stmt.TakeBuffer p y) = need_some (variable_reading c f y) fault.Stuck (take_buffer files c f p y)
act files script c f (stmt.CopyBuffer p q) = copy_buffer files c f p q
act files script c f (stmt.MoveBuffer p k) = need_some (read files c f k) fault.Stuck (move_buffer files c f p k)
act files script c f (stmt.StoreMemory p k) = need_some (read files c f k) fault.Stuck (store_memory files c f p k)
act files script c f (stmt.LoadMemory x p) = load_memory files c f x p
act files script c f (stmt.StoreExtent p e j k) = need_some (read files c f k) fault.Stuck (store_extent files c f p e j k)
act files script c f (stmt.LoadExtent x p e j) = load_extent files c f x p e j
act files script c f (stmt.LoadElement x t v y) =
    need_some (variable_reading c f v) fault.Stuck (λ a.
    need_some (variable_reading c f y) fault.Stuck (λ b. load_element script c f x t v a y b))
act files script c f (stmt.StoreElement t v y k) =
    need_some (variable_reading c f v) fault.Stuck (λ a.
    need_some (variable_reading c f y) fault.Stuck (λ b.
    need_some (read files c f k) fault.Stuck (store_element c f t v a y b k)))

-- the frame behind the statement
abbrev pub with_code : List Line → Frame → Frame
with_code ls f = record f { code = ls }

-- a statement of the newest frame; a body that ends without a return is stuck
abbrev pub run_next : List CFile → List Entry → State → Frame → Option Next → Planned
run_next files script c f None = Fault fault.Stuck
run_next files script c f (Some n) = act files script c f n.statement

abbrev pub past_next : Option Next → State → State
past_next None c = c
past_next (Some n) c = in_frame (with_code n.rest) c

abbrev pub is_element_read : Option Next → Bool
is_element_read None = false
is_element_read (Some n) = reads_element n.statement
  where
    reads_element : CStmt → Bool
    reads_element (stmt.LoadElement x t v y) = true
    reads_element _ = false
