-- A call from outside of a thin function.
use Rattle.std.proofs.Common.{◌≡◌, ℕ, ◌≤◌, ◌<◌, Bool, true, false, not, List, [], ◌∷◌, length, map, Option, Some, None, refl, sym, ap, ◌∙◌, subst, arith}
use Rattle.std.proofs.lemmas.Bool.{eqb-true}
use Rattle.std.specs.Prelude.{ℤ, nat_eq, pos, if◌then◌else◌}
use Rattle.std.specs.Str.{bytes_eq}
use Rattle.thin_state.specs.declared.space.BinaryOp.TheVariants as binary
use Rattle.c_token.specs.declared.exception.Exception.TheVariants as exception
use Rattle.thin_state.specs.declared.space.Obj.{Obj}
use Rattle.thin_state.specs.declared.space.Obj.TheVariants as obj
use Rattle.thin_state.specs.declared.space.Callee.TheVariants as callee
use Rattle.thin_state.specs.declared.space.Op.{Op}
use Rattle.thin_state.specs.declared.space.Op.TheVariants as op
use Rattle.thin_state.specs.declared.space.Answer.{Answer}
use Rattle.thin_state.specs.declared.space.Event.TheVariants as event
use Rattle.thin_state.specs.declared.tree.Variable.{Variable}
use Rattle.thin_state.specs.declared.tree.Variable.TheVariants as variable
use Rattle.thin_state.specs.declared.tree.Place.{Place}
use Rattle.thin_state.specs.declared.tree.Place.TheVariants as place
use Rattle.thin_state.specs.declared.tree.FunctionName.TheVariants as function
use Rattle.thin_state.specs.declared.tree.ApiRow.TheVariants as row
use Rattle.thin_state.specs.declared.tree.CValue.TheVariants as operand
use Rattle.thin_state.specs.declared.tree.Target.TheVariants as target
use Rattle.thin_state.specs.declared.tree.CStmt.TheVariants as stmt
use Rattle.thin_state.specs.declared.tree.Line.{Line}
use Rattle.thin_state.specs.declared.tree.Line.TheVariants as line
use Rattle.thin_state.specs.declared.tree.CFile.{CFile}
use Rattle.thin_state.specs.declared.state.FaultKind.TheVariants as fault
use Rattle.thin_state.specs.declared.state.Kind.TheVariants as kind
use Rattle.thin_state.specs.declared.state.Value.{Value}
use Rattle.thin_state.specs.declared.state.Value.TheVariants as value
use Rattle.thin_state.specs.declared.state.Reading.{Reading}
use Rattle.thin_state.specs.declared.state.Spot.{Spot}
use Rattle.thin_state.specs.declared.state.Entered.TheVariants as entered
use Rattle.thin_state.specs.declared.state.Doing.{Doing}
use Rattle.thin_state.specs.declared.state.Doing.TheVariants as doing
use Rattle.thin_state.specs.declared.state.Course.TheVariants as course
use Rattle.thin_state.specs.Objects.{same_obj, NewResult, Gave, Raises, new_result, sure_result}
use Rattle.thin_state.specs.World.{World, first_world, say}
use Rattle.thin_state.specs.State.{Frame, CState, has, held, lookup}
use Rattle.thin_state.specs.Reads.{cell_reading, one_more_reading, some_reading, frame_of, wrapper_of, entered_in}
use Rattle.thin_state.specs.Statements.{Went, need_some, api, call, branch, same_int}
use Rattle.thin_state.specs.Outside.{deliver, deliver_new, entered_frame}
use Rattle.thin_state.specs.Machine.{move}
use Rattle.cy_mean.specs.declared.ThinFunction.{ThinFunction}
use Rattle.cy_mean.specs.Texts.{arity_text}
use Rattle.cy_mean.specs.Source.{Expression, Named, Binary, Statement, Return, thin_function, thin_set}
use Rattle.cy_mean.specs.Meaning.{ReadyModule, SourceState, Outcome, then_do, Awaiter, Local, bind_all, eval, exec, suite, Exit, Normal, Returns, result_of, raising, operate, give, give_new, raise_it, leave, leaves, leaves_raise, results, returning, after_statement, Back, function_in, await_within}
use Rattle.cy_mean.proofs.Same.{obj_same, or_right, and_true}
use Rattle.cy_mean.proofs.Moves.{Pace, Comes, here, one, comes_on}
use Rattle.cy_mean.proofs.Follows.{Joint, Follows, any_value, no_value, moved_on, then_follows, either_follows, spent}
use Rattle.cy_mean.proofs.Operations.{Setting, standing, asking, source_at, worlds, AskFollows, CallFollows, Realised, AllRealised}
use Rattle.cy_mean.proofs.Statements.{object_readings, object_values, held_lent, all_lent, int-small, needed, api_asks, call_enters}
use Rattle.cy_mean.proofs.Nodes.{unit_follows, name_follows}
use Rattle.thin_source.specs.Thin.{IsThin}
use Rattle.thin_code.specs.ThinC.{numbers_below, sum_lines, sum_function, wrong_count, wrapper_lines, wrapper_function, leave_if_null, number_of, thin_files}
use Rattle.thin_sound.proofs.ThinSound.Parameters.{cells_of, kinds-are, Argument, argument_of, arguments_read, no_variable, no_loan}

-- a move pays for five units: the four nodes of the body and the call
abbrev pub thin_pace : List ℕ → ThinFunction → Pace
thin_pace name thin = record { files = thin_files name thin; weight = 5 }

-- a place that was stored into
abbrev pub kept : Place → Obj → Spot
kept p o = record { place = p; kind = kind.PyObject; value = value.Object o; stored = true }

-- the places once the module is ready
abbrev pub ready_spots : ReadyModule → List Spot
ready_spots r =
    kept place.Module r.object
    ∷ kept place.Dictionary r.dictionary
    ∷ kept place.Builtins r.builtins
    ∷ record { place = place.Ready; kind = kind.Int; value = value.Number (pos 1); stored = true }
    ∷ []

abbrev pub ready_base : ReadyModule → CState
ready_base r = record {
  world = first_world [];
  frames = [];
  places = [] ∷ ready_spots r ∷ [];
  begun = 2;
  course = course.Goes;
  error = None;
  lock = true;
  loans = [];
}

-- the state once the module is ready
abbrev pub live : ReadyModule → World → List Frame → CState
live r w fs = standing (ready_base r) w fs

abbrev pub raised_at : ReadyModule → World → List Frame → Obj → CState
raised_at r w fs e = record (live r w fs) { error = Some e }

abbrev pub thin_setting : List ℕ → ThinFunction → ReadyModule → Setting
thin_setting name thin r = record { pace = thin_pace name thin; set = thin_set name thin; ready = r ∷ []; base = ready_base r }

-- the lines that are left, from some place on

abbrev pub return_line : Line
return_line = line.Statement (stmt.Return (operand.Variable variable.Returned))

abbrev error_lines : List ℕ → ℕ → List Line
error_lines name count = wrong_count name count ∷ return_line ∷ []

abbrev back_lines : List ℕ → ℕ → List Line
back_lines name count = return_line ∷ line.Label 0 ∷ error_lines name count

abbrev call_lines : List ℕ → ℕ → List Line
call_lines name count =
    line.Statement (stmt.Call (Some variable.Returned) (function.Plain 0 0) (map operand.Argument (numbers_below count))) ∷ back_lines name count

abbrev end_lines : List Line
end_lines = line.Label 0 ∷ return_line ∷ []

abbrev keep_lines : List Line
keep_lines =
    line.Statement (stmt.Assign (target.Variable variable.Returned) (operand.Variable (variable.Temporary 0))) ∷ end_lines

abbrev after_sum : List Line
after_sum = leave_if_null 0 ∷ keep_lines

module _ (name : List ℕ) (thin : ThinFunction) (r : ReadyModule) (n : ℕ) (asks : AskFollows (thin_setting name thin r) n) (args : List Obj) (fs : List Frame) (raised : Obj → World → CState) where
  abbrev pace : Pace
  pace = thin_pace name thin

  abbrev setting : Setting
  setting = thin_setting name thin r

  abbrev files : List CFile
  files = thin_files name thin

  abbrev count : ℕ
  count = length thin.parameters

  abbrev sees : World → SourceState
  sees w = source_at (r ∷ []) w

  abbrev await : Awaiter
  await = await_within (thin_set name thin) n

  -- the wrapper's frame at this place, with this result
  abbrev wrapping : List Line → Value → List Obj → Doing → Frame
  wrapping code v own d = record (entered_frame 1 (wrapper_function thin.name count) args true) {
    code = code;
    variables =
        record { variable = variable.Returned; kind = kind.PyObject; value = v }
        ∷ record { variable = variable.SelfObject; kind = kind.PyObject; value = value.Null }
        ∷ record { variable = variable.Arguments; kind = kind.Arguments; value = value.Arguments args }
        ∷ record { variable = variable.ArgumentCount; kind = kind.PySsizeT; value = value.Number (pos (length args)) }
        ∷ [];
    own = own;
    doing = d;
  }

  abbrev outer : Joint World
  outer = worlds setting raised

  abbrev left_at : Back → World → CState
  left_at e v = live r v fs

  abbrev entering : World → CState
  entering w = live r w (wrapping (wrapper_lines thin.name count) value.Null [] doing.Runs ∷ fs)

  -- the test of the number of arguments
  tests : count < 2147483648 → (w : World) (q : Bool) → nat_eq (length args) count ≡ q → move files (entering w) ≡ branch (entering w) (wrapping (call_lines thin.name count) value.Null [] doing.Runs) fs (error_lines thin.name count) (not q)
  tests small w q e =
      let next = wrapping (call_lines thin.name count) value.Null [] doing.Runs in
      ap (λ (z : ℤ). branch (entering w) next fs (error_lines thin.name count) (not (same_int (pos (length args)) z))) (int-small count small)
      ∙ ap (λ t. branch (entering w) next fs (error_lines thin.name count) (not t)) e

  abbrev fail_op : Op
  fail_op = op.Fail (obj.ExceptionType exception.TypeError) (arity_text thin.name count)

  abbrev type_error : Obj
  type_error = obj.ExceptionType exception.TypeError

  abbrev fail_readings : List Reading
  fail_readings =
      record { kind = kind.PyObject; value = value.Object type_error }
      ∷ record { kind = kind.Text; value = value.Text (arity_text thin.name count) }
      ∷ []

  -- a wrong number of arguments
  refused : count < 2147483648 → (w : World) (b : ℕ) → b ≤ n → nat_eq (length args) count ≡ false → Follows pace outer left_at any_value (entering w) b 0 (leave (raising await exception.TypeError (arity_text thin.name count) (sees w) b))
  refused small w b le e =
      let f2 = wrapping (error_lines thin.name count) value.Null [] doing.Runs in
      let f3 = wrapping (return_line ∷ []) value.Null [] doing.Runs in
      let c1 = entering w in
      let c2 = live r w (f2 ∷ fs) in
      let w3 = say (event.Ask fail_op) w in
      let c3 = live r w3 (asking f3 fail_op row.ErrSetString None ∷ fs) in
      let m1 : move files c1 ≡ Went c2 = tests small w false e in
      let held_type = and_true (held c2 f3 type_error) true (or_right (has [] type_error) _ (or_right (has args type_error) _ (or_right _ true refl))) refl in
      let m2 : move files c2 ≡ Went c3 = api_asks c2 f3 fs None row.ErrSetString fail_readings fail_op refl refl refl refl refl refl refl held_type in
      let run : Outcome Obj = raising await exception.TypeError (arity_text thin.name count) (sees w) b in
      let error_at = λ (x : Obj) (v : World). raised_at r v (f3 ∷ fs) x in
      let joint = worlds setting error_at in
      let delivered = λ (a : Answer) (v : World). deliver row.ErrSetString None a (live r v fs) (asking f3 fail_op row.ErrSetString None) fs in
      let nowhere = λ (o : Obj) (v : World). live r v fs in
      let asked = asks w3 f3 fs fail_op row.ErrSetString None b error_at le in
      let inner = then_follows pace joint delivered any_value nowhere no_value c3 b 0 0 0 (await fail_op (sees w3) b) raise_it (omega arith) asked (λ a v left u le2. (0, omega arith, omega arith, v, refl, here pace (error_at (sure_result a) v))) in
      let whole = either_follows pace joint nowhere no_value outer left_at any_value c3 b 0 0 0 run leaves leaves_raise (omega arith) inner (λ o v left no le2. absurd no) (λ x v left le2. (5, omega arith, omega arith, say (event.LeaveRaise x) v, refl, tt, one pace (error_at x v) (live r (say (event.LeaveRaise x) v) fs) refl)) in
      moved_on pace outer left_at any_value c1 c2 b 0 (leave run) m1 (moved_on pace outer left_at any_value c2 c3 b 0 (leave run) m2 whole)

  abbrev sum : Expression
  sum = Binary binary.Add (Named thin.left) (Named thin.right)

  abbrev body : List Statement
  body = Return sum ∷ []

  abbrev locals : List Local
  locals = bind_all thin.parameters args

  -- in the function, where the two operands name these arguments
  module _ (left : Argument thin.parameters args thin.left) (right : Argument thin.parameters args thin.right) where
    abbrev x : Obj
    x = left.object

    abbrev y : Obj
    y = right.object

    abbrev waiting : List Frame
    waiting = wrapping (back_lines thin.name count) value.Null [] (doing.Waits (Some variable.Returned)) ∷ fs

    abbrev the_lines : List Line
    the_lines = sum_lines (number_of thin.left thin.parameters) (number_of thin.right thin.parameters)

    abbrev calling : List Line → Value → Value → List Obj → Frame
    calling code result temporary own = record (frame_of 1 (sum_function count (number_of thin.left thin.parameters) (number_of thin.right thin.parameters)) (object_values args) args entered.FromC true) {
      code = code;
      variables =
          record { variable = variable.Returned; kind = kind.PyObject; value = result }
          ∷ record { variable = variable.Temporary 0; kind = kind.PyObject; value = temporary }
          ∷ cells_of count args;
      own = own;
    }

    abbrev inside : World → CState
    inside v = live r v (calling the_lines value.Null value.Null [] ∷ waiting)

    abbrev sum_op : Op
    sum_op = op.Binary binary.Add x y

    abbrev to_temporary : Option Variable
    to_temporary = Some (variable.Temporary 0)

    abbrev asker : Frame
    asker = asking (calling after_sum value.Null value.Null []) sum_op (row.Number binary.Add) to_temporary

    abbrev sum_at : Obj → World → CState
    sum_at o v = deliver_new (Gave o) to_temporary (live r v waiting) asker waiting

    abbrev fail_at : Obj → World → CState
    fail_at e v = deliver_new (Raises e) to_temporary (live r v waiting) asker waiting

    abbrev joint : Joint World
    joint = worlds setting fail_at

    given : (a : NewResult) (v : World) (b : ℕ) → Follows pace joint sum_at any_value (deliver_new a to_temporary (live r v waiting) asker waiting) b 0 (give a (sees v) b)
    given (Gave o) v b = (0, omega arith, omega arith, v, refl, tt, here pace (sum_at o v))
    given (Raises e) v b = (0, omega arith, omega arith, v, refl, here pace (fail_at e v))

    -- the statement that adds, with the operation
    adds : (v : World) (b : ℕ) → b ≤ n → Follows pace joint sum_at any_value (inside v) b 0 (operate await sum_op (sees v) b)
    adds v b le =
        let f0 = calling after_sum value.Null value.Null [] in
        let c = inside v in
        let v2 = say (event.Ask sum_op) v in
        let c2 = live r v2 (asker ∷ waiting) in
        let readings = object_readings (x ∷ y ∷ []) in
        let asks_with = λ (vs : Option (List Reading)). need_some vs fault.Stuck (api c f0 waiting to_temporary (row.Number binary.Add)) in
        let second = cell_reading (lookup (cells_of count args) (variable.Parameter (number_of thin.right thin.parameters))) in
        let held_both = and_true (held c f0 x) _ (held_lent c f0 x left.lent) (and_true (held c f0 y) true (held_lent c f0 y right.lent) refl) in
        let m : move files c ≡ Went c2 = ap (λ o. asks_with (one_more_reading o (one_more_reading second (Some [])))) left.reads ∙ ap (λ o. asks_with (one_more_reading (some_reading kind.PyObject (value.Object x)) (one_more_reading o (Some [])))) right.reads ∙ api_asks c f0 waiting to_temporary (row.Number binary.Add) readings sum_op refl refl refl refl refl refl refl held_both in
        let asked = asks v2 f0 waiting sum_op (row.Number binary.Add) to_temporary b fail_at le in
        let delivered = λ (a : Answer) (w : World). deliver (row.Number binary.Add) to_temporary a (live r w waiting) asker waiting in
        let answered = then_follows pace joint delivered any_value sum_at any_value c2 b 0 0 0 (await sum_op (sees v2) b) give_new (omega arith) asked (λ a w b2 u le2. given (new_result a) w b2) in
        moved_on pace joint sum_at any_value c c2 b 0 (operate await sum_op (sees v) b) m answered

    abbrev then_right : Obj → SourceState → ℕ → Outcome Obj
    then_right o s b =
        then_do (eval await locals (Named thin.right) s b) (λ o2 s2 b2. operate await (op.Binary binary.Add o o2) s2 b2)

    -- the right operand, with the left one known
    right_follows : (v : World) (b : ℕ) → b ≤ n → Follows pace joint sum_at any_value (inside v) b 1 (then_right x (sees v) b)
    right_follows v b le =
        then_follows pace joint (λ (o : Obj) w. inside w) (λ o w. o ≡ y) sum_at any_value (inside v) b 1 0 1 (eval await locals (Named thin.right) (sees v) b) (λ o2 s b2. operate await (op.Binary binary.Add x o2) s b2) (omega arith)
        (name_follows pace joint inside await locals thin.right y b v right.found refl)
        (λ o w b2 e le2. subst (λ (o2 : Obj). Follows pace joint sum_at any_value (inside w) b2 0 (operate await (op.Binary binary.Add x o2) (sees w) b2)) (sym e) (adds w b2 (omega (arith, le, le2))))

    sum_follows : (v : World) (b : ℕ) → b ≤ n → Follows pace joint sum_at any_value (inside v) b 3 (eval await locals sum (sees v) b)
    sum_follows v b le =
        unit_follows pace joint sum_at any_value (inside v) b 2 3 (sees v) (λ b1. then_do (eval await locals (Named thin.left) (sees v) b1) then_right) (omega arith) refl
        (λ b1 le1. then_follows pace joint (λ (o : Obj) w. inside w) (λ o w. o ≡ x) sum_at any_value (inside v) b1 1 1 2 (eval await locals (Named thin.left) (sees v) b1) then_right (omega arith)
        (name_follows pace joint inside await locals thin.left x b1 v left.found refl)
        (λ o w b2 e le2. subst (λ (o1 : Obj). Follows pace joint sum_at any_value (inside w) b2 1 (then_right o1 (sees w) b2)) (sym e) (right_follows w b2 (omega (arith, le, le1, le2)))))

    abbrev exit_at : Exit → World → CState
    exit_at e w = sum_at (result_of e) w

    statement_follows : (v : World) (b : ℕ) → b ≤ n → Follows pace joint exit_at any_value (inside v) b 4 (exec await locals (Return sum) (sees v) b)
    statement_follows v b le =
        unit_follows pace joint exit_at any_value (inside v) b 3 4 (sees v) (λ b1. then_do (eval await locals sum (sees v) b1) returning) (omega arith) refl
        (λ b1 le1. then_follows pace joint sum_at any_value exit_at any_value (inside v) b1 3 0 3 (eval await locals sum (sees v) b1) returning (omega arith)
        (sum_follows v b1 (omega (arith, le, le1)))
        (λ o w b2 u le2. (0, omega arith, omega arith, w, refl, tt, here pace (sum_at o w))))

    after_follows : (e : Exit) (w : World) (b : ℕ) → Follows pace joint exit_at any_value (exit_at e w) b 0 (after_statement (λ s1 b1. suite await locals [] s1 b1) e (sees w) b)
    after_follows Normal w b = (0, omega arith, omega arith, w, refl, tt, here pace (exit_at Normal w))
    after_follows (Returns o) w b = (0, omega arith, omega arith, w, refl, tt, here pace (exit_at (Returns o) w))

    suite_follows : (v : World) (b : ℕ) → b ≤ n → Follows pace joint exit_at any_value (inside v) b 4 (suite await locals body (sees v) b)
    suite_follows v b le =
        then_follows pace joint exit_at any_value exit_at any_value (inside v) b 4 0 4 (exec await locals (Return sum) (sees v) b) (after_statement (λ s1 b1. suite await locals [] s1 b1)) (omega arith)
        (statement_follows v b le)
        (λ e w b2 u le2. after_follows e w b2)

    body_follows : (v : World) (b : ℕ) → b ≤ n → Follows pace joint sum_at any_value (inside v) b 4 (then_do (suite await locals body (sees v) b) results)
    body_follows v b le =
        then_follows pace joint exit_at any_value sum_at any_value (inside v) b 4 0 4 (suite await locals body (sees v) b) results (omega arith)
        (suite_follows v b le)
        (λ e w b2 u le2. (0, omega arith, omega arith, w, refl, tt, here pace (sum_at (result_of e) w)))

    -- the value goes back through the wrapper
    returns : (o : Obj) (w : World) → Comes pace 20 (sum_at o w) (live r (say (event.Leave o) w) fs)
    returns o w =
        let c0 = sum_at o w in
        let c1 = live r w (calling keep_lines value.Null (value.Object o) (o ∷ []) ∷ waiting) in
        let c2 = live r w (calling end_lines (value.Object o) (value.Object o) (o ∷ []) ∷ waiting) in
        let c3 = live r w (wrapping (back_lines thin.name count) (value.Object o) (o ∷ []) doing.Runs ∷ fs) in
        let c4 = live r (say (event.Leave o) w) fs in
        let m3 : move files c2 ≡ Went c3 = needed (same_obj o o) fault.Unbalanced (Went c3) (obj_same o) in
        let m4 : move files c3 ≡ Went c4 = needed (same_obj o o) fault.Unbalanced (Went c4) (obj_same o) in
        comes_on pace 5 15 c0 c1 c4 (one pace c0 c1 refl)
        (comes_on pace 5 10 c1 c2 c4 (one pace c1 c2 refl) (comes_on pace 5 5 c2 c3 c4 (one pace c2 c3 m3) (one pace c3 c4 m4)))

    raises : (e : Obj) (w : World) → Comes pace 15 (fail_at e w) (live r (say (event.LeaveRaise e) w) fs)
    raises e w =
        let c0 = fail_at e w in
        let c1 = raised_at r w (calling (return_line ∷ []) value.Null value.Null [] ∷ waiting) e in
        let c2 = raised_at r w (wrapping (back_lines thin.name count) value.Null [] doing.Runs ∷ fs) e in
        let c3 = live r (say (event.LeaveRaise e) w) fs in
        comes_on pace 5 10 c0 c1 c3 (one pace c0 c1 refl)
        (comes_on pace 5 5 c1 c2 c3 (one pace c1 c2 refl) (one pace c2 c3 refl))

    left_follows : (v : World) (b : ℕ) → b ≤ n → Follows pace outer left_at any_value (inside v) b 4 (leave (then_do (suite await locals body (sees v) b) results))
    left_follows v b le =
        either_follows pace joint sum_at any_value outer left_at any_value (inside v) b 4 0 4 (then_do (suite await locals body (sees v) b) results) leaves leaves_raise (omega arith)
        (body_follows v b le)
        (λ o w b2 u le2. (20, omega arith, omega arith, say (event.Leave o) w, refl, tt, returns o w))
        (λ e w b2 le2. (15, omega arith, omega arith, say (event.LeaveRaise e) w, refl, tt, raises e w))

  -- the right number of arguments
  accepted : IsThin thin → count < 2147483648 → (w : World) (b : ℕ) → b ≤ n → nat_eq (length args) count ≡ true → Follows pace outer left_at any_value (entering w) b 4 (leave (then_do (suite await locals body (sees w) b) results))
  accepted is_thin small w b le e =
      let len : length args ≡ count = eqb-true (length args) count e in
      let left = argument_of thin.parameters args thin.left len is_thin.left_among in
      let right = argument_of thin.parameters args thin.right len is_thin.right_among in
      let f2 = wrapping (call_lines thin.name count) value.Null [] doing.Runs in
      let f3 = wrapping (back_lines thin.name count) value.Null [] doing.Runs in
      let ks = map operand.Argument (numbers_below count) in
      let c1 = entering w in
      let c2 = live r w (f2 ∷ fs) in
      let c3 = inside left right w in
      let m1 : move files c1 ≡ Went c2 = tests small w true e in
      let reads = arguments_read files c2 f3 args count len (λ j. refl) in
      let m2 : move files c2 ≡ Went c3 = ap (λ (vs : Option (List Reading)). need_some vs fault.Stuck (call files c2 f3 fs (Some variable.Returned) (function.Plain 0 0) ks)) reads ∙ call_enters files c2 f3 fs (Some variable.Returned) (function.Plain 0 0) ks args 1 (sum_function count (number_of thin.left thin.parameters) (number_of thin.right thin.parameters)) refl (kinds-are count args len) refl (no_variable count (object_readings args)) (no_loan count (object_readings args) []) (all_lent c2 f3 args (λ o h. h)) in
      let run = leave (then_do (suite await locals body (sees w) b) results) in
      moved_on pace outer left_at any_value c1 c2 b 4 run m1 (moved_on pace outer left_at any_value c2 c3 b 4 run m2 (left_follows left right w b le))

  by_count : IsThin thin → (w : World) (b : ℕ) → b ≤ n → (q : Bool) → nat_eq (length args) count ≡ q → Follows pace outer left_at any_value (entering w) b 4 (leave (if q then then_do (suite await locals body (sees w) b) results else raising await exception.TypeError (arity_text thin.name count) (sees w) b))
  by_count is_thin w b le true e = accepted is_thin (omega (arith, is_thin.few)) w b le e
  by_count is_thin w b le false e =
      spent pace outer left_at any_value (entering w) b b 0 4 (leave (raising await exception.TypeError (arity_text thin.name count) (sees w) b)) (omega arith) (omega arith)
      (refused (omega (arith, is_thin.few)) w b le e)

-- the thin function does what it means, where its operations do
pub function_follows : (name : List ℕ) (thin : ThinFunction) → IsThin thin → (r : ReadyModule) (n : ℕ) → AskFollows (thin_setting name thin r) n → CallFollows (thin_setting name thin r) n 4 (thin_function thin) 1 (wrapper_function thin.name (length thin.parameters))
function_follows name thin is_thin r n asks callee args w fs raised b le =
    by_count name thin r n asks args fs raised is_thin (say (event.Enter callee args) w) b le (nat_eq (length args) (length thin.parameters)) refl

-- what a callee names is the thin function on both sides, or nothing on both
pub all_realised : (name : List ℕ) (thin : ThinFunction) → IsThin thin → (r : ReadyModule) → AllRealised (thin_setting name thin r)
all_realised name thin is_thin r (callee.Method p) = tt
all_realised name thin is_thin r (callee.Function p) = by_module (bytes_eq name p.module)
  where
    setting : Setting
    setting = thin_setting name thin r

    by_name : (q : Bool) → Realised setting (if q then Some (thin_function thin) else None) (wrapper_of (thin_files name thin) 1 (if q then Some (record { name = thin.name; «module» = 0; index = 0 }) else None))
    by_name true = (4, omega arith, function_follows name thin is_thin r)
    by_name false = tt

    by_module : (q : Bool) → Realised setting (if q then function_in (thin_function thin ∷ []) p.name else None) (entered_in (thin_files name thin) (ready_base r).places p.name (if q then Some 1 else None))
    by_module true = by_name (bytes_eq thin.name p.name)
    by_module false = tt
