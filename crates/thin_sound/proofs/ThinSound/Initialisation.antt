-- The initialisation of a thin file's module, and the whole run.
use Rattle.std.proofs.Common.{◌≡◌, ℕ, zero, suc, ◌≤◌, Bool, true, false, ◌||◌, List, [], ◌∷◌, Option, Some, None, refl, ap, subst, arith}
use Rattle.std.specs.Prelude.{if◌then◌else◌, is_some, pos, codes}
use Rattle.std.specs.Str.{bytes_eq}
use Rattle.thin_state.specs.declared.space.Obj.{Obj}
use Rattle.thin_state.specs.declared.space.Callee.TheVariants as callee
use Rattle.thin_state.specs.declared.space.Entry.{Entry}
use Rattle.thin_state.specs.declared.space.Op.{Op}
use Rattle.thin_state.specs.declared.space.Op.TheVariants as op
use Rattle.thin_state.specs.declared.space.Event.TheVariants as event
use Rattle.thin_state.specs.declared.tree.Variable.{Variable}
use Rattle.thin_state.specs.declared.tree.Variable.TheVariants as variable
use Rattle.thin_state.specs.declared.tree.Place.{Place}
use Rattle.thin_state.specs.declared.tree.Place.TheVariants as place
use Rattle.thin_state.specs.declared.tree.ApiRow.{ApiRow}
use Rattle.thin_state.specs.declared.tree.ApiRow.TheVariants as row
use Rattle.thin_state.specs.declared.tree.Line.{Line}
use Rattle.thin_state.specs.declared.tree.CFile.{CFile}
use Rattle.thin_state.specs.declared.state.FaultKind.TheVariants as fault
use Rattle.thin_state.specs.declared.state.Kind.TheVariants as kind
use Rattle.thin_state.specs.declared.state.Value.{Value}
use Rattle.thin_state.specs.declared.state.Value.TheVariants as value
use Rattle.thin_state.specs.declared.state.Spot.{Spot}
use Rattle.thin_state.specs.declared.state.Entered.TheVariants as entered
use Rattle.thin_state.specs.declared.state.Doing.TheVariants as doing
use Rattle.thin_state.specs.declared.state.Course.TheVariants as course
use Rattle.thin_state.specs.Objects.{same_obj, NewResult, Gave, Raises, new_result, sure_result}
use Rattle.thin_state.specs.World.{World, first_world, say}
use Rattle.thin_state.specs.State.{put_to, Frame, CState, lose, held, linked}
use Rattle.thin_state.specs.Reads.{frame_of, entered_in}
use Rattle.thin_state.specs.Statements.{Went, need}
use Rattle.thin_state.specs.Outside.{deliver, deliver_by, deliver_new, How, NewReference, how}
use Rattle.thin_state.specs.Machine.{move}
use Rattle.cy_mean.specs.declared.ThinFunction.{ThinFunction}
use Rattle.cy_mean.specs.Source.{Module, thin_function, thin_set}
use Rattle.cy_mean.specs.Meaning.{ReadyModule, SourceState, Outcome, Awaiter, give, give_new, give_sure, operate, operate_sure, with_builtins, with_import, with_dictionary, with_module, initialise, add_ready, tell, initialised, not_initialised, after_initialise, initialise_all, await_within, top_within, run_within}
use Rattle.cy_mean.proofs.Same.{obj_same, or_left, or_right, and_true}
use Rattle.cy_mean.proofs.Moves.{Pace, Comes, here, one, comes_on}
use Rattle.cy_mean.proofs.Follows.{Joint, Follows, any_value, moved_on, then_follows, then_into, either_follows}
use Rattle.cy_mean.proofs.Operations.{Setting, asking, source_at, worlds, Realised, AllRealised, asks_follow}
use Rattle.cy_mean.proofs.TopLevel.{c_of, both, is_over, RunFollows, top_follows}
use Rattle.cy_mean.proofs.Statements.{object_readings, held_own, needed, api_asks}
use Rattle.thin_source.specs.Thin.{IsThin}
use Rattle.thin_code.specs.ThinC.{initialiser_lines, initialiser_function, leave_if_null, thin_files}
use Rattle.thin_sound.proofs.ThinSound.Function.{thin_pace, ready_spots, live, thin_setting, return_line, all_realised}

-- a place that holds an object or nothing yet
abbrev held_value : Option Obj → Value
held_value None = value.Null
held_value (Some o) = value.Object o

abbrev object_spot : Place → Option Obj → Spot
object_spot p x = record { place = p; kind = kind.PyObject; value = held_value x; stored = is_some x }

-- the places before the module is ready: its object, its dictionary and the builtins
abbrev unready : (object dictionary builtins : Option Obj) → List Spot
unready m d b =
    object_spot place.Module m
    ∷ object_spot place.Dictionary d
    ∷ object_spot place.Builtins b
    ∷ record { place = place.Ready; kind = kind.Int; value = value.Number (pos 0); stored = false }
    ∷ []

abbrev begun_with : List Spot → List Obj → World → List Frame → CState
begun_with spots loans w fs = record {
  world = w;
  frames = fs;
  places = [] ∷ spots ∷ [];
  begun = 2;
  course = course.Goes;
  error = None;
  lock = true;
  loans = loans;
}

-- a joint state of the initialisation
record Begun : Type 0 where
  world : World
  spots : List Spot
  loans : List Obj
  first : Value
  second : Value

abbrev to_temporary : ℕ → Option Variable
to_temporary j = Some (variable.Temporary j)

module _ (name : List ℕ) (thin : ThinFunction) where
  abbrev pace : Pace
  pace = thin_pace name thin

  abbrev files : List CFile
  files = thin_files name thin

  abbrev sees : World → SourceState
  sees w = source_at [] w

  abbrev frame : List Line → (result first second : Value) → List Obj → Frame
  frame code result first second own = record (frame_of 1 (initialiser_function name) [] [] entered.ForInitialisation true) {
    code = code;
    variables =
        record { variable = variable.Returned; kind = kind.PyObject; value = result }
        ∷ record { variable = variable.Temporary 0; kind = kind.PyObject; value = first }
        ∷ record { variable = variable.Temporary 1; kind = kind.PyObject; value = second }
        ∷ [];
    own = own;
  }

  abbrev init_setting : (m d b : Option Obj) → Setting
  init_setting m d b = record { pace = pace; set = thin_set name thin; ready = []; base = begun_with (unready m d b) [] (first_world []) [] }

  -- before the module is ready nothing is called
  none_realised : (m d b : Option Obj) → AllRealised (init_setting m d b)
  none_realised m d b (callee.Method p) = tt
  none_realised m d b (callee.Function p) = by_module (bytes_eq name p.module)
    where
      by_module : (q : Bool) → Realised (init_setting m d b) None (entered_in (thin_files name thin) (begun_with (unready m d b) [] (first_world []) []).places p.name (if q then Some 1 else None))
      by_module true = tt
      by_module false = tt

  abbrev fail_at : Obj → Begun → CState
  fail_at e j =
      record (begun_with j.spots j.loans j.world (frame (return_line ∷ []) value.Null j.first j.second [] ∷ [])) { error = Some e }

  abbrev joint : Joint Begun
  joint = record { state = λ j. sees j.world; raised = fail_at }

  abbrev FollowsInit : {A : Type 0} → (A → Begun → CState) → CState → ℕ → Outcome A → Type 0
  FollowsInit {A} at c b result = Follows pace joint at any_value c b 0 result

  abbrev begun : (m d b : Option Obj) → (first second : Value) → World → Begun
  begun m d b first second w = record { world = w; spots = unready m d b; loans = []; first = first; second = second }

  abbrev drop_lines : ℕ → List Line → List Line
  drop_lines zero ls = ls
  drop_lines (suc k) [] = []
  drop_lines (suc k) (l ∷ ls) = drop_lines k ls

  -- the state before line k
  abbrev before : ℕ → List Spot → List Obj → World → (result first second : Value) → List Obj → CState
  before k spots loans w result first second own =
      begun_with spots loans w (frame (drop_lines k initialiser_lines) result first second own ∷ [])

  -- an operation that gives a new object into the first temporary, or raises
  module _ (n : ℕ) (m d b : Option Obj) (r : ApiRow) (o : Op) (rest : List Line) (first second : Value) (is_new : how r ≡ NewReference) where
    abbrev asker : Frame
    asker = asking (frame (leave_if_null 0 ∷ rest) value.Null first second []) o r (to_temporary 0)

    abbrev new_at : Obj → Begun → CState
    new_at x j = begun_with (unready m d b) [] j.world (frame rest value.Null (value.Object x) second (x ∷ []) ∷ [])

    given_new : (a : NewResult) (v : World) (u : ℕ) → FollowsInit new_at (deliver_new a (to_temporary 0) (begun_with (unready m d b) [] v []) asker []) u (give a (sees v) u)
    given_new (Gave x) v u =
        let c = deliver_new (Gave x) (to_temporary 0) (begun_with (unready m d b) [] v []) asker [] in
        let j = begun m d b first second v in
        (5, omega arith, omega arith, j, refl, tt, one pace c (new_at x j) refl)
    given_new (Raises e) v u =
        let c = deliver_new (Raises e) (to_temporary 0) (begun_with (unready m d b) [] v []) asker [] in
        let j = begun m d b value.Null second v in
        (5, omega arith, omega arith, j, refl, one pace c (fail_at e j) refl)

    new_follows : (w : World) (u : ℕ) → u ≤ n → (c : CState) → move files c ≡ Went (begun_with (unready m d b) [] (say (event.Ask o) w) (asker ∷ [])) → FollowsInit new_at c u (operate (await_within (thin_set name thin) n) o (sees w) u)
    new_follows w u le c mv =
        let w2 = say (event.Ask o) w in
        let c2 = begun_with (unready m d b) [] w2 (asker ∷ []) in
        let raised = λ (e : Obj) (v : World). fail_at e (begun m d b value.Null second v) in
        let inner = worlds (init_setting m d b) raised in
        let asked = asks_follow (init_setting m d b) (none_realised m d b) n w2 (frame (leave_if_null 0 ∷ rest) value.Null first second []) [] o r (to_temporary 0) u raised le in
        let asked2 = subst (λ (h : How). Follows pace inner (λ a v. deliver_by h (to_temporary 0) a (begun_with (unready m d b) [] v []) asker []) any_value c2 u 0 (await_within (thin_set name thin) n o (sees w2) u)) is_new asked in
        moved_on pace joint new_at any_value c c2 u 0 (operate (await_within (thin_set name thin) n) o (sees w) u) mv
        (then_into pace inner (λ a v. deliver_by NewReference (to_temporary 0) a (begun_with (unready m d b) [] v []) asker []) any_value joint new_at any_value c2 u 0 0 0 (await_within (thin_set name thin) n o (sees w2) u) give_new (omega arith) asked2
        (λ a v left k le2. given_new (new_result a) v left)
        (λ e v left le2. (0, omega arith, omega arith, begun m d b value.Null second v, refl, here pace (raised e v))))

  -- an operation that never fails and lends its object
  module _ (n : ℕ) (m d b : Option Obj) (o : Op) (x : Option Variable) (f : Frame) where
    abbrev lent_at : Obj → Begun → CState
    lent_at y j =
        begun_with (unready m d b) (y ∷ []) j.world (record f { doing = doing.Runs; variables = put_to f.variables x (value.Object y) } ∷ [])

    sure_follows : (w : World) (u : ℕ) → u ≤ n → (c : CState) → move files c ≡ Went (begun_with (unready m d b) [] (say (event.Ask o) w) (asking f o row.ModuleGetDict x ∷ [])) → FollowsInit lent_at c u (operate_sure (await_within (thin_set name thin) n) o (sees w) u)
    sure_follows w u le c mv =
        let w2 = say (event.Ask o) w in
        let top = asking f o row.ModuleGetDict x in
        let c2 = begun_with (unready m d b) [] w2 (top ∷ []) in
        let raised = λ (e : Obj) (v : World). fail_at e (begun m d b value.Null value.Null v) in
        let inner = worlds (init_setting m d b) raised in
        let asked = asks_follow (init_setting m d b) (none_realised m d b) n w2 f [] o row.ModuleGetDict x u raised le in
        moved_on pace joint lent_at any_value c c2 u 0 (operate_sure (await_within (thin_set name thin) n) o (sees w) u) mv
        (then_into pace inner (λ a v. deliver row.ModuleGetDict x a (begun_with (unready m d b) [] v []) top []) any_value joint lent_at any_value c2 u 0 0 0 (await_within (thin_set name thin) n o (sees w2) u) give_sure (omega arith) asked
        (λ a v left k le2. (0, omega arith, omega arith, begun m d b value.Null value.Null v, refl, tt, here pace (lent_at (sure_result a) (begun m d b value.Null value.Null v))))
        (λ e v left le2. (0, omega arith, omega arith, begun m d b value.Null value.Null v, refl, here pace (raised e v))))

  -- where the initialisation returns
  abbrev done_at : ReadyModule → Begun → CState
  done_at r j =
      begun_with (ready_spots r) [] j.world (frame (drop_lines 15 initialiser_lines) (value.Object r.object) j.first j.second (r.object ∷ []) ∷ [])

  -- the last stretch, where nothing is asked: o is the module, d its dictionary, i the imported module, b its dictionary
  last_stretch : (o d b i : Obj) (w : World) → Comes pace 30 (before 9 (unready (Some o) (Some d) None) (b ∷ []) w value.Null (value.Object i) (value.Object b) (i ∷ [])) (done_at (record { object = o; dictionary = d; builtins = b }) (begun (Some o) (Some d) (Some b) (value.Object i) (value.Object b) w))
  last_stretch o d b i w =
      let first = value.Object i in
      let second = value.Object b in
      let unkept = unready (Some o) (Some d) None in
      let all_kept = unready (Some o) (Some d) (Some b) in
      let ready = ready_spots (record { object = o; dictionary = d; builtins = b }) in
      let c9 = before 9 unkept (b ∷ []) w value.Null first second (i ∷ []) in
      let c10 = before 10 unkept (b ∷ []) w value.Null first second (b ∷ i ∷ []) in
      let c11 = before 11 all_kept (b ∷ []) w value.Null first second (i ∷ []) in
      let c12 = before 12 all_kept [] w value.Null first second [] in
      let c13 = before 13 ready [] w value.Null first second [] in
      let c14 = before 14 ready [] w value.Null first second (o ∷ []) in
      let c15 = before 15 ready [] w (value.Object o) first second (o ∷ []) in
      let m9 : move files c9 ≡ Went c10 = needed _ fault.Unheld (Went c10) (or_right _ _ (or_left _ false (obj_same b))) in
      let m10 : move files c10 ≡ Went c11 = ap (λ q. need (q || (same_obj i b || false)) fault.Unheld (Went (before 11 all_kept (b ∷ []) w value.Null first second (if q then i ∷ [] else b ∷ lose (i ∷ []) b)))) (obj_same b) in
      let m11 : move files c11 ≡ Went c12 = ap (λ q. need (q || false) fault.Unheld (Went (before 12 all_kept [] w value.Null first second (if q then [] else i ∷ [])))) (obj_same i) in
      let m12 : move files c12 ≡ Went c13 = refl in
      let m13 : move files c13 ≡ Went c14 = needed _ fault.Unheld (Went c14) (or_left _ false (or_left _ _ (or_left _ false (or_left _ _ (obj_same o))))) in
      let m14 : move files c14 ≡ Went c15 = refl in
      comes_on pace 5 25 c9 c10 c15 (one pace c9 c10 m9)
      (comes_on pace 5 20 c10 c11 c15 (one pace c10 c11 m10)
      (comes_on pace 5 15 c11 c12 c15 (one pace c11 c12 m11)
      (comes_on pace 5 10 c12 c13 c15 (one pace c12 c13 m12)
      (comes_on pace 5 5 c13 c14 c15 (one pace c13 c14 m13) (one pace c14 c15 m14)))))

  module _ (n : ℕ) where
    abbrev await : Awaiter
    await = await_within (thin_set name thin) n

    done_follows : (o d i b : Obj) (j : Begun) (u : ℕ) → FollowsInit done_at (before 9 (unready (Some o) (Some d) None) (b ∷ []) j.world value.Null (value.Object i) (value.Object b) (i ∷ [])) u (with_builtins o d b (sees j.world) u)
    done_follows o d i b j u =
        (30, omega arith, omega arith, begun (Some o) (Some d) (Some b) (value.Object i) (value.Object b) j.world, refl, tt, last_stretch o d b i j.world)

    builtins_follows : (o d i : Obj) (j : Begun) (u : ℕ) → u ≤ n → FollowsInit done_at (before 8 (unready (Some o) (Some d) None) [] j.world value.Null (value.Object i) value.Null (i ∷ [])) u (with_import await o d i (sees j.world) u)
    builtins_follows o d i j u le =
        let spots = unready (Some o) (Some d) None in
        let f = frame (drop_lines 9 initialiser_lines) value.Null (value.Object i) value.Null (i ∷ []) in
        let c = before 8 spots [] j.world value.Null (value.Object i) value.Null (i ∷ []) in
        let c2 = begun_with spots [] (say (event.Ask (op.Dict i)) j.world) (asking f (op.Dict i) row.ModuleGetDict (to_temporary 1) ∷ []) in
        let held_i = and_true (held c f i) true (held_own c f i (or_left _ false (obj_same i))) refl in
        let mv : move files c ≡ Went c2 = api_asks c f [] (to_temporary 1) row.ModuleGetDict (object_readings (i ∷ [])) (op.Dict i) refl refl refl refl refl refl refl held_i in
        then_follows pace joint (lent_at n (Some o) (Some d) None (op.Dict i) (to_temporary 1) f) any_value done_at any_value c u 0 0 0 (operate_sure await (op.Dict i) (sees j.world) u) (with_builtins o d) (omega arith)
        (sure_follows n (Some o) (Some d) None (op.Dict i) (to_temporary 1) f j.world u le c mv)
        (λ b k left x le2. done_follows o d i b k left)

    import_follows : (o d : Obj) (j : Begun) (u : ℕ) → u ≤ n → FollowsInit done_at (before 4 (unready (Some o) None None) (d ∷ []) j.world value.Null (value.Object d) value.Null []) u (with_dictionary await o d (sees j.world) u)
    import_follows o d j u le =
        let m = Some o in
        let w = j.world in
        let first = value.Object d in
        let ask_import = op.Import (codes "builtins") in
        let spots = unready m (Some d) None in
        let c4 = before 4 (unready m None None) (d ∷ []) w value.Null first value.Null [] in
        let c5 = before 5 (unready m None None) (d ∷ []) w value.Null first value.Null (d ∷ []) in
        let c6 = before 6 spots (d ∷ []) w value.Null first value.Null [] in
        let f7 = frame (drop_lines 7 initialiser_lines) value.Null first value.Null [] in
        let c7 = begun_with spots [] (say (event.Ask ask_import) w) (asking f7 ask_import row.ImportModule (to_temporary 0) ∷ []) in
        let m4 : move files c4 ≡ Went c5 = needed _ fault.Unheld (Went c5) (or_right _ _ (or_left _ false (obj_same d))) in
        let m5 : move files c5 ≡ Went c6 = ap (λ q. need (q || false) fault.Unheld (Went (before 6 spots (d ∷ []) w value.Null first value.Null (if q then [] else d ∷ [])))) (obj_same d) in
        let m6 : move files c6 ≡ Went c7 = refl in
        let run = with_dictionary await o d (sees w) u in
        moved_on pace joint done_at any_value c4 c5 u 0 run m4
        (moved_on pace joint done_at any_value c5 c6 u 0 run m5
        (then_follows pace joint (new_at n m (Some d) None row.ImportModule ask_import (drop_lines 8 initialiser_lines) first value.Null refl) any_value done_at any_value c6 u 0 0 0 (operate await ask_import (sees w) u) (with_import await o d) (omega arith)
        (new_follows n m (Some d) None row.ImportModule ask_import (drop_lines 8 initialiser_lines) first value.Null refl w u le c6 m6)
        (λ i k left x le2. builtins_follows o d i k left (omega (arith, le, le2)))))

    dictionary_follows : (o : Obj) (j : Begun) (u : ℕ) → u ≤ n → FollowsInit done_at (before 2 (unready None None None) [] j.world value.Null (value.Object o) value.Null (o ∷ [])) u (with_module await o (sees j.world) u)
    dictionary_follows o j u le =
        let m = Some o in
        let w = j.world in
        let first = value.Object o in
        let f = frame (drop_lines 4 initialiser_lines) value.Null first value.Null [] in
        let c2 = before 2 (unready None None None) [] w value.Null first value.Null (o ∷ []) in
        let c3 = before 3 (unready m None None) [] w value.Null first value.Null [] in
        let c4 = begun_with (unready m None None) [] (say (event.Ask (op.Dict o)) w) (asking f (op.Dict o) row.ModuleGetDict (to_temporary 0) ∷ []) in
        let m2 : move files c2 ≡ Went c3 = ap (λ q. need (q || false) fault.Unheld (Went (before 3 (unready m None None) [] w value.Null first value.Null (if q then [] else o ∷ [])))) (obj_same o) in
        let held_m = and_true (held c3 f o) true (or_left _ _ (or_left _ false (or_left _ _ (obj_same o)))) refl in
        let m3 : move files c3 ≡ Went c4 = api_asks c3 f [] (to_temporary 0) row.ModuleGetDict (object_readings (o ∷ [])) (op.Dict o) refl refl refl refl refl refl refl held_m in
        moved_on pace joint done_at any_value c2 c3 u 0 (with_module await o (sees w) u) m2
        (then_follows pace joint (lent_at n m None None (op.Dict o) (to_temporary 0) f) any_value done_at any_value c3 u 0 0 0 (operate_sure await (op.Dict o) (sees w) u) (with_dictionary await o) (omega arith)
        (sure_follows n m None None (op.Dict o) (to_temporary 0) f w u le c3 m3)
        (λ d k left x le2. import_follows o d k left (omega (arith, le, le2))))

    abbrev thin_module : Module
    thin_module = record { name = name; functions = thin_function thin ∷ [] }

    init_follows : (w : World) (u : ℕ) → u ≤ n → FollowsInit done_at (before 0 (unready None None None) [] w value.Null value.Null value.Null []) u (initialise await thin_module (sees w) u)
    init_follows w u le =
        let create = op.Module name in
        let c0 = before 0 (unready None None None) [] w value.Null value.Null value.Null [] in
        then_follows pace joint (new_at n None None None row.ModuleCreate create (drop_lines 2 initialiser_lines) value.Null value.Null refl) any_value done_at any_value c0 u 0 0 0 (operate await create (sees w) u) (with_module await) (omega arith)
        (new_follows n None None None row.ModuleCreate create (drop_lines 2 initialiser_lines) value.Null value.Null refl w u le c0 refl)
        (λ o k left x le2. dictionary_follows o k left (omega (arith, le, le2)))

  module _ (is_thin : IsThin thin) where
    ready_follows : (r : ReadyModule) (j : Begun) (b left : ℕ) → left ≤ b → RunFollows pace (done_at r j) left 0 (top_within (thin_set name thin) b (tell (event.Leave r.object) (add_ready r (sees j.world))) left)
    ready_follows r j b left le =
        let w1 = say (event.Leave r.object) j.world in
        let c1 = live r w1 [] in
        let m : move files (done_at r j) ≡ Went c1 = needed (same_obj r.object r.object) fault.Unbalanced (Went c1) (obj_same r.object) in
        moved_on pace both c_of (is_over pace) (done_at r j) c1 left 0 (top_within (thin_set name thin) b (source_at (r ∷ []) w1) left) m (top_follows (thin_setting name thin r) (all_realised name thin is_thin r) refl b w1 left le)

    failed_follows : (e : Obj) (j : Begun) (left : ℕ) → RunFollows pace (fail_at e j) left 0 (not_initialised e (sees j.world) left)
    failed_follows e j left =
        let w1 = say (event.LeaveRaise e) j.world in
        let w2 = say event.End w1 in
        let c1 = record (begun_with j.spots j.loans w1 []) { course = course.Failed } in
        let c2 = record (begun_with j.spots j.loans w2 []) { course = course.Ended } in
        (10, omega arith, omega arith, record { c = c2; source = sees w2 }, refl, (refl, refl), comes_on pace 5 5 (fail_at e j) c1 c2 (one pace (fail_at e j) c1 refl) (one pace c1 c2 refl))

    -- the whole run
    pub run_follows : (script : List Entry) (b : ℕ) → RunFollows pace (linked files script) b 0 (run_within (thin_set name thin) script b)
    run_follows script b =
        let w = say (event.Init name) (first_world script) in
        let c = linked files script in
        let c0 = before 0 (unready None None None) [] w value.Null value.Null value.Null [] in
        let k = λ (s : SourceState) (u : ℕ). initialise_all (thin_set name thin) b [] s u in
        let run = initialise (await_within (thin_set name thin) b) (thin_module b) (sees w) b in
        moved_on pace both c_of (is_over pace) c c0 b 0 (after_initialise run k) refl
        (either_follows pace joint done_at any_value both c_of (is_over pace) c0 b 0 0 0 run (initialised k) not_initialised (omega arith)
        (init_follows b w b (omega arith))
        (λ r j left x le. ready_follows r j b left le)
        (λ e j left le. failed_follows e j left))
