-- The machine's parts as the state that they stand for.
use Rattle.std.specs.Prelude.{ℕ, List, [], Option, Some, None, Bool, map, drop, reverse, slice_get, unwrap_or, ◌++◌}
use Rattle.thin_state.specs.declared.space.Obj.{Obj}
use Rattle.thin_state.specs.declared.tree.CHead.TheVariants as head
use Rattle.thin_state.specs.declared.tree.CFunction.{CFunction}
use Rattle.thin_state.specs.declared.tree.CItem.{CItem}
use Rattle.thin_state.specs.declared.tree.CItem.TheVariants as item
use Rattle.thin_state.specs.declared.tree.CFile.{CFile}
use Rattle.thin_state.specs.declared.state.Entered.{Entered}
use Rattle.thin_state.specs.declared.state.Value.{Value}
use Rattle.thin_state.specs.declared.state.Doing.TheVariants as doing
use Rattle.thin_state.specs.State.{Frame}
use Rattle.thin_state.specs.declared.tree.Line.{Line}
use Rattle.thin_tables.specs.Lines.{lines_of}
use Rattle.thin_state.specs.Reads.{items_at, Found, FoundFunction, NotFound, declared_cell, parameter_cells}
use Rattle.thin_look.specs.declared.parts.Standing.{Standing}
use Rattle.thin_look.specs.declared.parts.Activation.{Activation}

-- the function of an item, if it is one
abbrev pub as_function : Option CItem → Option CFunction
as_function (Some (item.Function f)) = Some f
as_function _ = None

abbrev pub function_there : List CFile → ℕ → ℕ → Option CFunction
function_there files k i = as_function (slice_get (items_at files k) i)

-- the same, or a function without lines
abbrev pub no_function : CFunction
no_function = record { head = head.Initializer []; declarations = []; lines = [] }

abbrev pub function_at : List CFile → ℕ → ℕ → CFunction
function_at files k i = unwrap_or (function_there files k i) no_function

-- the lines of an item that is there
abbrev pub lines_in : Option CItem → List Line
lines_in None = []
lines_in (Some i) = lines_of i

-- the function that stands there
abbrev pub found_with : ℕ → Option CFunction → Found
found_with k None = NotFound
found_with k (Some f) = FoundFunction k f

abbrev pub found_at : List CFile → Option Standing → Found
found_at files None = NotFound
found_at files (Some s) = found_with s.file (function_there files s.file s.item)

-- the frame of a function of the files
abbrev pub frame_by : CFunction → Activation → Frame
frame_by fn a = record {
  file = a.file;
  function = fn;
  code = drop a.line fn.lines;
  variables = a.variables;
  own = a.own;
  lent = a.lent;
  entered = a.entered;
  doing = a.doing;
  lock = a.lock;
}

abbrev pub frame_view : List CFile → Activation → Frame
frame_view files a = frame_by (function_at files a.file a.item) a

-- the frames, where the newest comes last
abbrev pub frames_view : List CFile → List Activation → List Frame
frames_view files xs = map (frame_view files) (reverse xs)

-- a function that is entered
abbrev pub activated : ℕ → ℕ → CFunction → List Value → List Obj → Entered → Bool → Activation
activated k i fn vs lent by lock = record {
  file = k;
  item = i;
  line = 0;
  variables = map declared_cell fn.declarations ++ parameter_cells fn.head vs;
  own = [];
  lent = lent;
  entered = by;
  doing = doing.Runs;
  lock = lock;
}
