-- What operands give, and what a frame may read, write and hold.
use Rattle.std.specs.Prelude.{Bool, true, not, ◌&&◌, ◌||◌, List, [], ◌∷◌, ◌++◌, Option, Some, None, pos}
use Rattle.thin_state.specs.declared.space.Obj.{Obj}
use Rattle.thin_state.specs.declared.tree.Variable.TheVariants as variable
use Rattle.thin_state.specs.declared.tree.CValue.{CValue}
use Rattle.thin_state.specs.declared.tree.CValue.TheVariants as operand
use Rattle.thin_state.specs.declared.tree.CItem.{CItem}
use Rattle.thin_state.specs.declared.state.Kind.TheVariants as kind
use Rattle.thin_state.specs.declared.state.Value.TheVariants as value
use Rattle.thin_state.specs.declared.state.Reading.{Reading}
use Rattle.thin_state.specs.declared.state.Cell.{Cell}
use Rattle.thin_state.specs.declared.state.Spot.{Spot}
use Rattle.thin_state.specs.declared.space.Obj.TheVariants as obj
use Rattle.thin_state.specs.State.{is_module_variable, wrap_int, lookup, spot, has, among_places}
use Rattle.thin_state.specs.Objects.{permanent}
use Rattle.thin_state.specs.Reads.{some_reading, cell_reading, spot_reading, argument_at, definition_reading, module_name, one_more_reading, reads_module_variable}
use Rattle.thin_look.specs.declared.parts.Activation.{Activation}

-- what an operand gives
abbrev pub operand_in : List CItem → List Spot → List Cell → CValue → Option Reading
operand_in items spots cells (operand.Variable x) = cell_reading (lookup cells x)
operand_in items spots cells (operand.Place p) = spot_reading (spot spots p)
operand_in items spots cells (operand.Argument j) = argument_at (lookup cells variable.Arguments) j
operand_in items spots cells (operand.Int n) = some_reading kind.Int (value.Number (wrap_int (pos n)))
operand_in items spots cells (operand.Str t) = some_reading kind.Text (value.Text t)
operand_in items spots cells operand.Null = some_reading kind.Null value.Null
operand_in items spots cells (operand.ExceptionType e) = some_reading kind.PyObject (value.Object (obj.ExceptionType e))
operand_in items spots cells operand.Definition = definition_reading (module_name items)

abbrev pub operands_in : List CItem → List Spot → List Cell → List CValue → Option (List Reading)
operands_in items spots cells [] = Some []
operands_in items spots cells (k ∷ ks) = one_more_reading (operand_in items spots cells k) (operands_in items spots cells ks)

-- whether an operand may be read as far as the lock goes
abbrev pub may_read_with : Bool → CValue → Reading → Bool
may_read_with lock k v = not (reads_module_variable k v) || lock

-- held in a frame
abbrev pub held_in : List (List Spot) → Activation → Obj → Bool
held_in places here o = has here.own o || (has here.lent o || (among_places places o || permanent o))

abbrev pub all_held_in : List (List Spot) → Activation → List Obj → Bool
all_held_in places here [] = true
all_held_in places here (o ∷ os) = held_in places here o && all_held_in places here os

-- `p = k;`
abbrev pub may_write_with : Bool → Spot → Bool
may_write_with lock s = not (is_module_variable s.place s.kind) || lock

-- readings before others, where there are others
abbrev pub prefixed : List Reading → Option (List Reading) → Option (List Reading)
prefixed vs None = None
prefixed vs (Some ws) = Some (vs ++ ws)
