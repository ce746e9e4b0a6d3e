-- What the tables hold.
use Rattle.std.specs.Prelude.{◌≡◌, ℕ, List, Option, Some, None, nat_eq, if◌then◌else◌}
use Rattle.std.specs.HashMap.{HashMap, get}
use Rattle.thin_state.specs.declared.tree.Line.{Line}
use Rattle.thin_state.specs.declared.state.Cell.{Cell}
use Rattle.thin_state.specs.declared.tree.Variable.{Variable}
use Rattle.thin_state.specs.declared.tree.Variable.TheVariants as variable
use Rattle.thin_state.specs.State.{same_variable}
use Rattle.thin_tables.specs.declared.numbers.Numbers.{Numbers}
use Rattle.thin_tables.specs.Lines.{label_from}
use Rattle.thin_tables.specs.Cells.{cell_from}

-- the line after each label, among lines that are numbered from i on
abbrev pub AreLabelsFrom : {S : Type 0} → ℕ → List Line → HashMap ℕ ℕ S → Type 0
AreLabelsFrom i lines labels = (l : ℕ) → get nat_eq labels l ≡ label_from i lines l

abbrev pub AreLabels : {S : Type 0} → List Line → HashMap ℕ ℕ S → Type 0
AreLabels lines labels = AreLabelsFrom 0 lines labels

-- the number that a table has for a variable
abbrev pub found : Numbers → Variable → Option ℕ
found n (variable.Parameter i) = get nat_eq n.parameters i
found n (variable.Local i) = get nat_eq n.locals i
found n (variable.Temporary i) = get nat_eq n.temporaries i
found n variable.Returned = n.returned
found n variable.SelfObject = n.self_object
found n variable.Arguments = n.arguments
found n variable.ArgumentCount = n.argument_count

abbrev pub knows_none : Numbers → Type 0
knows_none n = (y : Variable) → found n y ≡ None

-- the table with one number more
abbrev pub IsNoted : Numbers → Variable → ℕ → Numbers → Type 0
IsNoted old x at new = (y : Variable) → found new y ≡ (if same_variable x y then Some at else found old y)

-- the numbers of cells that are numbered from i on
abbrev pub AreNumbersFrom : ℕ → List Cell → Numbers → Type 0
AreNumbersFrom i cells n = (y : Variable) → found n y ≡ cell_from i cells y

abbrev pub AreNumbers : List Cell → Numbers → Type 0
AreNumbers cells n = AreNumbersFrom 0 cells n
