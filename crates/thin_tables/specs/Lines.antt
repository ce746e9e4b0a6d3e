-- Where the labels and statements of a function stand among its lines.
use Rattle.std.specs.Prelude.{ℕ, suc, List, [], ◌∷◌, Option, Some, None, nat_eq, if◌then◌else◌}
use Rattle.thin_state.specs.declared.tree.CStmt.{CStmt}
use Rattle.thin_state.specs.declared.tree.Line.{Line}
use Rattle.thin_state.specs.declared.tree.Line.TheVariants as line
use Rattle.thin_state.specs.declared.tree.CItem.{CItem}
use Rattle.thin_state.specs.declared.tree.CItem.TheVariants as item

-- the lines of an item, of which other items than functions have none
abbrev pub lines_of : CItem → List Line
lines_of (item.Function f) = f.lines
lines_of _ = []

-- the number of the line after a label, where the lines are numbered from i on
abbrev pub label_from : ℕ → List Line → ℕ → Option ℕ
label_from i [] l = None
label_from i (line.Label k ∷ ls) l = if nat_eq k l then Some (suc i) else label_from (suc i) ls l
label_from i (line.Statement s ∷ ls) l = label_from (suc i) ls l

abbrev pub label_line : List Line → ℕ → Option ℕ
label_line ls l = label_from 0 ls l

-- the first statement, and the lines after it
pub data Next : Type 0 where
  Lines : CStmt → List Line → Next
  NoLine : Next

abbrev pub next_line : List Line → Next
next_line [] = NoLine
next_line (line.Label l ∷ ls) = next_line ls
next_line (line.Statement s ∷ ls) = Lines s ls

-- the number of the first statement, where the lines are numbered from i on; that of the end where there is none
abbrev pub statement_from : ℕ → List Line → ℕ
statement_from i [] = i
statement_from i (line.Label l ∷ ls) = statement_from (suc i) ls
statement_from i (line.Statement s ∷ ls) = i

-- the same for each line
abbrev pub statements_from : ℕ → List Line → List ℕ
statements_from i [] = []
statements_from i (l ∷ ls) = statement_from i (l ∷ ls) ∷ statements_from (suc i) ls

-- a line that is no statement, or none
abbrev pub NoStatement : Option Line → Type 0
NoStatement (Some (line.Statement s)) = ⊥
NoStatement _ = Unit {0}
