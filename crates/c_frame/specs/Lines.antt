-- The lines of a function: labels, and what follows them (ISO/IEC 9899:2011 6.8.1, 6.8.6.1).
use Rattle.std.specs.Prelude.{ℕ, suc, List, [], ◌∷◌, Option, Some, None, nat_eq, if◌then◌else◌}
use Rattle.c_tree.specs.declared.statement.CStmt.{CStmt}
use Rattle.c_tree.specs.declared.item.Line.{Line}
use Rattle.c_tree.specs.declared.item.Line.TheVariants as line

-- what follows a label among the lines
abbrev pub after_label : List Line → ℕ → Option (List Line)
after_label [] l = None
after_label (line.Label k ∷ ls) l = if nat_eq k l then Some ls else after_label ls l
after_label (line.Statement s ∷ ls) l = after_label ls l

-- the next statement after any labels, and the lines behind it
pub record Next : Type 0 where
  pub statement : CStmt
  pub rest : List Line

abbrev pub next_line : List Line → Option Next
next_line [] = None
next_line (line.Label l ∷ ls) = next_line ls
next_line (line.Statement s ∷ ls) = Some (record { statement = s; rest = ls })

-- the statement, and the lines behind it where there is one
abbrev pub statement_of : Option Next → Option CStmt
statement_of None = None
statement_of (Some n) = Some n.statement

abbrev pub rest_or : Option Next → List Line → List Line
rest_or None ls = ls
rest_or (Some n) ls = n.rest

-- ---- by numbers: the lines are numbered from i on

-- the number of the line after a label
abbrev pub label_from : ℕ → List Line → ℕ → Option ℕ
label_from i [] l = None
label_from i (line.Label k ∷ ls) l = if nat_eq k l then Some (suc i) else label_from (suc i) ls l
label_from i (line.Statement s ∷ ls) l = label_from (suc i) ls l

abbrev pub label_line : List Line → ℕ → Option ℕ
label_line ls l = label_from 0 ls l

-- the number of the first statement; that of the end where there is none
abbrev pub statement_from : ℕ → List Line → ℕ
statement_from i [] = i
statement_from i (line.Label l ∷ ls) = statement_from (suc i) ls
statement_from i (line.Statement s ∷ ls) = i

-- the same for each line
abbrev pub statements_from : ℕ → List Line → List ℕ
statements_from i [] = []
statements_from i (l ∷ ls) = statement_from i (l ∷ ls) ∷ statements_from (suc i) ls

-- a line that is no statement, or none
abbrev pub NoStatement : Option Line → Type 0
NoStatement (Some (line.Statement s)) = ⊥
NoStatement _ = Unit {0}
