-- What is stored behind a view. The project's own profile of C (ISO/IEC 9899:2011).
use Rattle.std.specs.Prelude.{List, [], ◌∷◌, ◌++◌}
use Rattle.c_token.specs.CTokens.{CToken, word, sign}
use Rattle.c_tree.specs.declared.name.Variable.{Variable}
use Rattle.c_tree.specs.declared.statement.CStmt.{CStmt}
use Rattle.c_tree.specs.declared.statement.CStmt.TheVariants as stmt
use Rattle.c_tree.specs.declared.statement.ViewPlace.{ViewPlace}
use Rattle.c_tree.specs.Forms.{IsNumber, IsValue, IsVariable, IsView}
use Rattle.c_tree.specs.Statements.{buffer_of, extent_name, index, view}
use Rattle.c_statement.specs.declared.store.Store.{Store}
use Rattle.c_statement.specs.declared.store.Store.TheVariants as store
use Rattle.c_statement.specs.Sources.{end, ended_tokens}

-- `(char *)PyMemoryView_GET_BUFFER(y)->buf;`
abbrev pub taken_tokens : Variable → List CToken
taken_tokens y = sign "(" ∷ word "char" ∷ sign "*" ∷ sign ")" ∷ (buffer_of y ++ (word "buf" ∷ end))

-- what stands behind `.buf =`, of a view
abbrev pub buffered_tokens : ViewPlace → Store → List CToken
buffered_tokens v (store.Take y) = taken_tokens y
buffered_tokens v (store.Copy w) = view w ++ (sign "." ∷ word "buf" ∷ end)
buffered_tokens v (store.Move k) = view v ++ (sign "." ∷ word "buf" ∷ sign "+" ∷ ended_tokens k)
buffered_tokens v _ = []

-- what stands behind the `.` of a number of a view
abbrev pub extent_tokens : Store → List CToken
extent_tokens (store.Extent e j k) = extent_name e ∷ (index j ++ (sign "=" ∷ ended_tokens k))
extent_tokens _ = []

-- what stands behind a view
abbrev pub store_tokens : ViewPlace → Store → List CToken
store_tokens v (store.Memory k) = sign "." ∷ word "mv" ∷ sign "=" ∷ ended_tokens k
store_tokens v (store.Extent e j k) = sign "." ∷ extent_tokens (store.Extent e j k)
store_tokens v s = sign "." ∷ word "buf" ∷ sign "=" ∷ buffered_tokens v s

-- a copy of another view's buffer, or the view's own, moved on
abbrev pub IsShifted : ViewPlace → Store → Type 0
IsShifted v (store.Copy w) = IsView w
IsShifted v (store.Move k) = IsView v × IsValue k
IsShifted v _ = ⊥

abbrev pub IsBuffered : ViewPlace → Store → Type 0
IsBuffered v (store.Take y) = IsVariable y
IsBuffered v s = IsShifted v s

abbrev pub IsExtent : Store → Type 0
IsExtent (store.Extent e j k) = IsNumber j × IsValue k
IsExtent _ = ⊥

abbrev pub IsStore : ViewPlace → Store → Type 0
IsStore v (store.Memory k) = IsValue k
IsStore v (store.Extent e j k) = IsNumber j × IsValue k
IsStore v s = IsBuffered v s

-- the statement that stores so
abbrev pub kept : ViewPlace → Store → CStmt
kept v (store.Take y) = stmt.TakeBuffer v y
kept v (store.Copy w) = stmt.CopyBuffer v w
kept v (store.Move k) = stmt.MoveBuffer v k
kept v (store.Memory k) = stmt.StoreMemory v k
kept v (store.Extent e j k) = stmt.StoreExtent v e j k
