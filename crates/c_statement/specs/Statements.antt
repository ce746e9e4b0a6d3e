-- The tokens of statements, one by one, and what the first ones say. The project's own profile of C (ISO/IEC 9899:2011).
use Rattle.std.specs.Prelude.{◌≡◌, ℕ, List, [], ◌∷◌, ◌++◌, ◌&&◌, Some, None, if◌then◌else◌}
use Rattle.c_token.specs.CTokens.{CToken, word, sign}
use Rattle.c_tree.specs.declared.statement.CStmt.{CStmt}
use Rattle.c_tree.specs.declared.statement.CStmt.TheVariants as stmt
use Rattle.c_tree.specs.declared.statement.CTest.{CTest}
use Rattle.c_tree.specs.declared.statement.CTest.TheVariants as test
use Rattle.c_tree.specs.Forms.{IsStatement, IsValue}
use Rattle.c_tree.specs.Names.{letter_token, name_token, variable_token}
use Rattle.c_tree.specs.Statements.{field, op_spelling, table_of, view}
use Rattle.c_tree.specs.Values.{value_spelling}
use Rattle.c_place.specs.Places.{element_spelling}
use Rattle.c_statement.specs.declared.source.Source.TheVariants as source
use Rattle.c_statement.specs.declared.statement_kind.StatementKind.{StatementKind}
use Rattle.c_statement.specs.declared.statement_kind.StatementKind.TheVariants as kind
use Rattle.c_statement.specs.declared.store.Store.TheVariants as store
use Rattle.c_statement.specs.Seen.{sign_at, word_at}
use Rattle.c_statement.specs.Sources.{call_tokens, end, ended_tokens, method_call_tokens, source_tokens}
use Rattle.c_statement.specs.Stores.{store_tokens}

-- `goto L0;`
abbrev pub target_tokens : ℕ → List CToken
target_tokens j = word "goto" ∷ letter_token "L" j ∷ end

-- `k == k)`
abbrev pub IsComparison : CTest → Type 0
IsComparison (test.Compare a o b) = IsValue a × IsValue b
IsComparison _ = ⊥

abbrev pub comparison_tokens : CTest → List CToken
comparison_tokens (test.Compare a o b) = value_spelling a ++ (op_spelling o ∷ (value_spelling b ++ (sign ")" ∷ [])))
comparison_tokens _ = []

abbrev pub test_tokens : CTest → List CToken
test_tokens (test.Compare a o b) = word "if" ∷ sign "(" ∷ comparison_tokens (test.Compare a o b)
test_tokens test.ErrorSet = word "if" ∷ sign "(" ∷ word "PyErr_Occurred" ∷ sign "(" ∷ sign ")" ∷ sign ")" ∷ []
test_tokens test.Always = []

abbrev pub statement_tokens : CStmt → List CToken
statement_tokens (stmt.Assign x k) = variable_token x ∷ sign "=" ∷ source_tokens (source.Value k)
statement_tokens (stmt.Binary x a o b) = variable_token x ∷ sign "=" ∷ source_tokens (source.Binary a o b)
statement_tokens (stmt.Invert x k) = variable_token x ∷ sign "=" ∷ source_tokens (source.Invert k)
statement_tokens (stmt.Cast x t k) = variable_token x ∷ sign "=" ∷ source_tokens (source.Cast t k)
statement_tokens (stmt.Call (Some x) f all) = variable_token x ∷ sign "=" ∷ call_tokens (record { callee = f; arguments = all })
statement_tokens (stmt.Call None f all) = call_tokens (record { callee = f; arguments = all })
statement_tokens (stmt.LoadField x p) = variable_token x ∷ sign "=" ∷ source_tokens (source.Field p)
statement_tokens (stmt.StoreField p k) = field p ++ (sign "=" ∷ ended_tokens k)
statement_tokens (stmt.StoreTable y n) = table_of y ++ (sign "=" ∷ sign "&" ∷ name_token "cyc_t_" n ∷ end)
statement_tokens (stmt.CallMethod (Some x) n y j all) =
    variable_token x ∷ sign "=" ∷ method_call_tokens (record { method = record { table = n; object = y; slot = j }; arguments = all })
statement_tokens (stmt.CallMethod None n y j all) = method_call_tokens (record { method = record { table = n; object = y; slot = j }; arguments = all })
statement_tokens (stmt.IsNative x y n) = variable_token x ∷ sign "=" ∷ source_tokens (source.Native y n)
statement_tokens (stmt.HasHeapType x y) = variable_token x ∷ sign "=" ∷ source_tokens (source.HeapType y)
statement_tokens (stmt.Goto t j) = test_tokens t ++ target_tokens j
statement_tokens (stmt.Return None) = word "return" ∷ end
statement_tokens (stmt.Return (Some k)) = word "return" ∷ ended_tokens k
statement_tokens (stmt.Free x) =
    word "Py_TYPE" ∷ sign "(" ∷ variable_token x ∷ sign ")" ∷ sign "->" ∷ word "tp_free" ∷ sign "(" ∷ variable_token x ∷ sign ")" ∷ end
statement_tokens (stmt.ViewNumber x y n) = variable_token x ∷ sign "=" ∷ source_tokens (source.Number y n)
statement_tokens (stmt.IsIndirect x y) = variable_token x ∷ sign "=" ∷ source_tokens (source.Indirect y)
statement_tokens (stmt.HasFormat x y letters) = variable_token x ∷ sign "=" ∷ source_tokens (source.Format y letters)
statement_tokens (stmt.TakeBuffer v y) = view v ++ store_tokens v (store.Take y)
statement_tokens (stmt.CopyBuffer v w) = view v ++ store_tokens v (store.Copy w)
statement_tokens (stmt.MoveBuffer v k) = view v ++ store_tokens v (store.Move k)
statement_tokens (stmt.StoreMemory v k) = view v ++ store_tokens v (store.Memory k)
statement_tokens (stmt.LoadMemory x v) = variable_token x ∷ sign "=" ∷ source_tokens (source.Memory v)
statement_tokens (stmt.StoreExtent v e j k) = view v ++ store_tokens v (store.Extent e j k)
statement_tokens (stmt.LoadExtent x v e j) = variable_token x ∷ sign "=" ∷ source_tokens (source.Extent v e j)
statement_tokens (stmt.LoadElement x t v y) = variable_token x ∷ sign "=" ∷ source_tokens (source.Element (record { kind = t; view = v; offset = y }))
statement_tokens (stmt.StoreElement t v y k) = element_spelling (record { kind = t; view = v; offset = y }) ++ (sign "=" ∷ ended_tokens k)

abbrev pub statement_kind : CStmt → StatementKind
statement_kind (stmt.Call None f all) = kind.Call
statement_kind (stmt.StoreField p k) = kind.Place
statement_kind (stmt.StoreTable y n) = kind.Table
statement_kind (stmt.CallMethod None n y j all) = kind.Method
statement_kind (stmt.Goto t j) = kind.Goto
statement_kind (stmt.Return k) = kind.Return
statement_kind (stmt.Free x) = kind.Free
statement_kind (stmt.TakeBuffer v y) = kind.Place
statement_kind (stmt.CopyBuffer v w) = kind.Place
statement_kind (stmt.MoveBuffer v k) = kind.Place
statement_kind (stmt.StoreMemory v k) = kind.Place
statement_kind (stmt.StoreExtent v e j k) = kind.Place
statement_kind (stmt.StoreElement t v y k) = kind.Element
statement_kind _ = kind.Assigned

-- a statement in form of the kind
abbrev pub IsStatementOf : StatementKind → CStmt → Type 0
IsStatementOf k s = IsStatement s × (statement_kind s ≡ k)

abbrev pub place_seen : List CToken → StatementKind
place_seen tokens =
    if word_at "const" 2 tokens then kind.Method else
    if word_at "cyc_root" 3 tokens then kind.Table else kind.Place

abbrev pub named_seen : List CToken → StatementKind
named_seen tokens =
    if sign_at "=" 1 tokens then kind.Assigned else
    if sign_at "." 1 tokens then kind.Place else
    if sign_at ")" 3 tokens && sign_at "->" 4 tokens then kind.Free else kind.Call

abbrev pub statement_seen : List CToken → StatementKind
statement_seen tokens =
    if word_at "goto" 0 tokens then kind.Goto else
    if word_at "if" 0 tokens then kind.Goto else
    if word_at "return" 0 tokens then kind.Return else
    if sign_at "*" 0 tokens then kind.Element else
    if sign_at "(" 0 tokens then place_seen tokens else named_seen tokens
