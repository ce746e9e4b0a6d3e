-- No line begins as a declaration does.
use Rattle.std.proofs.Common.{◌≡◌, Bool, true, false, ◌&&◌, List, [], ◌∷◌, ◌++◌, Some, None, refl, ap, ◌∙◌}
use Rattle.std.specs.Prelude.{not}
use Rattle.std.specs.List.{flat_map}
use Rattle.c_token.specs.CTokens.{CToken, Word, word, sign, c_tokens, tokens_from}
use Rattle.c_tree.specs.declared.item.Line.{Line}
use Rattle.c_tree.specs.declared.item.Line.TheVariants as line
use Rattle.c_tree.specs.declared.name.FixedParameter.TheVariants as fixed
use Rattle.c_tree.specs.declared.name.Place.TheVariants as place
use Rattle.c_tree.specs.declared.name.Variable.{Variable}
use Rattle.c_tree.specs.declared.name.Variable.TheVariants as variable
use Rattle.c_tree.specs.declared.statement.Argument.{Argument}
use Rattle.c_tree.specs.declared.statement.CStmt.{CStmt}
use Rattle.c_tree.specs.declared.statement.CStmt.TheVariants as stmt
use Rattle.c_tree.specs.declared.statement.CTest.{CTest}
use Rattle.c_tree.specs.declared.statement.CTest.TheVariants as test
use Rattle.c_tree.specs.declared.statement.Callee.{Callee}
use Rattle.c_tree.specs.declared.statement.ViewPlace.{ViewPlace}
use Rattle.c_tree.specs.declared.statement.ViewPlace.TheVariants as view
use Rattle.c_tree.specs.Items.{line_spelling}
use Rattle.c_tree.specs.Names.{text, name_token, variable_name, variable_token}
use Rattle.c_tree.specs.Values.{string, type_spelling, value_spelling}
use Rattle.c_tree.specs.Statements.{arguments, assigned, between, buffer_of, callee_name, element, extent_of, field, method_of, number_spelling, statement_spelling, test_spelling}
use Rattle.c_tree.specs.Statements.{view as view_spelling}
use Rattle.c_operand.proofs.Commas.{append_assoc}
use Rattle.c_function.specs.Parts.{is_declared, is_type_word, opens}

variable_word : (x : Variable) → is_type_word (variable_name x) ≡ false
variable_word (variable.Parameter j) = refl
variable_word (variable.Local j) = refl
variable_word (variable.Temporary j) = refl
variable_word variable.Returned = refl
variable_word (variable.Fixed fixed.SelfObject) = refl
variable_word (variable.Fixed fixed.Arguments) = refl
variable_word (variable.Fixed fixed.ArgumentCount) = refl
variable_word (variable.Fixed fixed.Type) = refl
variable_word (variable.Fixed fixed.Keywords) = refl
variable_word (variable.Fixed fixed.Key) = refl
variable_word (variable.Fixed fixed.Value) = refl
variable_word (variable.Fixed fixed.Closure) = refl
variable_word (variable.Place place.Module) = refl
variable_word (variable.Place place.Dictionary) = refl
variable_word (variable.Place place.Builtins) = refl
variable_word (variable.Place place.Ready) = refl
variable_word (variable.Place (place.Constant j)) = refl
variable_word (variable.Place (place.Global j)) = refl

and_false : (b : Bool) → b && false ≡ false
and_false true = refl
and_false false = refl

-- a variable begins no declaration
variable_first : (x : Variable) (rest : List CToken) → is_declared (variable_token x ∷ rest) ≡ false
variable_first x rest = ap (λ b. b && not (opens rest)) (variable_word x)

assigned_first : (x : Variable) (k rest : List CToken) → is_declared (assigned x k ++ rest) ≡ false
assigned_first x k rest = variable_first x (sign "=" ∷ ((k ++ (sign ";" ∷ [])) ++ rest))

-- a name that is called begins none
callee_first : (f : Callee) (all : List Argument) (rest : List CToken) → is_declared (((Word (callee_name f) ∷ arguments all) ++ (sign ";" ∷ [])) ++ rest) ≡ false
callee_first f all rest = and_false (is_type_word (callee_name f))

view_first : (v : ViewPlace) (rest : List CToken) → is_declared (view_spelling v ++ rest) ≡ false
unfolding c_tokens tokens_from
view_first (view.Variable x) rest = variable_first x rest
view_first (view.Field p) rest = refl

test_first : (t : CTest) (more rest : List CToken) → is_declared ((test_spelling t ++ (word "goto" ∷ more)) ++ rest) ≡ false
unfolding c_tokens tokens_from
test_first (test.Compare a o b) more rest = refl
test_first test.ErrorSet more rest = refl
test_first test.Always more rest = refl

-- what is stored to a view
stored_first : (v : ViewPlace) (more after rest : List CToken) → is_declared (((view_spelling v ++ more) ++ after) ++ rest) ≡ false
stored_first v more after rest =
    ap is_declared (append_assoc (view_spelling v ++ more) after rest ∙ append_assoc (view_spelling v) more (after ++ rest)) ∙ view_first v (more ++ (after ++ rest))

pub statement_first : (s : CStmt) (rest : List CToken) → is_declared (statement_spelling s ++ rest) ≡ false
unfolding statement_spelling c_tokens tokens_from
statement_first (stmt.Assign x k) rest = assigned_first x (value_spelling k) rest
statement_first (stmt.Binary x a o b) rest = assigned_first x (between o (value_spelling a) (value_spelling b)) rest
statement_first (stmt.Invert x k) rest = assigned_first x (sign "~" ∷ value_spelling k) rest
statement_first (stmt.Cast x kind k) rest = assigned_first x (sign "(" ∷ (type_spelling kind ++ (sign ")" ∷ value_spelling k))) rest
statement_first (stmt.Call (Some x) f all) rest = assigned_first x (Word (callee_name f) ∷ arguments all) rest
statement_first (stmt.Call None f all) rest = callee_first f all rest
statement_first (stmt.LoadField x p) rest = assigned_first x (field p) rest
statement_first (stmt.StoreField p k) rest = refl
statement_first (stmt.StoreTable y n) rest = refl
statement_first (stmt.CallMethod (Some x) n y j all) rest = assigned_first x (method_of n y j ++ arguments all) rest
statement_first (stmt.CallMethod None n y j all) rest = refl
statement_first (stmt.IsNative x y n) rest = assigned_first x (text "PyCFunction_Check(" ++ (variable_token y ∷ (text ") && PyCFunction_GetFunction(" ++ (variable_token y ∷ (text ") == (PyCFunction)(void (*)(void))" ++ (name_token "cyc_w_" n ∷ [])))))) rest
statement_first (stmt.HasHeapType x y) rest = assigned_first x (text "PyType_HasFeature(Py_TYPE(" ++ (variable_token y ∷ text "), Py_TPFLAGS_HEAPTYPE)")) rest
statement_first (stmt.Goto t j) rest = test_first t _ rest
statement_first (stmt.Return None) rest = refl
statement_first (stmt.Return (Some k)) rest = refl
statement_first (stmt.Free x) rest = refl
statement_first (stmt.ViewNumber x y n) rest = assigned_first x (buffer_of y ++ number_spelling n) rest
statement_first (stmt.IsIndirect x y) rest = assigned_first x (buffer_of y ++ text "suboffsets != NULL") rest
statement_first (stmt.HasFormat x y letters) rest = assigned_first x (text "cyc_fmt(" ++ (buffer_of y ++ (text "format, " ++ (string letters ∷ text ")")))) rest
statement_first (stmt.TakeBuffer v y) rest = stored_first v _ _ rest
statement_first (stmt.CopyBuffer v w) rest = stored_first v _ _ rest
statement_first (stmt.MoveBuffer v k) rest = stored_first v _ _ rest
statement_first (stmt.StoreMemory v k) rest = stored_first v _ _ rest
statement_first (stmt.LoadMemory x v) rest = assigned_first x (view_spelling v ++ text ".mv") rest
statement_first (stmt.StoreExtent v e j k) rest = stored_first v _ _ rest
statement_first (stmt.LoadExtent x v e j) rest = assigned_first x (extent_of v e j) rest
statement_first (stmt.LoadElement x kind v y) rest = assigned_first x (element kind v y) rest
statement_first (stmt.StoreElement kind v y k) rest = refl

-- neither do lines, up to `}`
pub lines_not_declared : (lines : List Line) (rest : List CToken) → is_declared (flat_map line_spelling lines ++ (sign "}" ∷ rest)) ≡ false
lines_not_declared [] rest = refl
lines_not_declared (line.Label j ∷ lines) rest = refl
lines_not_declared (line.Statement s ∷ lines) rest =
    let after : List CToken = flat_map line_spelling lines ++ (sign "}" ∷ rest) in
    ap is_declared (append_assoc (statement_spelling s) (flat_map line_spelling lines) (sign "}" ∷ rest)) ∙ statement_first s after
