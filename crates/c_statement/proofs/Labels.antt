-- Lines one by one: how they begin, and whether the last is a label.
use Rattle.std.proofs.Common.{◌≡◌, ◌⊎◌, inl, inr, ℕ, List, [], ◌∷◌, ◌++◌, Bool, true, false, Some, None, refl, sym, ap, subst, ◌∙◌}
use Rattle.std.specs.Prelude.{◌≢◌, codes}
use Rattle.std.proofs.lemmas.Bool.{false≢true}
use Rattle.c_token.specs.CTokens.{CToken, Word, c_tokens, tokens_from}
use Rattle.c_tree.specs.declared.item.Line.{Line}
use Rattle.c_tree.specs.declared.item.Line.TheVariants as line
use Rattle.c_tree.specs.declared.statement.CStmt.{CStmt}
use Rattle.c_tree.specs.declared.statement.CStmt.TheVariants as stmt
use Rattle.c_tree.specs.declared.statement.CTest.TheVariants as test
use Rattle.c_tree.specs.declared.statement.ViewPlace.TheVariants as place
use Rattle.c_tree.specs.declared.value.CValue.{CValue}
use Rattle.c_tree.specs.declared.value.CValue.TheVariants as value
use Rattle.c_tree.specs.Forms.{LabelsStand}
use Rattle.c_tree.specs.Items.{line_spelling}
use Rattle.c_tree.specs.Statements.{statement_spelling}
use Rattle.c_tree.specs.Values.{literal_spelling}
use Rattle.c_input.proofs.Sides.{negative_spelled, sides}
use Rattle.c_input.specs.Literals.{IsBelow}
use Rattle.c_statement.proofs.Spelt.{statement_spelled}
use Rattle.c_statement.specs.Lines.{ends_in_label, is_label, IsClosed}
use Rattle.c_statement.specs.Seen.{is_sign, sign_at}
use Rattle.c_statement.specs.Sources.{end, ended_tokens}
use Rattle.c_statement.specs.Statements.{statement_tokens}

-- ---- how statements begin

no_colon : (k : CValue) (rest : List CToken) → sign_at ":" 0 (ended_tokens k ++ rest) ≡ false
unfolding c_tokens tokens_from
no_colon (value.Literal l) rest = go (sides l)
  where
    go : IsBelow l ⊎ ((w : List ℕ) × (literal_spelling l ≡ Word w ∷ [])) → sign_at ":" 0 ((literal_spelling l ++ end) ++ rest) ≡ false
    go (inl below) = ap (λ s. sign_at ":" 0 ((s ++ end) ++ rest)) (negative_spelled l below)
    go (inr w) = ap (λ s. sign_at ":" 0 ((s ++ end) ++ rest)) w.1
no_colon (value.Variable x) rest = refl
no_colon (value.Argument j) rest = refl
no_colon value.Null rest = refl
no_colon value.NoneObject rest = refl
no_colon value.TrueObject rest = refl
no_colon value.FalseObject rest = refl
no_colon (value.Exception e) rest = refl
no_colon (value.ClassObject n) rest = refl
no_colon (value.TypeAddress n) rest = refl
no_colon value.Definition rest = refl

abbrev pub is_filled : List CToken → Bool
is_filled [] = false
is_filled (token ∷ more) = true

pub record IsStart (tokens : List CToken) : Type 0 where
  pub colon : sign_at ":" 1 tokens ≡ false
  pub close : sign_at "}" 0 tokens ≡ false
  pub filled : is_filled tokens ≡ true

starts : (s : CStmt) (rest : List CToken) → IsStart (statement_tokens s ++ rest)
unfolding c_tokens tokens_from
starts (stmt.Assign x k) rest = record { colon = refl; close = refl; filled = refl }
starts (stmt.Binary x a o b) rest = record { colon = refl; close = refl; filled = refl }
starts (stmt.Invert x k) rest = record { colon = refl; close = refl; filled = refl }
starts (stmt.Cast x t k) rest = record { colon = refl; close = refl; filled = refl }
starts (stmt.Call (Some x) f all) rest = record { colon = refl; close = refl; filled = refl }
starts (stmt.Call None f all) rest = record { colon = refl; close = refl; filled = refl }
starts (stmt.LoadField x p) rest = record { colon = refl; close = refl; filled = refl }
starts (stmt.StoreField p k) rest = record { colon = refl; close = refl; filled = refl }
starts (stmt.StoreTable y n) rest = record { colon = refl; close = refl; filled = refl }
starts (stmt.CallMethod (Some x) n y j all) rest = record { colon = refl; close = refl; filled = refl }
starts (stmt.CallMethod None n y j all) rest = record { colon = refl; close = refl; filled = refl }
starts (stmt.IsNative x y n) rest = record { colon = refl; close = refl; filled = refl }
starts (stmt.HasHeapType x y) rest = record { colon = refl; close = refl; filled = refl }
starts (stmt.Goto (test.Compare a o b) j) rest = record { colon = refl; close = refl; filled = refl }
starts (stmt.Goto test.ErrorSet j) rest = record { colon = refl; close = refl; filled = refl }
starts (stmt.Goto test.Always j) rest = record { colon = refl; close = refl; filled = refl }
starts (stmt.Return None) rest = record { colon = refl; close = refl; filled = refl }
starts (stmt.Return (Some k)) rest = record { colon = no_colon k rest; close = refl; filled = refl }
starts (stmt.Free x) rest = record { colon = refl; close = refl; filled = refl }
starts (stmt.ViewNumber x y n) rest = record { colon = refl; close = refl; filled = refl }
starts (stmt.IsIndirect x y) rest = record { colon = refl; close = refl; filled = refl }
starts (stmt.HasFormat x y letters) rest = record { colon = refl; close = refl; filled = refl }
starts (stmt.TakeBuffer (place.Variable x) y) rest = record { colon = refl; close = refl; filled = refl }
starts (stmt.TakeBuffer (place.Field p) y) rest = record { colon = refl; close = refl; filled = refl }
starts (stmt.CopyBuffer (place.Variable x) w) rest = record { colon = refl; close = refl; filled = refl }
starts (stmt.CopyBuffer (place.Field p) w) rest = record { colon = refl; close = refl; filled = refl }
starts (stmt.MoveBuffer (place.Variable x) k) rest = record { colon = refl; close = refl; filled = refl }
starts (stmt.MoveBuffer (place.Field p) k) rest = record { colon = refl; close = refl; filled = refl }
starts (stmt.StoreMemory (place.Variable x) k) rest = record { colon = refl; close = refl; filled = refl }
starts (stmt.StoreMemory (place.Field p) k) rest = record { colon = refl; close = refl; filled = refl }
starts (stmt.LoadMemory x v) rest = record { colon = refl; close = refl; filled = refl }
starts (stmt.StoreExtent (place.Variable x) e j k) rest = record { colon = refl; close = refl; filled = refl }
starts (stmt.StoreExtent (place.Field p) e j k) rest = record { colon = refl; close = refl; filled = refl }
starts (stmt.LoadExtent x v e j) rest = record { colon = refl; close = refl; filled = refl }
starts (stmt.LoadElement x t v y) rest = record { colon = refl; close = refl; filled = refl }
starts (stmt.StoreElement t v y k) rest = record { colon = refl; close = refl; filled = refl }

pub spelled_starts : (s : CStmt) (rest : List CToken) → IsStart (statement_spelling s ++ rest)
spelled_starts s rest = subst (λ (t : List CToken). IsStart (t ++ rest)) (sym (statement_spelled s)) (starts s rest)

-- ---- lines

pub no_label : (s : CStmt) (rest : List CToken) {old : List CToken} {b : Bool} → old ≡ statement_spelling s ++ rest → b ≡ sign_at ":" 1 old → b ≡ true → ⊥
no_label s rest e seen is = false≢true (sym (spelled_starts s rest).colon ∙ (ap (sign_at ":" 1) (sym e) ∙ (sym seen ∙ is)))

not_closed : (l : Line) (rest : List CToken) → sign_at "}" 0 (line_spelling l ++ rest) ≡ false
not_closed (line.Label j) rest = refl
not_closed (line.Statement s) rest = (spelled_starts s rest).close

pub none_closed : (l : Line) (rest : List CToken) {old : List CToken} → IsClosed old → old ≡ line_spelling l ++ rest → ⊥
none_closed l rest closed e = false≢true (sym (not_closed l rest) ∙ (ap (sign_at "}" 0) (sym e) ∙ ap (is_sign (codes "}")) closed))

pub line_filled : (l : Line) → line_spelling l ≢ []
line_filled (line.Label j) e = false≢true (sym (ap is_filled e))
line_filled (line.Statement s) e = false≢true (sym (ap (λ (t : List CToken). is_filled (t ++ [])) e) ∙ (spelled_starts s []).filled)

pub ends_pushed : (lines : List Line) (last : Line) → ends_in_label (lines ++ last ∷ []) ≡ is_label last
ends_pushed [] last = refl
ends_pushed (first ∷ []) last = refl
ends_pushed (first ∷ next ∷ lines) last = ends_pushed (next ∷ lines) last

pub stand_of : (lines : List Line) → ends_in_label lines ≡ false → LabelsStand lines
stand_of [] h = tt
stand_of (line.Label j ∷ []) h = absurd (false≢true (sym h))
stand_of (line.Statement s ∷ []) h = tt
stand_of (line.Label j ∷ next ∷ lines) h = stand_of (next ∷ lines) h
stand_of (line.Statement s ∷ next ∷ lines) h = stand_of (next ∷ lines) h

pub ends_of : (lines : List Line) → LabelsStand lines → ends_in_label lines ≡ false
ends_of [] h = refl
ends_of (line.Label j ∷ []) h = absurd h
ends_of (line.Statement s ∷ []) h = refl
ends_of (line.Label j ∷ next ∷ lines) h = ends_of (next ∷ lines) h
ends_of (line.Statement s ∷ next ∷ lines) h = ends_of (next ∷ lines) h
