-- What the first tokens say of each source in form.
use Rattle.std.proofs.Common.{◌≡◌, ◌⊎◌, inl, inr, ℕ, List, [], ◌∷◌, ◌++◌, Bool, true, false, Some, refl, sym, ap, subst, ◌∙◌}
use Rattle.std.specs.Prelude.{codes, ◌&&◌, not, if◌then◌else◌, IfOk, Option}
use Rattle.std.proofs.Common.{Result, Ok, Err}
use Rattle.c_input.specs.Reads.{ReadsEvery}
use Rattle.std.specs.List.{flat_map}
use Rattle.std.proofs.lemmas.List.{append_assoc}
use Rattle.c_token.specs.CTokens.{CToken, Word, sign, c_tokens, tokens_from}
use Rattle.c_tree.specs.declared.statement.Argument.{Argument}
use Rattle.c_tree.specs.declared.statement.Argument.TheVariants as argument
use Rattle.c_tree.specs.declared.statement.BinaryOp.{BinaryOp}
use Rattle.c_tree.specs.declared.statement.BinaryOp.TheVariants as op
use Rattle.c_tree.specs.declared.statement.ViewPlace.TheVariants as place
use Rattle.c_tree.specs.declared.value.CType.{CType}
use Rattle.c_tree.specs.declared.value.CType.TheVariants as type
use Rattle.c_tree.specs.declared.value.CValue.{CValue}
use Rattle.c_tree.specs.declared.value.CValue.TheVariants as value
use Rattle.c_tree.specs.declared.value.Literal.{Literal}
use Rattle.c_tree.specs.Forms.{IsCast}
use Rattle.c_tree.specs.Statements.{argument_spelling, arguments, op_spelling}
use Rattle.c_tree.specs.Values.{exception_name, literal_spelling, string, value_spelling}
use Rattle.c_tree.specs.Names.{variable_name}
use Rattle.c_input.proofs.Sides.{negative_spelled, sides}
use Rattle.c_input.specs.Literals.{IsBelow}
use Rattle.c_statement.specs.declared.source.Source.{Source}
use Rattle.c_statement.specs.declared.source.Source.TheVariants as source
use Rattle.c_statement.specs.declared.source_kind.SourceKind.TheVariants as kind
use Rattle.c_statement.specs.Seen.{is_sign, sign_at, word_at}
use Rattle.c_statement.specs.Sources.{end, source_kind, source_seen, source_tokens, IsSource, IsSourceOf}

-- what stands behind an operand is no `(` and no `.`
abbrev pub IsBehind : CToken → Type 0
IsBehind t = (is_sign (codes "(") (Some t) ≡ false) × (is_sign (codes ".") (Some t) ≡ false)

pub op_behind : (o : BinaryOp) → IsBehind (op_spelling o)
op_behind op.Add = (refl, refl)
op_behind op.Subtract = (refl, refl)
op_behind op.Multiply = (refl, refl)
op_behind op.Divide = (refl, refl)
op_behind op.Remainder = (refl, refl)
op_behind op.BitAnd = (refl, refl)
op_behind op.BitOr = (refl, refl)
op_behind op.BitXor = (refl, refl)
op_behind op.ShiftLeft = (refl, refl)
op_behind op.ShiftRight = (refl, refl)
op_behind op.Less = (refl, refl)
op_behind op.LessEqual = (refl, refl)
op_behind op.Equal = (refl, refl)
op_behind op.NotEqual = (refl, refl)
op_behind op.Greater = (refl, refl)
op_behind op.GreaterEqual = (refl, refl)

word_operand : (w : List ℕ) (t : CToken) (more : List CToken) → IsBehind t → source_seen (Word w ∷ t ∷ more) ≡ kind.Operand
word_operand w t more h = let bracket = h.0 in let dot = h.1 in rw (bracket, dot)

literal_operand : (l : Literal) (t : CToken) (more : List CToken) → IsBehind t → source_seen (literal_spelling l ++ (t ∷ more)) ≡ kind.Operand
literal_operand l t more h = go (sides l)
  where
    go : IsBelow l ⊎ ((w : List ℕ) × (literal_spelling l ≡ Word w ∷ [])) → source_seen (literal_spelling l ++ (t ∷ more)) ≡ kind.Operand
    go (inl below) = ap (λ s. source_seen (s ++ (t ∷ more))) (negative_spelled l below)
    go (inr w) = ap (λ s. source_seen (s ++ (t ∷ more))) w.1 ∙ word_operand w.0 t more h

pub operand_seen : (k : CValue) (t : CToken) (more : List CToken) → IsBehind t → source_seen (value_spelling k ++ (t ∷ more)) ≡ kind.Operand
unfolding c_tokens tokens_from
operand_seen (value.Variable x) t more h = word_operand (variable_name x) t more h
operand_seen (value.Argument j) t more h = refl
operand_seen (value.Literal l) t more h = literal_operand l t more h
operand_seen value.Null t more h = word_operand (codes "NULL") t more h
operand_seen value.NoneObject t more h = word_operand (codes "Py_None") t more h
operand_seen value.TrueObject t more h = word_operand (codes "Py_True") t more h
operand_seen value.FalseObject t more h = word_operand (codes "Py_False") t more h
operand_seen (value.Exception e) t more h = word_operand (exception_name e) t more h
operand_seen (value.ClassObject n) t more h = refl
operand_seen (value.TypeAddress n) t more h = refl
operand_seen value.Definition t more h = refl

-- an operand that is cast to an object doesn't begin as the address of a type object
abbrev is_class : List CToken → Bool
is_class tokens = sign_at "&" 0 tokens && not (word_at "cyc_def" 1 tokens)

literal_cast : (l : Literal) (rest : List CToken) → is_class ((literal_spelling l ++ end) ++ rest) ≡ false
literal_cast l rest = go (sides l)
  where
    go : IsBelow l ⊎ ((w : List ℕ) × (literal_spelling l ≡ Word w ∷ [])) → is_class ((literal_spelling l ++ end) ++ rest) ≡ false
    go (inl below) = ap (λ s. is_class ((s ++ end) ++ rest)) (negative_spelled l below)
    go (inr w) = ap (λ s. is_class ((s ++ end) ++ rest)) w.1

object_cast : (k : CValue) (rest : List CToken) → IsCast type.Object k → is_class ((value_spelling k ++ end) ++ rest) ≡ false
unfolding c_tokens tokens_from
object_cast (value.Variable x) rest h = refl
object_cast (value.Argument j) rest h = refl
object_cast (value.Literal l) rest h = literal_cast l rest
object_cast value.Null rest h = refl
object_cast value.NoneObject rest h = refl
object_cast value.TrueObject rest h = refl
object_cast value.FalseObject rest h = refl
object_cast (value.Exception e) rest h = refl
object_cast (value.ClassObject n) rest h = refl
object_cast (value.TypeAddress n) rest h = absurd h
object_cast value.Definition rest h = refl

cast_seen : (t : CType) (k : CValue) (rest : List CToken) → IsCast t k → source_seen (source_tokens (source.Cast t k) ++ rest) ≡ kind.Cast
unfolding c_tokens tokens_from
cast_seen type.Object k rest h = ap (λ b. if b then kind.Operand else kind.Cast) (object_cast k rest h)
cast_seen type.SignedChar k rest h = refl
cast_seen type.UnsignedChar k rest h = refl
cast_seen type.Short k rest h = refl
cast_seen type.UnsignedShort k rest h = refl
cast_seen type.Int k rest h = refl
cast_seen type.UnsignedInt k rest h = refl
cast_seen type.Long k rest h = refl
cast_seen type.UnsignedLong k rest h = refl
cast_seen type.PySsizeT k rest h = refl
cast_seen type.View k rest h = refl
cast_seen type.ThreadState k rest h = refl
cast_seen type.LockState k rest h = refl
cast_seen type.TypeObject k rest h = refl

-- ---- calls

-- Behind one token of arguments stands no `(`; where `)` stands there, `;` stands behind it.
pub record IsArguments (tokens : List CToken) : Type 0 where
  pub inner : sign_at "(" 2 tokens ≡ false
  pub closed : (sign_at ")" 2 tokens ≡ false) ⊎ ((sign_at "&&" 3 tokens ≡ false) × (sign_at "->" 3 tokens ≡ false))

abbrev behind_first : List Argument → List CToken → List CToken
behind_first more rest = ((flat_map (λ a. sign "," ∷ argument_spelling a) more ++ (sign ")" ∷ [])) ++ end) ++ rest

one_token : (t : CToken) (more : List Argument) (rest : List CToken) → IsArguments (sign "(" ∷ t ∷ behind_first more rest)
one_token t [] rest = record { inner = refl; closed = inr (refl, refl) }
one_token t (a ∷ more) rest = record { inner = refl; closed = inl refl }

abbrev first_with : List CToken → List Argument → List CToken → List CToken
first_with s more rest = ((sign "(" ∷ ((s ++ flat_map (λ a. sign "," ∷ argument_spelling a) more) ++ (sign ")" ∷ []))) ++ end) ++ rest

literal_first : (l : Literal) (more : List Argument) (rest : List CToken) → IsArguments (first_with (literal_spelling l) more rest)
literal_first l more rest = go (sides l)
  where
    go : IsBelow l ⊎ ((w : List ℕ) × (literal_spelling l ≡ Word w ∷ [])) → IsArguments (first_with (literal_spelling l) more rest)
    go (inl below) = subst (λ (s : List CToken). IsArguments (first_with s more rest)) (sym (negative_spelled l below)) (record { inner = refl; closed = inl refl })
    go (inr w) = subst (λ (s : List CToken). IsArguments (first_with s more rest)) (sym w.1) (one_token (Word w.0) more rest)

pub arguments_seen : (all : List Argument) (rest : List CToken) → IsArguments ((arguments all ++ end) ++ rest)
unfolding c_tokens tokens_from
arguments_seen [] rest = record { inner = refl; closed = inl refl }
arguments_seen (argument.Str bytes ∷ more) rest = one_token (string bytes) more rest
arguments_seen (argument.Value (value.Variable x) ∷ more) rest = one_token _ more rest
arguments_seen (argument.Value (value.Argument j) ∷ more) rest = record { inner = refl; closed = inl refl }
arguments_seen (argument.Value (value.Literal l) ∷ more) rest = literal_first l more rest
arguments_seen (argument.Value value.Null ∷ more) rest = one_token _ more rest
arguments_seen (argument.Value value.NoneObject ∷ more) rest = one_token _ more rest
arguments_seen (argument.Value value.TrueObject ∷ more) rest = one_token _ more rest
arguments_seen (argument.Value value.FalseObject ∷ more) rest = one_token _ more rest
arguments_seen (argument.Value (value.Exception e) ∷ more) rest = one_token _ more rest
arguments_seen (argument.Value (value.ClassObject n) ∷ more) rest = record { inner = refl; closed = inl refl }
arguments_seen (argument.Value (value.TypeAddress n) ∷ more) rest = record { inner = refl; closed = inl refl }
arguments_seen (argument.Value value.Definition ∷ more) rest = record { inner = refl; closed = inl refl }

abbrev call_by : Bool → Bool → Bool → Bool → Bool → kind.the_data
call_by inner format closed both arrow =
    if inner then (if format then kind.Format else kind.HeapType) else
    if not closed then kind.Call else
    if both then kind.Native else
    if arrow then kind.Buffer else kind.Call

called_seen : (inner format closed both arrow : Bool) → inner ≡ false → (closed ≡ false) ⊎ ((both ≡ false) × (arrow ≡ false)) → call_by inner format closed both arrow ≡ kind.Call
called_seen inner format closed both arrow h (inl k) = rw (h, k)
called_seen inner format true both arrow h (inr k) = let first = k.0 in let second = k.1 in rw (h, first, second)
called_seen inner format false both arrow h (inr k) = rw h

pub kind_of_source : (s : Source) (rest : List CToken) → IsSource s → source_seen (source_tokens s ++ rest) ≡ source_kind s
unfolding c_tokens tokens_from
kind_of_source (source.Value k) rest h = ap source_seen (append_assoc (value_spelling k) end rest) ∙ operand_seen k (sign ";") rest (refl, refl)
kind_of_source (source.Binary a o b) rest h = ap source_seen (append_assoc (value_spelling a) _ rest) ∙ operand_seen a (op_spelling o) _ (op_behind o)
kind_of_source (source.Invert k) rest h = refl
kind_of_source (source.Cast t k) rest h = cast_seen t k rest h
kind_of_source (source.Call c) rest h = let a = arguments_seen c.arguments rest in called_seen _ _ _ _ _ a.inner a.closed
kind_of_source (source.Field p) rest h = refl
kind_of_source (source.Method c) rest h = refl
kind_of_source (source.Native y n) rest h = refl
kind_of_source (source.HeapType y) rest h = refl
kind_of_source (source.Number y n) rest h = refl
kind_of_source (source.Indirect y) rest h = refl
kind_of_source (source.Format y letters) rest h = refl
kind_of_source (source.Memory (place.Variable x)) rest h = refl
kind_of_source (source.Memory (place.Field p)) rest h = refl
kind_of_source (source.Extent (place.Variable x) e j) rest h = refl
kind_of_source (source.Extent (place.Field p) e j) rest h = refl
kind_of_source (source.Element e) rest h = refl

pub told_kind : (s : Source) (rest : List CToken) {old : List CToken} {k : kind.the_data} → IsSource s → old ≡ source_tokens s ++ rest → k ≡ source_seen old → source_kind s ≡ k
told_kind s rest form e seen = sym (seen ∙ (ap source_seen e ∙ kind_of_source s rest form))

pub every_ok : {E : Type 0} (r : Result (Option Source) E) (old : List CToken) (k : kind.the_data) → k ≡ source_seen old
    → IfOk r (λ found. ReadsEvery (IsSourceOf k) source_tokens old found) → IfOk r (λ found. ReadsEvery IsSource source_tokens old found)
every_ok (Ok found) old k seen h = λ s rest form e. h s rest (form, told_kind s rest form e seen) e
every_ok (Err error) old k seen h = tt
