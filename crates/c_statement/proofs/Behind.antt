-- What may stand behind an operand, and casts of operands.
use Rattle.std.proofs.Common.{◌≡◌, ◌⊎◌, inl, inr, ℕ, List, [], ◌∷◌, ◌++◌, false, Some, refl, sym, ap, ◌∙◌}
use Rattle.std.proofs.lemmas.List.{append_assoc}
use Rattle.std.specs.Prelude.{◌≢◌, codes, slice_get}
use Rattle.std.proofs.lemmas.Bool.{false≢true}
use Rattle.c_token.specs.CTokens.{CToken, Word, sign, word, c_tokens, tokens_from}
use Rattle.c_tree.specs.declared.statement.BinaryOp.{BinaryOp}
use Rattle.c_tree.specs.declared.statement.BinaryOp.TheVariants as op
use Rattle.c_tree.specs.declared.value.CType.{CType}
use Rattle.c_tree.specs.declared.value.CType.TheVariants as type
use Rattle.c_tree.specs.declared.value.CValue.{CValue}
use Rattle.c_tree.specs.declared.value.CValue.TheVariants as value
use Rattle.c_tree.specs.declared.statement.CTest.{CTest}
use Rattle.c_tree.specs.declared.statement.CTest.TheVariants as test
use Rattle.c_tree.specs.Forms.{IsCast, IsTest, IsValue}
use Rattle.c_tree.specs.Values.{literal_spelling, value_spelling}
use Rattle.c_input.proofs.Sides.{negative_spelled, sides}
use Rattle.c_input.specs.Literals.{IsBelow}
use Rattle.c_statement.proofs.FirstTokens.{op_behind}
use Rattle.c_statement.specs.Statements.{comparison_tokens, target_tokens, test_tokens, IsComparison}
use Rattle.c_tree.specs.Statements.{op_spelling}
use Rattle.c_input.specs.Reads.{Finds}
use Rattle.c_statement.specs.declared.source.Source.TheVariants as source
use Rattle.c_statement.specs.Seen.{is_sign, sign_at, word_at}
use Rattle.c_statement.specs.Sources.{cast_of, end, source_tokens, IsSource}

pub end_behind : (rest : List CToken) → slice_get (sign ";" ∷ rest) 0 ≢ Some (sign "[")
end_behind rest e = cc

pub op_no_bracket : (o : BinaryOp) (rest : List CToken) → slice_get (op_spelling o ∷ rest) 0 ≢ Some (sign "[")
op_no_bracket op.Add rest e = false≢true (ap (is_sign (codes "[")) e)
op_no_bracket op.Subtract rest e = false≢true (ap (is_sign (codes "[")) e)
op_no_bracket op.Multiply rest e = false≢true (ap (is_sign (codes "[")) e)
op_no_bracket op.Divide rest e = false≢true (ap (is_sign (codes "[")) e)
op_no_bracket op.Remainder rest e = false≢true (ap (is_sign (codes "[")) e)
op_no_bracket op.BitAnd rest e = false≢true (ap (is_sign (codes "[")) e)
op_no_bracket op.BitOr rest e = false≢true (ap (is_sign (codes "[")) e)
op_no_bracket op.BitXor rest e = false≢true (ap (is_sign (codes "[")) e)
op_no_bracket op.ShiftLeft rest e = false≢true (ap (is_sign (codes "[")) e)
op_no_bracket op.ShiftRight rest e = false≢true (ap (is_sign (codes "[")) e)
op_no_bracket op.Less rest e = false≢true (ap (is_sign (codes "[")) e)
op_no_bracket op.LessEqual rest e = false≢true (ap (is_sign (codes "[")) e)
op_no_bracket op.Equal rest e = false≢true (ap (is_sign (codes "[")) e)
op_no_bracket op.NotEqual rest e = false≢true (ap (is_sign (codes "[")) e)
op_no_bracket op.Greater rest e = false≢true (ap (is_sign (codes "[")) e)
op_no_bracket op.GreaterEqual rest e = false≢true (ap (is_sign (codes "[")) e)

pub op_apart : (o : BinaryOp) {xs ys : List CToken} → sign ";" ∷ xs ≡ op_spelling o ∷ ys → ⊥
op_apart op.Add e = false≢true (sym (ap (sign_at ";" 0) e))
op_apart op.Subtract e = false≢true (sym (ap (sign_at ";" 0) e))
op_apart op.Multiply e = false≢true (sym (ap (sign_at ";" 0) e))
op_apart op.Divide e = false≢true (sym (ap (sign_at ";" 0) e))
op_apart op.Remainder e = false≢true (sym (ap (sign_at ";" 0) e))
op_apart op.BitAnd e = false≢true (sym (ap (sign_at ";" 0) e))
op_apart op.BitOr e = false≢true (sym (ap (sign_at ";" 0) e))
op_apart op.BitXor e = false≢true (sym (ap (sign_at ";" 0) e))
op_apart op.ShiftLeft e = false≢true (sym (ap (sign_at ";" 0) e))
op_apart op.ShiftRight e = false≢true (sym (ap (sign_at ";" 0) e))
op_apart op.Less e = false≢true (sym (ap (sign_at ";" 0) e))
op_apart op.LessEqual e = false≢true (sym (ap (sign_at ";" 0) e))
op_apart op.Equal e = false≢true (sym (ap (sign_at ";" 0) e))
op_apart op.NotEqual e = false≢true (sym (ap (sign_at ";" 0) e))
op_apart op.Greater e = false≢true (sym (ap (sign_at ";" 0) e))
op_apart op.GreaterEqual e = false≢true (sym (ap (sign_at ";" 0) e))

pub cast_value : (t : CType) (k : CValue) → IsCast t k → IsValue k
cast_value type.Object (value.TypeAddress n) h = absurd h
cast_value t k h = h

pub cast_known : (t : CType) (k : CValue) → IsCast t k → cast_of t k ≡ Some (source.Cast t k)
cast_known type.Object (value.TypeAddress n) h = absurd h
cast_known t k h = refl

pub cast_found : (t : CType) (k : CValue) (old new : List CToken) → IsValue k → old ≡ source_tokens (source.Cast t k) ++ new → Finds IsSource source_tokens old (cast_of t k) new
cast_found type.Object (value.TypeAddress n) old new h e = tt
cast_found t k old new h e = (h, e)

pub close_behind : (rest : List CToken) → slice_get (sign ")" ∷ rest) 0 ≢ Some (sign "[")
close_behind rest e = cc

-- no operand begins with `;`
pub no_end : (k : CValue) (rest : List CToken) → sign_at ";" 0 ((value_spelling k ++ end) ++ rest) ≡ false
unfolding c_tokens tokens_from
no_end (value.Literal l) rest = go (sides l)
  where
    go : IsBelow l ⊎ ((w : List ℕ) × (literal_spelling l ≡ Word w ∷ [])) → sign_at ";" 0 ((literal_spelling l ++ end) ++ rest) ≡ false
    go (inl below) = ap (λ s. sign_at ";" 0 ((s ++ end) ++ rest)) (negative_spelled l below)
    go (inr w) = ap (λ s. sign_at ";" 0 ((s ++ end) ++ rest)) w.1
no_end (value.Variable x) rest = refl
no_end (value.Argument j) rest = refl
no_end value.Null rest = refl
no_end value.NoneObject rest = refl
no_end value.TrueObject rest = refl
no_end value.FalseObject rest = refl
no_end (value.Exception e) rest = refl
no_end (value.ClassObject n) rest = refl
no_end (value.TypeAddress n) rest = refl
no_end value.Definition rest = refl

pub returns_apart : (k : CValue) (rest : List CToken) {old new : List CToken} → old ≡ sign ";" ∷ new → old ≡ (value_spelling k ++ end) ++ rest → ⊥
returns_apart k rest f e = false≢true (sym (no_end k rest) ∙ (ap (sign_at ";" 0) (sym e) ∙ ap (sign_at ";" 0) f))

-- no call stands behind an operand's first token
second_of : (k : CValue) (t : CToken) (more : List CToken) → is_sign (codes "(") (Some t) ≡ false → sign_at "(" 1 (value_spelling k ++ (t ∷ more)) ≡ false
unfolding c_tokens tokens_from
second_of (value.Literal l) t more h = go (sides l)
  where
    go : IsBelow l ⊎ ((w : List ℕ) × (literal_spelling l ≡ Word w ∷ [])) → sign_at "(" 1 (literal_spelling l ++ (t ∷ more)) ≡ false
    go (inl below) = ap (λ s. sign_at "(" 1 (s ++ (t ∷ more))) (negative_spelled l below)
    go (inr w) = ap (λ s. sign_at "(" 1 (s ++ (t ∷ more))) w.1 ∙ h
second_of (value.Variable x) t more h = h
second_of (value.Argument j) t more h = refl
second_of value.Null t more h = h
second_of value.NoneObject t more h = h
second_of value.TrueObject t more h = h
second_of value.FalseObject t more h = h
second_of (value.Exception e) t more h = h
second_of (value.ClassObject n) t more h = refl
second_of (value.TypeAddress n) t more h = refl
second_of value.Definition t more h = refl

pub test_apart : (a : CValue) (o : BinaryOp) (b : CValue) (j : ℕ) (rest : List CToken) {old new : List CToken}
    → old ≡ word "PyErr_Occurred" ∷ sign "(" ∷ new → old ≡ (comparison_tokens (test.Compare a o b) ++ target_tokens j) ++ rest → ⊥
test_apart a o b j rest f e =
    let e1 = e ∙ ap (λ (t : List CToken). t ++ rest) (append_assoc (value_spelling a) (op_spelling o ∷ (value_spelling b ++ (sign ")" ∷ []))) (target_tokens j)) in
    let e2 = e1 ∙ append_assoc (value_spelling a) (op_spelling o ∷ ((value_spelling b ++ (sign ")" ∷ [])) ++ target_tokens j)) rest in
    false≢true (sym (second_of a (op_spelling o) (((value_spelling b ++ (sign ")" ∷ [])) ++ target_tokens j) ++ rest) (op_behind o).0) ∙ (ap (sign_at "(" 1) (sym e2) ∙ ap (sign_at "(" 1) f))

pub goto_apart : {xs ys : List CToken} → word "if" ∷ xs ≡ word "goto" ∷ ys → ⊥
goto_apart e = false≢true (sym (ap (word_at "if" 0) e))

pub comparison_form : (t : CTest) → IsComparison t → IsTest t
comparison_form (test.Compare a o b) h = h
comparison_form test.ErrorSet h = absurd h
comparison_form test.Always h = absurd h

pub comparison_known : (t : CTest) → IsComparison t → test_tokens t ≡ word "if" ∷ sign "(" ∷ comparison_tokens t
comparison_known (test.Compare a o b) h = refl
comparison_known test.ErrorSet h = absurd h
comparison_known test.Always h = absurd h
