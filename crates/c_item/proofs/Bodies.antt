-- Functions, and the function that tests a format.
use Rattle.std.proofs.Common.{◌≡◌, ℕ, List, ◌∷◌, ◌++◌, refl, sym, ap, ◌∙◌}
use Rattle.std.specs.Prelude.{Bool, true, false, ◌&&◌, codes}
use Rattle.std.specs.Str.{bytes_eq}
use Rattle.c_token.specs.CTokens.{CToken, Word, sign, c_tokens, tokens_from}
use Rattle.c_tree.specs.declared.item.CFunction.{CFunction}
use Rattle.c_tree.specs.declared.item.CHead.{CHead}
use Rattle.c_tree.specs.declared.item.CHead.TheVariants as head
use Rattle.c_tree.specs.declared.item.CItem.TheVariants as item
use Rattle.c_tree.specs.declared.value.CResult.{CResult}
use Rattle.c_tree.specs.declared.value.CResult.TheVariants as result
use Rattle.c_tree.specs.declared.value.CType.TheVariants as type
use Rattle.c_tree.specs.Forms.{IsFunction, IsItem}
use Rattle.c_tree.specs.Items.{function_spelling, head_spelling, item_spelling}
use Rattle.c_tree.specs.Names.{text}
use Rattle.c_tree.specs.Values.{result_spelling}
use Rattle.c_table.proofs.Steps.{assoc}
use Rattle.c_item.specs.Fixed.{test_end, test_head, test_mark, test_null, test_tokens}

head_spelled : text "static int cyc_fmt(const char *f, const char *set)" ≡ test_head
unfolding c_tokens tokens_from
head_spelled = refl

null_spelled : text "{ if (f == NULL) f = \"B\";" ≡ test_null
unfolding c_tokens tokens_from
null_spelled = refl

mark_spelled : text "if (f[0] == '@') f = f + 1;" ≡ test_mark
unfolding c_tokens tokens_from
mark_spelled = refl

end_spelled : text "return f[0] != 0 && f[1] == 0 && strchr(set, f[0]) != NULL;" ++ text "}" ≡ test_end
unfolding c_tokens tokens_from
end_spelled = refl

pub test_spelled : item_spelling item.FormatTest ≡ test_tokens
unfolding item_spelling
test_spelled =
    ap (λ (t : List CToken). t ++ (text "{ if (f == NULL) f = \"B\";" ++ (text "if (f[0] == '@') f = f + 1;" ++ (text "return f[0] != 0 && f[1] == 0 && strchr(set, f[0]) != NULL;" ++ text "}")))) head_spelled
    ∙ (ap (λ (t : List CToken). test_head ++ (t ++ (text "if (f[0] == '@') f = f + 1;" ++ (text "return f[0] != 0 && f[1] == 0 && strchr(set, f[0]) != NULL;" ++ text "}")))) null_spelled
    ∙ (ap (λ (t : List CToken). test_head ++ (test_null ++ (t ++ (text "return f[0] != 0 && f[1] == 0 && strchr(set, f[0]) != NULL;" ++ text "}")))) mark_spelled
    ∙ ap (λ (t : List CToken). test_head ++ (test_null ++ (test_mark ++ t))) end_spelled))

pub function_spelled : (f : CFunction) → item_spelling (item.Function f) ≡ function_spelling f
unfolding item_spelling
function_spelled f = refl

pub function_item : (f : CFunction) → IsFunction f → IsItem (item.Function f)
unfolding IsItem
function_item f form = form

pub item_function : (f : CFunction) → IsItem (item.Function f) → IsFunction f
unfolding IsItem
item_function f form = form

pub test_item : IsItem item.FormatTest
unfolding IsItem
test_item = tt

-- the first three words are those of the test of a format
abbrev is_test : List CToken → Bool
is_test (Word a ∷ Word b ∷ Word d ∷ more) = bytes_eq a (codes "static") && (bytes_eq b (codes "int") && bytes_eq d (codes "cyc_fmt"))
is_test _ = false

plain_test : (kind : CResult) (w : List ℕ) (more : List CToken) → is_test (result_spelling kind ++ (Word w ∷ sign "(" ∷ more)) ≡ false
unfolding c_tokens tokens_from
plain_test result.Void w more = refl
plain_test (result.Value type.SignedChar) w more = refl
plain_test (result.Value type.UnsignedChar) w more = refl
plain_test (result.Value type.Short) w more = refl
plain_test (result.Value type.UnsignedShort) w more = refl
plain_test (result.Value type.Int) w more = refl
plain_test (result.Value type.UnsignedInt) w more = refl
plain_test (result.Value type.Long) w more = refl
plain_test (result.Value type.UnsignedLong) w more = refl
plain_test (result.Value type.PySsizeT) w more = refl
plain_test (result.Value type.Object) w more = refl
plain_test (result.Value type.View) w more = refl
plain_test (result.Value type.ThreadState) w more = refl
plain_test (result.Value type.LockState) w more = refl
plain_test (result.Value type.TypeObject) w more = refl

head_test : (h : CHead) (more : List CToken) → is_test (head_spelling h ++ more) ≡ false
unfolding c_tokens tokens_from
head_test (head.Wrapper n) more = refl
head_test (head.New n) more = refl
head_test (head.Init n) more = refl
head_test (head.Dealloc n) more = refl
head_test (head.Len n) more = refl
head_test (head.Item n) more = refl
head_test (head.Has n) more = refl
head_test (head.Getter f) more = refl
head_test (head.Setter f) more = refl
head_test (head.Initializer name) more = refl
head_test head.Body more = refl
head_test (head.Plain n kind parameters) more = ap is_test (assoc (result_spelling kind) _ more) ∙ plain_test kind _ _
head_test (head.Overridable n kind parameters) more = ap is_test (assoc (result_spelling kind) _ more) ∙ plain_test kind _ _

pub no_test : (f : CFunction) → function_spelling f ≡ test_tokens → ⊥
no_test f e = let other : true ≡ false = sym (ap is_test e) ∙ head_test f.head _ in cc other
