-- Worked rows of the reading of C texts.
use Rattle.std.proofs.Common.{◌≡◌, List, [], ◌∷◌, refl, sym, subst, true, false, codes}
use Rattle.std.proofs.lemmas.Bool.{false≢true}
use Rattle.c_token.specs.CTokens.{CToken, Str, HeaderName, LineEnd, Other, word, sign, c_tokens}
use Rattle.c_token.specs.Cutting.{c_items, item_start}
use Rattle.c_token.specs.Spelled.{IsNameInForm}
use Rattle.thin_state.specs.CReading.{c_reading, spelling, IsStatementInForm, LabelsStand, IsItemInForm}
use Rattle.thin_state.specs.declared.tree.CItem.{CItem}
use Rattle.thin_state.specs.declared.tree.CItem.TheVariants as item
use Rattle.thin_state.specs.declared.tree.CStmt.TheVariants as stmt
use Rattle.thin_state.specs.declared.tree.CType.TheVariants as type
use Rattle.thin_state.specs.declared.tree.CValue.TheVariants as value
use Rattle.thin_state.specs.declared.tree.Line.TheVariants as line
use Rattle.thin_state.specs.declared.tree.Place.TheVariants as place
use Rattle.c_token.proofs.Cut.{is_item_from}
use Rattle.thin_state.proofs.Items.{spelling_item}

small_text : c_tokens (codes "#include <Python.h>\nx = y==0 ? \"a\\\"b\" : L->p;\n")
    ≡ sign "#" ∷ word "include" ∷ HeaderName (codes "Python.h") ∷ LineEnd
    ∷ word "x" ∷ sign "=" ∷ word "y" ∷ sign "==" ∷ word "0" ∷ sign "?" ∷ Str (codes "a\\\"b") ∷ sign ":"
    ∷ word "L" ∷ sign "->" ∷ word "p" ∷ sign ";" ∷ []
unfolding c_tokens
small_text = refl

-- a body ends its item at its `}`, and no `;` inside braces does
body_and_struct : c_items (c_tokens (codes "int f(void)\n{\n    return 0;\n}\nstruct s { int a; };\n"))
    ≡ (word "int" ∷ word "f" ∷ sign "(" ∷ word "void" ∷ sign ")" ∷ sign "{" ∷ word "return" ∷ word "0" ∷ sign ";" ∷ sign "}" ∷ [])
    ∷ (word "struct" ∷ word "s" ∷ sign "{" ∷ word "int" ∷ word "a" ∷ sign ";" ∷ sign "}" ∷ sign ";" ∷ []) ∷ []
unfolding c_tokens c_items
body_and_struct = refl

-- a body without its last `}`
abbrev cut_body : List CToken
cut_body = word "int" ∷ word "cyc_f_0_0" ∷ sign "(" ∷ word "void" ∷ sign ")" ∷ sign "{" ∷ word "return" ∷ word "0" ∷ sign ";" ∷ []

-- a text that is cut before its last `}` leaves a last item
cut_text : c_items (c_tokens (codes "#define PY_SSIZE_T_CLEAN\nint cyc_f_0_0(void)\n{\n    return 0;\n"))
    ≡ (sign "#" ∷ word "define" ∷ word "PY_SSIZE_T_CLEAN" ∷ LineEnd ∷ []) ∷ cut_body ∷ []
unfolding c_tokens c_items
cut_text = refl

-- that no tree spells
cut_spelling : (tree : CItem) → spelling tree ≡ cut_body → ⊥
cut_spelling tree h =
    let spelled : is_item_from item_start cut_body ≡ true = subst (λ tokens. is_item_from item_start tokens ≡ true) h (spelling_item tree) in
    cc

-- white space between tokens is free, and the last line may lack its end
spaced_text : c_reading (codes "  # include\t\"cyc_set.h\"\nstatic\tint\n\n cyc_r ;static PyObject*cyc_m;") (item.IncludeSet ∷ item.Static type.Int place.Ready ∷ item.Static type.PyObject place.Module ∷ []) true
unfolding c_reading spelling IsItemInForm
spaced_text = (tt, refl, (tt, refl, (tt, refl, refl)))

-- the cut text is read up to its last item, and not to its end
cut_reading : c_reading (codes "#define PY_SSIZE_T_CLEAN\nint cyc_f_0_0(void)\n{\n    return 0;\n") (item.DefineClean ∷ []) false
unfolding c_reading spelling IsItemInForm
cut_reading = (tt, refl, (refl, λ tree form same. cut_spelling tree same))

-- a preprocessor line in the middle of an item ends it, and no tree is spelled so
broken_item : c_items (c_tokens (codes "static int\n#define PY_SSIZE_T_CLEAN\ncyc_r;\n"))
    ≡ (word "static" ∷ word "int" ∷ sign "#" ∷ word "define" ∷ word "PY_SSIZE_T_CLEAN" ∷ LineEnd ∷ []) ∷ (word "cyc_r" ∷ sign ";" ∷ []) ∷ []
unfolding c_tokens c_items
broken_item = refl

-- a string that its line cuts, a carriage return and a joined line are no tokens
no_tokens : c_tokens (codes "\"a\nb\r<:\\\n") ≡ Other 34 ∷ word "b" ∷ Other 13 ∷ sign "<:" ∷ Other 92 ∷ []
unfolding c_tokens
no_tokens = refl

-- a label at the end of a body, a string that is returned and a name with a digit at its start aren't in form
last_label : LabelsStand (line.Label 0 ∷ line.Label 1 ∷ []) → ⊥
last_label h = h

returned_string : IsStatementInForm (stmt.Return (value.Str (codes "a"))) → ⊥
returned_string h = h

digit_first : IsNameInForm (codes "1a") → ⊥
digit_first h = false≢true (sym h.0)

empty_name : IsNameInForm [] → ⊥
empty_name h = h

digit_second : IsNameInForm (codes "a1")
digit_second = (refl, (refl, (refl, tt)))
