-- The tokens of fixed texts, and that no type begins with `void`.
use Rattle.std.proofs.Common.{◌≡◌, List, [], ◌∷◌, ◌++◌, refl, sym, ap, ◌∙◌}
use Rattle.std.specs.Prelude.{◌≢◌}
use Rattle.c_token.specs.CTokens.{CToken, word, c_tokens, tokens_from}
use Rattle.c_tree.specs.declared.value.CType.{CType}
use Rattle.c_tree.specs.declared.value.CType.TheVariants as type
use Rattle.c_tree.specs.Names.{text}
use Rattle.c_tree.specs.Values.{type_spelling}
use Rattle.c_input.specs.Types.{type_tokens}
use Rattle.c_input.proofs.Spelled.{spelled}
use Rattle.c_operand.proofs.Tokens.{firsts_differ}

pub void_spelled : text "void" ≡ word "void" ∷ []
unfolding c_tokens tokens_from
void_spelled = refl

no_void : (t : CType) (more rest : List CToken) → word "void" ∷ more ≢ type_tokens t ++ rest
no_void type.SignedChar more rest e = firsts_differ (word "void") (word "signed") more _ refl e
no_void type.UnsignedChar more rest e = firsts_differ (word "void") (word "unsigned") more _ refl e
no_void type.Short more rest e = firsts_differ (word "void") (word "short") more _ refl e
no_void type.UnsignedShort more rest e = firsts_differ (word "void") (word "unsigned") more _ refl e
no_void type.Int more rest e = firsts_differ (word "void") (word "int") more _ refl e
no_void type.UnsignedInt more rest e = firsts_differ (word "void") (word "unsigned") more _ refl e
no_void type.Long more rest e = firsts_differ (word "void") (word "long") more _ refl e
no_void type.UnsignedLong more rest e = firsts_differ (word "void") (word "unsigned") more _ refl e
no_void type.PySsizeT more rest e = firsts_differ (word "void") (word "Py_ssize_t") more _ refl e
no_void type.Object more rest e = firsts_differ (word "void") (word "PyObject") more _ refl e
no_void type.View more rest e = firsts_differ (word "void") (word "cyc_view") more _ refl e
no_void type.ThreadState more rest e = firsts_differ (word "void") (word "PyThreadState") more _ refl e
no_void type.LockState more rest e = firsts_differ (word "void") (word "PyGILState_STATE") more _ refl e
no_void type.TypeObject more rest e = firsts_differ (word "void") (word "PyTypeObject") more _ refl e

pub type_not_void : (t : CType) (more rest : List CToken) → word "void" ∷ more ≢ type_spelling t ++ rest
type_not_void t more rest e = no_void t more rest (e ∙ ap (λ (z : List CToken). z ++ rest) (spelled t))

tokens_filled : (t : CType) → type_tokens t ≢ []
tokens_filled type.SignedChar e = cc
tokens_filled type.UnsignedChar e = cc
tokens_filled type.Short e = cc
tokens_filled type.UnsignedShort e = cc
tokens_filled type.Int e = cc
tokens_filled type.UnsignedInt e = cc
tokens_filled type.Long e = cc
tokens_filled type.UnsignedLong e = cc
tokens_filled type.PySsizeT e = cc
tokens_filled type.Object e = cc
tokens_filled type.View e = cc
tokens_filled type.ThreadState e = cc
tokens_filled type.LockState e = cc
tokens_filled type.TypeObject e = cc

pub type_filled : (t : CType) → type_spelling t ≢ []
type_filled t e = tokens_filled t (sym (spelled t) ∙ e)
