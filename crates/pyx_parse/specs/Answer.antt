-- What `expression` and `target` answer, said of the grammar alone.
use Rattle.std.specs.Prelude.{◌-◌, ◌<◌, ℕ, List, length, drop}
use Rattle.pyx_lex.specs.declared.token.Token.{Token}
use Rattle.cy_tree.specs.declared.expr.Expr.{Expr}
use Rattle.expr_grammar.specs.declared.Level.TheVariants as level
use Rattle.expr_grammar.specs.Grammar.{Spells}
use Rattle.forms.specs.Forms.{Form}
use Rattle.forms.specs.Exact.{Found}

-- What spells an expression where so many things are open, of which there may be a hundred.
abbrev pub expr_form : ℕ → Form Token Expr
expr_form depth = Spells (100 - depth) level.Expr

-- What spells an atom with what stands behind it.
abbrev pub target_form : ℕ → Form Token Expr
target_form depth = Spells (100 - depth) level.Postfix

-- The run from `at` is of the form and breaks no limit; this is its one tree, and `next` the number of the token after it.
pub record IsTree (L : Form Token Expr) (tokens : List Token) (at : ℕ) (tree : Expr) (next : ℕ) : Type 0 where
  pub within : next < length tokens
  pub found : Found Token Expr L (drop at tokens) (drop next tokens) tree
