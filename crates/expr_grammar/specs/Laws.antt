-- The laws of the grammar of expressions, and its public answer.
use Rattle.std.specs.Prelude.{◌≡◌, ℕ, List}
use Rattle.pyx_lex.specs.declared.token.Token.{Token}
use Rattle.cy_tree.specs.declared.expr.Expr.{Expr}
use Rattle.forms.specs.Readers.{Outcome}
use Rattle.forms.specs.Exact.{Answers, SpellsOne}
use Rattle.expr_grammar.specs.declared.Level.{Level}
use Rattle.expr_grammar.specs.Grammar.{Spells}
use Rattle.expr_grammar.specs.Reading.{reads}

-- The reader answers the one tree of the longest run, or the first token that no sentence goes on with, or that breaks a limit.
abbrev pub ExpressionsAreRead : Type 0
ExpressionsAreRead = (room : ℕ) (l : Level) (ts : List Token) → Answers (Spells room l) ts (reads room l ts)

-- No tokens spell two trees within the limits.
abbrev pub ExpressionsSpellOne : Type 0
ExpressionsSpellOne = (room : ℕ) (l : Level) → SpellsOne (Spells room l)

-- What is said of the answer leaves no second one.
abbrev pub ExpressionsHaveOneAnswer : Type 0
ExpressionsHaveOneAnswer = (room : ℕ) (l : Level) (ts : List Token) (o w : Outcome Token Expr) → Answers (Spells room l) ts o → Answers (Spells room l) ts w → o ≡ w
