-- What reads the nested expressions, and a function value that does.
use Rattle.std.specs.Prelude.{◌≡◌, ℕ, Bool, true, false, Result, List}
use Rattle.std.specs.declared.alloc.Global.{Global}
use denote.Ref.{MutBor}
use Rattle.pyx_lex.specs.declared.token.Token.{Token}
use Rattle.cy_tree.specs.declared.expr.Expr.{Expr}
use Rattle.expr_grammar.specs.declared.Level.{Level}
use Rattle.expr_grammar.specs.Reading.{reads}
use Rattle.forms.specs.Readers.{Reader, bad, unexpected}
use Rattle.token_input.specs.declared.halt.Halt.{Halt}
use Rattle.token_input.specs.Reads.{Reads}

-- where something may still be opened, and then so many things
abbrev pub below : Bool → ℕ → Level → Reader Token Expr
below true n = reads n
below false n = λ l ts. bad unexpected ts

-- What reads the nested expressions, as a function value: where something may be opened it may be called, and it reads as
-- the reader of the grammar does.
pub record Nests (here : Bool) (room : ℕ) (pre : Global → MutBor (List Token) → ℕ → Level → Type 0)
    (post : Global → MutBor (List Token) → ℕ → Level → Result Expr Halt → MutBor (List Token) → Type 0) : Type 0 where
  pub callable : here ≡ true → (alloc : Global) (old : MutBor (List Token)) (l : Level) → pre alloc old room l
  pub reads_so : here ≡ true → (alloc : Global) (old new : MutBor (List Token)) (l : Level) (r : Result Expr Halt) → post alloc old room l r new
      → Reads (reads room l old.now) r new.now
