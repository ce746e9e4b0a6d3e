-- A function value that reads the statements of indented suites.
use Rattle.std.specs.Prelude.{ℕ, Result, List}
use Rattle.std.specs.declared.alloc.Global.{Global}
use denote.Ref.{MutBor}
use Rattle.pyx_lex.specs.declared.token.Token.{Token}
use Rattle.cy_tree.specs.declared.stmt.Stmt.{Stmt}
use Rattle.decl_grammar.specs.Reading.{read_inside}
use Rattle.token_input.specs.declared.halt.Halt.{Halt}
use Rattle.token_input.specs.Reads.{Reads}

pub record Nests (room : ℕ) (pre : Global → MutBor (List Token) → ℕ → Type 0)
    (post : Global → MutBor (List Token) → ℕ → Result (List Stmt) Halt → MutBor (List Token) → Type 0) : Type 0 where
  pub callable : (alloc : Global) (old : MutBor (List Token)) → pre alloc old room
  pub reads_so : (alloc : Global) (old new : MutBor (List Token)) (r : Result (List Stmt) Halt) → post alloc old room r new → Reads (read_inside room old.now) r new.now
