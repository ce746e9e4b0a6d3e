-- What `implementation` and `definition` answer, said of the grammar alone.
use Rattle.std.specs.Prelude.{◌≡◌, ◌≢◌, ℕ, List, [], ◌∷◌, Result, Ok, Err}
use Rattle.cy_base.specs.declared.place.Refusal.{Refusal}
use Rattle.pyx_lex.specs.declared.token.Token.{Token}
use Rattle.cy_tree.specs.declared.content.Content.{Content}
use Rattle.forms.specs.Forms.{Form}
use Rattle.forms.specs.Readers.{Fault, Outcome, did, bad}
use Rattle.decl_grammar.specs.Files.{IsFile}
use Rattle.token_input.specs.declared.halt.Halt.{Halt}
use Rattle.token_input.specs.declared.halt.Halt.TheVariants.{Memory}
use Rattle.token_input.specs.Reads.{fault_of, refusal_at}

-- This is the first breach of the file, with the first byte of its token.
pub record IsFirstBreach (L : Form Token Content) (file : ℕ) (tokens : List Token) (refused : Refusal) : Type 0 where
  pub fault : Fault
  pub token : Token
  pub after : List Token
  pub breaks : IsFile L tokens (bad fault (token ∷ after))
  pub is : refused ≡ refusal_at file fault token

-- What is read of a file: its tree and nothing left, or the fault and what begins with the token at fault.
abbrev pub ReadsWhole : Outcome Token Content → Result Content Halt → List Token → Type 0
ReadsWhole outcome (Ok tree) new = outcome ≡ did tree []
ReadsWhole outcome (Err e) new = e ≢ Memory → outcome ≡ bad (fault_of e) new
