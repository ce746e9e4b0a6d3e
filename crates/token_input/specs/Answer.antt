-- What a reader of tokens answers, said of the form alone.
use Rattle.std.specs.Prelude.{◌≡◌, ℕ, List, ◌∷◌}
use Rattle.cy_base.specs.declared.place.Refusal.{Refusal}
use Rattle.pyx_lex.specs.declared.token.Token.{Token}
use Rattle.forms.specs.Forms.{Form}
use Rattle.forms.specs.Readers.{Fault, unexpected, limit}
use Rattle.forms.specs.Exact.{Wrong, Passed}
use Rattle.token_input.specs.Reads.{refusal_at}

-- The first token of the rest is the first of the tokens that breaks a rule. Rule 1 is broken by the token behind a run
-- that isn't of the form; the other rules are limits.
abbrev pub Breaks : {A : Type 0} → Form Token A → Fault → List Token → List Token → Type 0
Breaks {A} L unexpected ts rest = Wrong Token A L ts rest
Breaks {A} L (limit n) ts rest = Passed Token A L n ts rest

-- This is the first breach in the tokens, with the first byte of its token.
pub record IsFirstBreach (A : Type 0) (L : Form Token A) (file : ℕ) (ts : List Token) (refused : Refusal) : Type 0 where
  pub fault : Fault
  pub token : Token
  pub after : List Token
  pub breaks : Breaks L fault ts (token ∷ after)
  pub is : refused ≡ refusal_at file fault token
