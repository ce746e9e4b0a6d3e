-- Where one reader fails as another does.
use Rattle.std.specs.Prelude.{◌≡◌, ◌≢◌, List}
use Rattle.pyx_lex.specs.declared.token.Token.{Token}
use Rattle.forms.specs.Readers.{Fault, Outcome, bad}
use Rattle.token_input.specs.declared.halt.Halt.{Halt}
use Rattle.token_input.specs.declared.halt.Halt.TheVariants.{Memory}
use Rattle.token_input.specs.Reads.{fault_of}

pub failing : {A B : Type 0} (o : Outcome Token A) (w : Outcome Token B) (e : Halt) (r : List Token) → ((z : Fault) → w ≡ bad z r → o ≡ bad z r) → (e ≢ Memory → w ≡ bad (fault_of e) r) → e ≢ Memory → o ≡ bad (fault_of e) r
failing o w e r h g k = h (fault_of e) (g k)
