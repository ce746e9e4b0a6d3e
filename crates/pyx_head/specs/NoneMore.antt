-- Where no more items may stand: whether a separator does.
use Rattle.std.specs.Prelude.{◌≡◌, ◌≢◌, Bool, [], List, Result, Ok, Err}
use Rattle.pyx_lex.specs.declared.token.Token.{Token}
use Rattle.forms.specs.Readers.{Outcome, did, bad}
use Rattle.forms.specs.Lists.{Row}
use Rattle.token_input.specs.declared.halt.Halt.{Halt}
use Rattle.token_input.specs.declared.halt.Halt.TheVariants.{Memory}
use Rattle.token_input.specs.Reads.{fault_of}

abbrev pub NoneMore : {A : Type 0} → Outcome Token (Row A) → Result Bool Halt → List Token → Type 0
NoneMore outcome (Ok mark) new = outcome ≡ did ([], mark) new
NoneMore outcome (Err e) new = (e ≢ Memory) × (outcome ≡ bad (fault_of e) new)
