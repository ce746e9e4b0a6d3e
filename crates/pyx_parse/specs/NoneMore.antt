-- Where no more items may stand: whether a separator does.
use Rattle.std.specs.Prelude.{◌≡◌, ◌≢◌, ℕ, Bool, [], ◌∷◌, List, Result, Ok, Err}
use Rattle.pyx_lex.specs.declared.token.Token.{Token}
use Rattle.forms.specs.Readers.{Outcome, did, bad}
use Rattle.forms.specs.Lists.{Row}
use Rattle.token_input.specs.declared.halt.Halt.{Halt}
use Rattle.token_input.specs.declared.halt.Halt.TheVariants.{Memory}
use Rattle.expr_grammar.specs.Grammar.{argument_rule}
use Rattle.token_input.specs.Reads.{fault_of}

-- The outcome is no item and whether a separator stands, or the fault; it takes no memory.
abbrev pub NoneMore : {A : Type 0} → Outcome Token (Row A) → Result Bool Halt → List Token → Type 0
NoneMore outcome (Ok mark) new = outcome ≡ did ([], mark) new
NoneMore outcome (Err e) new = (e ≢ Memory) × (outcome ≡ bad (fault_of e) new)

-- the rule that the next token breaks where it begins an argument too many
abbrev pub IsExcess : Bool → List Token → ℕ → Type 0
IsExcess inside [] n = Unit {0}
IsExcess inside (x ∷ ts) n = n ≡ argument_rule inside x
