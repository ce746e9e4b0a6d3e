-- What a function that reads ensures: what the reader of the grammar gives, unless memory fails.
use Rattle.std.specs.Prelude.{◌≡◌, ◌≢◌, ℕ, List, [], ◌∷◌, Result, Ok, Err}
use Rattle.cy_base.specs.declared.error.Stop.{Stop}
use Rattle.cy_base.specs.declared.error.Stop.TheVariants as stop
use Rattle.cy_base.specs.declared.place.Phase.TheVariants.{Parse}
use Rattle.cy_base.specs.declared.place.Refusal.{Refusal}
use Rattle.pyx_lex.specs.declared.token.Token.{Token}
use Rattle.forms.specs.Readers.{Fault, unexpected, limit, Outcome, did, bad}
use Rattle.expr_grammar.specs.Nodes.{class}
use Rattle.token_input.specs.declared.halt.Halt.{Halt}
use Rattle.token_input.specs.declared.halt.Halt.TheVariants.{Unexpected, Limit, Memory}
use Rattle.token_input.specs.declared.input.Taken.{Taken}

-- the fault of a halt; want of memory is none
abbrev pub fault_of : Halt → Fault
fault_of Unexpected = unexpected
fault_of (Limit n) = limit n
fault_of Memory = unexpected

-- The outcome is the value and what is left, or the fault and what begins with the token at fault.
abbrev pub Reads : {A : Type 0} → Outcome Token A → Result A Halt → List Token → Type 0
Reads outcome (Ok a) new = outcome ≡ did a new
Reads outcome (Err e) new = e ≢ Memory → outcome ≡ bad (fault_of e) new

-- reading takes no memory, and gives the token itself
abbrev pub Takes : Outcome Token Token → Result Taken Halt → List Token → Type 0
Takes outcome (Ok r) new = (outcome ≡ did r.token.now new) × (r.class ≡ class r.token.now)
Takes outcome (Err e) new = (e ≡ Unexpected) × (outcome ≡ bad unexpected new)

-- reading takes no memory, and fails
abbrev pub Fails : {A : Type 0} → Outcome Token A → Halt → List Token → Type 0
Fails outcome e new = (e ≢ Memory) × (outcome ≡ bad (fault_of e) new)

-- the first byte of the next token, of which there is one
abbrev pub StartsAt : List Token → ℕ → Type 0
StartsAt [] at = ⊥
StartsAt (x ∷ ts) at = at ≡ x.span.start

-- ---- what a file is refused for

-- the number of the rule that a fault breaks: the first where no sentence goes on with the token
abbrev pub rule_of : Fault → ℕ
rule_of unexpected = 1
rule_of (limit n) = n

-- a broken rule of the parser, at a token
abbrev pub refusal_at : ℕ → Fault → Token → Refusal
refusal_at file fault x = record { rule = record { phase = Parse; number = rule_of fault }; file = file; offset = x.span.start }

-- the refusal of the token at fault, or want of memory
abbrev pub IsStop : ℕ → List Token → Halt → Stop → Type 0
IsStop file ts Memory result = result ≡ stop.Memory
IsStop file [] Unexpected result = ⊥
IsStop file [] (Limit n) result = ⊥
IsStop file (x ∷ ts) Unexpected result = result ≡ stop.Refused (refusal_at file unexpected x)
IsStop file (x ∷ ts) (Limit n) result = result ≡ stop.Refused (refusal_at file (limit n) x)
