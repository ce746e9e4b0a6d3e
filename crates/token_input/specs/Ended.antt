-- Tokens with the end at their end, and their classes beside them.
use Rattle.std.specs.Prelude.{◌≡◌, Bool, true, false, cond, List, [], ◌∷◌, map, Result, Ok, Err}
use Rattle.pyx_lex.specs.declared.token.Token.{Token}
use Rattle.pyx_lex.specs.Tokens as kinds
use Rattle.token_class.specs.declared.class.TokenClass.{TokenClass}
use Rattle.token_class.specs.declared.class.TokenClass.TheVariants as c
use Rattle.token_class.specs.Sets.{Classes, of}
use Rattle.forms.specs.Readers.{Reader, did, bad, unexpected, read_one}
use Rattle.forms.specs.Lists.{itself}
use Rattle.token_input.specs.declared.halt.Halt.{Halt}
use Rattle.token_input.specs.declared.halt.Halt.TheVariants.{Unexpected}
use Rattle.expr_grammar.specs.Nodes.{class}

-- the end of the tokens
abbrev pub is_end : Classes
is_end c.End = true
is_end _ = false

-- the last token is the end
abbrev pub is_ended : List Token → Bool
is_ended [] = false
is_ended (x ∷ []) = kinds.is_end x.kind
is_ended (x ∷ y ∷ ts) = is_ended (y ∷ ts)

-- the end, and nothing behind it
abbrev pub read_alone : Reader Token Token
read_alone [] = bad unexpected []
read_alone (x ∷ []) = read_one (of is_end) itself (x ∷ [])
read_alone (x ∷ y ∷ ts) = cond (of is_end x) (bad unexpected (y ∷ ts)) (bad unexpected (x ∷ y ∷ ts))

-- Whether the end is alone; where it isn't, what is left begins with the token that is wrong.
abbrev pub IsAlone : List Token → Result (Unit {0}) Halt → List Token → Type 0
IsAlone old (Ok u) new = (x : Token) × (read_alone old ≡ did x [])
IsAlone old (Err e) new = (e ≡ Unexpected) × (read_alone old ≡ bad unexpected new)

-- what is left to read: tokens that end with the end, and their classes
pub record IsLeft (tokens : List Token) (classes : List TokenClass) : Type 0 where
  pub ended : is_ended tokens ≡ true
  pub classed : classes ≡ map class tokens
