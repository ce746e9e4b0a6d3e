-- Sets of tokens by their classes.
use Rattle.pyx_lex.specs.declared.token.Token.{Token}
use Rattle.token_class.specs.declared.class.TokenClass.{TokenClass}
use Rattle.token_class.specs.Classes.{class_of}
use Rattle.forms.specs.Forms.{Set}

abbrev pub Classes : Type 0
Classes = Set TokenClass

-- the tokens whose class is of the set
abbrev pub of : Classes → Set Token
of b x = b (class_of x.kind)
