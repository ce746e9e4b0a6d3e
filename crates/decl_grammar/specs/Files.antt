-- What it is for tokens to be a file, and what else they are.
use Rattle.std.specs.Prelude.{◌≡◌, ℕ, List, [], ◌∷◌, ◌++◌}
use Rattle.pyx_lex.specs.declared.token.Token.{Token}
use Rattle.cy_tree.specs.declared.content.Content.{Content}
use Rattle.forms.specs.Forms.{Mark, plain, Form}
use Rattle.forms.specs.Readers.{Outcome, did, bad, unexpected, limit, Reader, and_then}
use Rattle.forms.specs.Exact.{Starts, Keeps, Wrong, Passed}

-- The tokens are one sentence, within the limits, and spell this tree alone.
pub record Whole (L : Form Token Content) (ts : List Token) (tree : Content) : Type 0 where
  pub run : List (Mark Token)
  pub cut : ts ≡ plain run
  pub spelled : L run tree
  pub clean : Keeps L run
  pub only : (other : List (Mark Token)) (b : Content) → plain other ≡ ts → L other b → b ≡ tree

-- Some sentence begins with the tokens before this one, within the limits, and none with the tokens up to it.
pub record Breach (L : Form Token Content) (ts : List Token) (token : Token) (after : List Token) : Type 0 where
  pub run : List (Mark Token)
  pub cut : ts ≡ plain run ++ token ∷ after
  pub goes : (later : List (Mark Token)) × (tree : Content) × L (run ++ later) tree
  pub clean : Keeps L run
  pub first : Starts L (plain run ++ token ∷ []) → ⊥

-- The tree of the tokens; else the first token that no sentence goes on with, or that passes a limit.
abbrev pub IsFile : Form Token Content → List Token → Outcome Token Content → Type 0
IsFile L ts (did tree rest) = (rest ≡ []) × Whole L ts tree
IsFile L ts (bad unexpected []) = Wrong Token Content L ts []
IsFile L ts (bad unexpected (x ∷ rest)) = Breach L ts x rest
IsFile L ts (bad (limit n) rest) = Passed Token Content L n ts rest

-- a token behind the file is unexpected
abbrev pub at_its_end : Content → Reader Token Content
at_its_end tree [] = did tree []
at_its_end tree (x ∷ rest) = bad unexpected (x ∷ rest)

abbrev pub read_whole : Reader Token Content → Reader Token Content
read_whole p ts = and_then (p ts) at_its_end

-- The room in the brackets of a header of a file, in which 100 things may be opened.
abbrev pub in_brackets : ℕ
in_brackets = 99
