-- How the code's lines follow the definition: it keeps the open widths in place of the widths of the lines.
use Prim.Native.Nat.{ℕ}
use Rattle.std.specs.Prelude.{◌≡◌, ◌<◌, ◌+◌, ◌^◌, List, [], ◌∷◌, ◌++◌, not, Option, Some, None, Result, Ok, Err}
use Rattle.std.specs.Option.{ForSome}
use Rattle.pyx_lex.specs.declared.lines.Breach.{Breach}
use Rattle.pyx_lex.specs.declared.lines.Lines.{Lines}
use Rattle.pyx_lex.specs.declared.piece.Shape.{Shape}
use Rattle.pyx_lex.specs.declared.piece.Shape.TheVariants.{Blanks}
use Rattle.pyx_lex.specs.declared.token.Token.{Token}
use Rattle.pyx_lex.specs.Layout.{Item, Comes, Found, Place, Given, is_before_tokens}
use Rattle.pyx_lex.specs.Levels.{open_widths}

-- the lines stand at a place
pub record IsAt (lines : Lines) (place : Place) : Type 0 where
  pub levels : lines.levels.items ≡ open_widths place.widths
  pub line : lines.line ≡ place.line
  pub depth : lines.depth ≡ place.depth
  pub begun : lines.begun ≡ not (is_before_tokens place.widths)

-- items in their order: the tokens, or the first breach
abbrev pub with_front : List Token → Result (List Token) Breach → Result (List Token) Breach
with_front front (Ok more) = Ok (front ++ more)
with_front front (Err breach) = Err breach

abbrev pub read : List Item → Result (List Token) Breach
read [] = Ok []
read (Comes token ∷ more) = with_front (token ∷ []) (read more)
read (Found breach ∷ more) = Err breach

-- Tokens were put behind others as items give them, up to a breach, if any.
abbrev pub Puts : Option Breach → List Token → List Token → List Item → Type 0
Puts None old new items = with_front old (read items) ≡ Ok new
Puts (Some breach) old new items = read items ≡ Err breach

-- The same, and then the lines stand at the next place.
abbrev pub Takes : Option Breach → List Token → List Token → Lines → Given → Type 0
Takes None old new lines given = Puts None old new given.items × IsAt lines given.next
Takes (Some breach) old new lines given = Puts (Some breach) old new given.items

-- the place of a tab is below 2 ^ 32
abbrev pub TabFits : Shape → ℕ → Type 0
TabFits (Blanks indentation) start = ForSome indentation.tab (λ tab. start + tab < 2 ^ 32)
TabFits _ start = Unit {0}
