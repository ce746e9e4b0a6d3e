-- What the code's types stand for among the definitions of C tokens.
use Rattle.std.specs.Prelude.{ℕ, List, slice_range}
use Rattle.c_token.specs.CTokens as spec
use Rattle.c_lex.specs.declared.byte.ByteKind.{ByteKind}
use Rattle.c_lex.specs.declared.byte.ByteKind.TheVariants as kind
use Rattle.c_lex.specs.declared.mode.Line.{Line}
use Rattle.c_lex.specs.declared.mode.Line.TheVariants as line
use Rattle.c_lex.specs.declared.mode.Mode.{Mode}
use Rattle.c_lex.specs.declared.mode.Mode.TheVariants as mode

abbrev pub kind_shown : ByteKind → spec.ByteKind
kind_shown kind.LineFeed = spec.LineFeed
kind_shown kind.Blank = spec.Blank
kind_shown kind.WordByte = spec.WordByte
kind_shown kind.Quote = spec.Quote
kind_shown kind.Alone = spec.Alone
kind_shown kind.Joining = spec.Joining
kind_shown kind.Neither = spec.Neither

abbrev pub line_shown : Line → spec.CLine
line_shown line.Fresh = spec.Fresh
line_shown line.Text = spec.Text
line_shown line.Hash = spec.Hash
line_shown line.Include = spec.Include
line_shown line.Directive = spec.Directive

-- where the reading stands at a place of the text
abbrev pub mode_shown : List ℕ → ℕ → Mode → spec.Mode
mode_shown text at (mode.Between l) = spec.Between (line_shown l)
mode_shown text at (mode.InWord l start) = spec.InWord (line_shown l) (slice_range text start at)
mode_shown text at (mode.InSign l start) = spec.InSign (line_shown l) (slice_range text start at)
mode_shown text at (mode.InQuotes l quote start) = spec.InQuotes (line_shown l) quote (slice_range text start at)
mode_shown text at (mode.AfterBackslash l quote start) = spec.AfterBackslash (line_shown l) quote (slice_range text start at)
mode_shown text at (mode.InHeader start) = spec.InHeader (slice_range text start at)

-- where the token begins that the reading stands in
abbrev pub start_of : Mode → ℕ
start_of (mode.Between l) = 0
start_of (mode.InWord l start) = start
start_of (mode.InSign l start) = start
start_of (mode.InQuotes l quote start) = start
start_of (mode.AfterBackslash l quote start) = start
start_of (mode.InHeader start) = start
