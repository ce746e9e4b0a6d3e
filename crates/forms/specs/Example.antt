-- The worked example: items in brackets, with commas between, and perhaps one behind the last; a third item passes limit 3.
use Rattle.std.specs.Prelude.{ℕ, true, false, List, []}
use Rattle.forms.specs.declared.Sample.{Sample}
use Rattle.forms.specs.declared.Sample.TheVariants.{Item, Comma, Open, Close}
use Rattle.forms.specs.Forms.{Form, Set, one, both, nothing, or}
use Rattle.forms.specs.Readers.{Reader, read_one, read_both, read_or, read_nothing}
use Rattle.forms.specs.Lists.{Row, push, first, second, itself, trail_upto, read_trail_upto}
use Rattle.forms.specs.Exact.{Answers}

abbrev pub is_item : Set Sample
is_item Item = true
is_item _ = false

abbrev pub is_comma : Set Sample
is_comma Comma = true
is_comma _ = false

abbrev pub is_open : Set Sample
is_open Open = true
is_open _ = false

abbrev pub is_close : Set Sample
is_close Close = true
is_close _ = false

abbrev pub third : Sample → ℕ
third x = 3

-- [item {',' item} [',']]
unfoldable pub items : Form Sample (Row Sample)
items = or (both push (one is_item itself) (trail_upto 1 is_comma third (one is_item itself))) (nothing ([], false))

-- '(' items ')'
unfoldable pub pack : Form Sample (Row Sample)
pack = both second (one is_open itself) (both first items (one is_close itself))

unfoldable pub read_items : Reader Sample (Row Sample)
read_items = read_or is_item (read_both push (read_one is_item itself) (read_trail_upto 1 is_comma is_item third (read_one is_item itself))) (read_nothing ([], false))

unfoldable pub read_pack : Reader Sample (Row Sample)
read_pack = read_both second (read_one is_open itself) (read_both first read_items (read_one is_close itself))

abbrev pub PacksAreRead : Type 0
PacksAreRead = (ts : List Sample) → Answers pack ts (read_pack ts)
