-- What it is for the first entries of names to stand for all entries. The project's own.
use Rattle.std.specs.Prelude.{◌≡◌, ℕ, List, []}
use Rattle.name_table.specs.Entries.{Entry, firsts, kind_among}

-- the first entries say of each name what all entries say
abbrev pub SaySame : List Entry → Type 0
SaySame es = (name : List ℕ) → kind_among (firsts [] es) name ≡ kind_among es name
