-- The entries that a map shows.
use Rattle.std.specs.Prelude.{ℕ, List, map}
use Rattle.std.specs.declared.vec.Vec.{Vec}
use Rattle.cy_tree.specs.declared.set.NameKind.{NameKind}
use Rattle.name_table.specs.Entries.{Entry}

abbrev pub shown : {Z : Type 0} → List (Vec ℕ Z × NameKind) → List Entry
shown es = map (λ e. (e.0.items, e.1)) es
