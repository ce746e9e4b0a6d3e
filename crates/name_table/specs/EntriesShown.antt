-- The entries that references show.
use Rattle.std.specs.Prelude.{ℕ, List, map}
use denote.Ref.{Bor}
use Rattle.name_table.specs.Entries.{Entry}
use Rattle.name_table.specs.declared.entry.NamedEntry.{NamedEntry}

abbrev pub entry_shown : NamedEntry → Entry
entry_shown e = (e.name.now, e.kind)

abbrev pub entries_shown : List NamedEntry → List Entry
entries_shown es = map entry_shown es

abbrev pub slices : List (Bor (List ℕ)) → List (List ℕ)
slices refs = map (λ r. r.now) refs
