-- What reading a text answers. The project's own.
use Rattle.std.specs.Prelude.{◌≡◌, ⊤, List, Bool, true, false, length, Result, Ok, Err}
use Rattle.c_read.specs.declared.stop.CStop.{CStop}
use Rattle.c_read.specs.declared.stop.CStop.TheVariants as stop
use Rattle.c_tree.specs.declared.item.CFile.{CFile}
use Rattle.c_tree.specs.declared.item.CItem.{CItem}

-- The trees that are answered are the whole reading; where so many items were read, the reading ends there; of want of
-- memory nothing is said.
abbrev pub IsAnswer : (List CItem → Bool → Type 0) → Result (List CItem) CStop → Type 0
IsAnswer reading (Ok trees) = reading trees true
IsAnswer reading (Err (stop.Refused items)) = (trees : List CItem) × (reading trees false × (length trees ≡ items))
IsAnswer reading (Err stop.Memory) = ⊤

-- These trees are answered, where they are the whole text; else their number is, or there is no memory.
abbrev pub Answers : List CItem → Bool → Result (List CItem) CStop → Type 0
Answers trees true (Ok found) = found ≡ trees
Answers trees true (Err (stop.Refused items)) = ⊥
Answers trees false (Ok found) = ⊥
Answers trees false (Err (stop.Refused items)) = length trees ≡ items
Answers trees whole (Err stop.Memory) = ⊤

-- the trees of a file
abbrev pub file_answer : Result CFile CStop → Result (List CItem) CStop
file_answer (Ok file) = Ok file.items
file_answer (Err why) = Err why
