-- Lines one after the other are in form.
use Rattle.std.proofs.Common.{List, [], ◌∷◌, ◌++◌}
use Rattle.std.specs.List.{AllByRecursion}
use Rattle.c_tree.specs.declared.item.Line.{Line}
use Rattle.c_tree.specs.declared.item.Line.TheVariants as line
use Rattle.c_tree.specs.Forms.{IsLine, LabelsStand}
use Rattle.c_text_cases.specs.Bodies.{AreLines}

-- labels stand in what ends in a statement
labels_append : (lines more : List Line) → LabelsStand lines → LabelsStand more → LabelsStand (lines ++ more)
labels_append [] more h k = k
labels_append (line.Label j ∷ []) more h k = absurd h
labels_append (line.Label j ∷ next ∷ lines) more h k = labels_append (next ∷ lines) more h k
labels_append (line.Statement s ∷ lines) more h k = labels_append lines more h k

pub all_append : {A : Type 0} (P : A → Type 0) (xs ys : List A) → AllByRecursion P xs → AllByRecursion P ys → AllByRecursion P (xs ++ ys)
all_append P [] ys h k = k
all_append P (x ∷ xs) ys h k = (h.0, all_append P xs ys h.1 k)

-- lines of a function behind lines of a function are so too
pub lines_append : (lines more : List Line) → AreLines lines → AreLines more → AreLines (lines ++ more)
lines_append lines more h k = (all_append IsLine lines more h.0 k.0, labels_append lines more h.1 k.1)
