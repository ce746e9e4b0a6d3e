-- The lines of a function. The project's own.
use Rattle.std.specs.Prelude.{List}
use Rattle.std.specs.List.{AllByRecursion}
use Rattle.c_tree.specs.declared.item.Line.{Line}
use Rattle.c_tree.specs.Forms.{IsLine, LabelsStand}

-- lines of the profile, with a statement behind each run of labels (ISO/IEC 9899:2011 6.8.1)
abbrev pub AreLines : List Line → Type 0
AreLines lines = AllByRecursion IsLine lines × LabelsStand lines
