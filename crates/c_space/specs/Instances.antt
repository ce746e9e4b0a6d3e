-- Instances, changed. The project's own.
use Rattle.std.specs.Prelude.{ℕ, List, Option, Some, None, false, slice_get, slice_set}
use Rattle.c_tree.specs.declared.name.Numbered.{Numbered}
use Rattle.c_value.specs.declared.value.Value.{Value}
use Rattle.c_value.specs.declared.space.Instance.{Instance}
use Rattle.c_value.specs.Parts.{put_part}

-- a field of the struct of a class gets a value
abbrev pub stored_in : Numbered → ℕ → Value → Instance → Instance
stored_in class j v i = record i { parts = put_part i.parts class j v }

abbrev pub with_table : Numbered → Instance → Instance
with_table class i = record i { table = Some class }

abbrev pub freed : Instance → Instance
freed i = record i { alive = false }

abbrev pub changed_at : (Instance → Instance) → ℕ → List Instance → Option Instance → List Instance
changed_at change k instances None = instances
changed_at change k instances (Some i) = slice_set instances k (change i)

-- the instance of a number is changed, if it was made
abbrev pub change_at : (Instance → Instance) → ℕ → List Instance → List Instance
change_at change k instances = changed_at change k instances (slice_get instances k)
