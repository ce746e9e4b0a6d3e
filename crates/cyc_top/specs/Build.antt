-- What a build leaves among the files. The project's own.
use Rattle.std.specs.Prelude.{◌≡◌, ◌≢◌, ◌⊎◌, ℕ, List, [], ◌∷◌, ◌++◌, length, codes, Option, Some, IfSome, IsSomeAnd, true}
use Rattle.thin_state.specs.CReading.{c_reading}
use Rattle.thin_state.specs.declared.CFile.{CFile}
use Rattle.cy_io.specs.Told.{FileMap, BothTold, SameElsewhere, IsWritten}
use Rattle.cy_mean.specs.declared.ThinFunction.{ThinFunction}
use Rattle.cy_mean.specs.Source.{thin_set}
use Rattle.cy_mean.specs.Sound.{IsSound}
use Rattle.thin_print.specs.CText.{file_text}
use Rattle.thin_source.specs.Thin.{IsThin, thin_text}
use Rattle.thin_code.specs.ThinC.{header_items, module_items}

-- the names of the two outputs of a module
abbrev pub header_name : List ℕ
header_name = codes "cyc_set.h"

abbrev pub c_name : List ℕ → List ℕ
c_name module_name = module_name ++ codes ".c"

-- the texts of the two outputs
unfoldable pub header_text : ThinFunction → List ℕ
header_text thin = file_text (record { items = header_items (length thin.parameters) })

unfoldable pub module_text : List ℕ → ThinFunction → List ℕ
module_text module_name thin = file_text (record { items = module_items module_name thin })

-- both outputs stand, and every other name has what it had
pub record AreWritten (header name text : List ℕ) (before after : FileMap) : Type 0 where
  pub header_is : after header_name ≡ Some header
  pub module_is : after name ≡ Some text
  pub others : (other : List ℕ) → other ≢ header_name → other ≢ name → after other ≡ before other

-- the header stands, the module's file may hold anything, and every other name has what it had
pub record IsHalfWritten (header name : List ℕ) (before after : FileMap) : Type 0 where
  pub header_is : after header_name ≡ Some header
  pub others : (other : List ℕ) → other ≢ header_name → other ≢ name → after other ≡ before other

-- the first of the outputs stand, the one that failed may hold anything, and every other name has what it had
abbrev pub ArePartlyWritten : List ℕ → List ℕ → FileMap → FileMap → Type 0
ArePartlyWritten header name before after =
    SameElsewhere header_name before after ⊎ IsHalfWritten header name before after

-- nothing is written, or the header alone
abbrev pub IsAsBeforeOrHeader : List ℕ → Option FileMap → Option FileMap → Type 0
IsAsBeforeOrHeader header before after =
    (after ≡ before) ⊎ BothTold before after (IsWritten header_name header)

-- where files are told, this one has this text
abbrev pub Spells : Option FileMap → List ℕ → List ℕ → Type 0
Spells told word text = IfSome told (λ files. files word ≡ Some text)

-- files are told, and this one has this text
abbrev pub Tells : Option FileMap → List ℕ → List ℕ → Type 0
Tells told word text = IsSomeAnd told (λ files. files word ≡ Some text)

-- where files are told, this one is there and isn't thin
abbrev pub IsUnthin : Option FileMap → List ℕ → Type 0
IsUnthin told word =
    IfSome told (λ files. IsSomeAnd (files word) (λ text. (thin : ThinFunction) → IsThin thin → text ≢ thin_text thin))

-- the thin function that a file spells stands in both outputs
abbrev pub IsBuilt : List ℕ → List ℕ → Option FileMap → Option FileMap → Type 0
IsBuilt word module_name before after =
    (thin : ThinFunction) × IsThin thin × Spells before word (thin_text thin)
    × BothTold before after (AreWritten (header_text thin) (c_name module_name) (module_text module_name thin))

-- under this name stands a text that reads, whole, as this tree
abbrev pub Holds : FileMap → List ℕ → CFile → Type 0
Holds files name tree = IsSomeAnd (files name) (λ text. c_reading text tree.items true)

-- What is written means what its source means: where files are told, the file spells a function, and the texts under
-- the names of both outputs read, whole, as C trees that are sound for it.
pub record IsSoundlyBuilt (word module_name : List ℕ) (before after : Option FileMap) : Type 0 where
  pub thin : ThinFunction
  pub is_thin : IsThin thin
  pub spelled : Spells before word (thin_text thin)
  pub header : CFile
  pub c_file : CFile
  pub held : BothTold before after (λ _ files. Holds files header_name header × Holds files (c_name module_name) c_file)
  pub sound : IsSound (thin_set module_name thin) (header ∷ c_file ∷ [])

-- the first of these outputs stand, and the one that failed may hold anything
abbrev pub IsPartlyBuilt : List ℕ → List ℕ → Option FileMap → Option FileMap → Type 0
IsPartlyBuilt word module_name before after =
    (thin : ThinFunction) × IsThin thin × Spells before word (thin_text thin)
    × BothTold before after (ArePartlyWritten (header_text thin) (c_name module_name))

-- nothing is written, or the header of the thin function that the file spells
abbrev pub IsAtMostHeader : List ℕ → Option FileMap → Option FileMap → Type 0
IsAtMostHeader word before after =
    (after ≡ before)
    ⊎ ((thin : ThinFunction) × IsThin thin × Spells before word (thin_text thin)
    × BothTold before after (IsWritten header_name (header_text thin)))
