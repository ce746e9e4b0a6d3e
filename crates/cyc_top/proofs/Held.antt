-- What a build leaves reads back.
use Rattle.std.proofs.Common.{◌≡◌, ℕ, List, length, Option, Some, None, true, sym, subst}
use Rattle.std.specs.Prelude.{IsSomeAnd}
use Rattle.thin_state.specs.CReading.{c_reading}
use Rattle.thin_state.specs.declared.CFile.{CFile}
use Rattle.cy_io.specs.Told.{FileMap, BothTold}
use Rattle.cy_mean.specs.declared.ThinFunction.{ThinFunction}
use Rattle.thin_source.specs.Thin.{IsThin}
use Rattle.thin_code.specs.ThinC.{header_items, module_items}
use Rattle.thin_source.specs.Thin.{IsIdentifier}
use Rattle.cyc_top.specs.Build.{header_name, c_name, header_text, module_text, AreWritten, Holds, IsBuilt, IsSoundlyBuilt}
use Rattle.thin_sound.proofs.InForm.{thin_in_form}
use Rattle.thin_sound.proofs.ThinSound.Theorem.{sound}
use Rattle.thin_print.proofs.ReadsBack.{file_reads}

held : (files : FileMap) (name text : List ℕ) (tree : CFile) → files name ≡ Some text → c_reading text tree.items true → Holds files name tree
held files name text tree e reading =
    subst (λ (o : Option (List ℕ)). IsSomeAnd o (λ text. c_reading text tree.items true)) (sym e) reading

both_held : (before after : Option FileMap) (first name second : List ℕ) (header c_file : CFile) → c_reading first header.items true → c_reading second c_file.items true
    → BothTold before after (AreWritten first name second) → BothTold before after (λ _ files. Holds files header_name header × Holds files name c_file)
both_held None None first name second header c_file h k written = tt
both_held None (Some b) first name second header c_file h k written = written
both_held (Some a) None first name second header c_file h k written = written
both_held (Some a) (Some b) first name second header c_file h k written =
    (held b header_name first header written.header_is h, held b name second c_file written.module_is k)

header_reads : (module_name : List ℕ) (thin : ThinFunction) → IsIdentifier module_name → IsThin thin → c_reading (header_text thin) (header_items (length thin.parameters)) true
unfolding header_text
header_reads module_name thin identifier is_thin =
    file_reads (record { items = header_items (length thin.parameters) }) (thin_in_form module_name thin identifier is_thin).0

module_reads : (module_name : List ℕ) (thin : ThinFunction) → IsIdentifier module_name → IsThin thin → c_reading (module_text module_name thin) (module_items module_name thin) true
unfolding module_text
module_reads module_name thin identifier is_thin =
    file_reads (record { items = module_items module_name thin }) (thin_in_form module_name thin identifier is_thin).1.0

-- what is built reads back
pub IsSoundlyBuilt-built : (word module_name : List ℕ) (before after : Option FileMap) → IsIdentifier module_name → IsBuilt word module_name before after → IsSoundlyBuilt word module_name before after
IsSoundlyBuilt-built word module_name before after identifier built =
    let thin = built.0 in
    let header : CFile = record { items = header_items (length thin.parameters) } in
    let c_file : CFile = record { items = module_items module_name thin } in
    let header_is = header_reads module_name thin identifier built.1 in
    let module_is = module_reads module_name thin identifier built.1 in
    record {
      thin = thin;
      is_thin = built.1;
      spelled = built.2;
      header = header;
      c_file = c_file;
      held = both_held before after (header_text thin) (c_name module_name) (module_text module_name thin) header c_file header_is module_is built.3;
      sound = sound module_name thin built.1;
    }
