-- What the answers of files and sinks say. The project's own.
use Rattle.std.specs.Prelude.{ℕ, List, Option, IfSome}
use Rattle.cy_io.specs.declared.answers.ReadAnswer.{ReadAnswer}
use Rattle.cy_io.specs.declared.answers.ReadAnswer.TheVariants as reads
use Rattle.cy_io.specs.declared.answers.WriteAnswer.{WriteAnswer}
use Rattle.cy_io.specs.declared.answers.WriteAnswer.TheVariants as writes

-- so of the bytes, where the answer has them
abbrev pub IfBytes : ReadAnswer → (List ℕ → Type 0) → Type 0
IfBytes (reads.Bytes bytes) P = P bytes.items
IfBytes reads.Absent P = Unit {0}
IfBytes reads.Failed P = Unit {0}
IfBytes reads.Memory P = Unit {0}

-- so unless the read failed, or found no file where no files are told
abbrev pub UnlessReadFault : {X : Type 0} → Option X → ReadAnswer → Type 0 → Type 0
UnlessReadFault told (reads.Bytes bytes) P = P
UnlessReadFault told reads.Absent P = IfSome told (λ _. P)
UnlessReadFault told reads.Failed P = Unit {0}
UnlessReadFault told reads.Memory P = P

-- so unless the write failed
abbrev pub UnlessFailed : WriteAnswer → Type 0 → Type 0
UnlessFailed writes.Done P = P
UnlessFailed writes.Failed P = Unit {0}
UnlessFailed writes.Memory P = P
