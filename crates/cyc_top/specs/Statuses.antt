-- The numbers of the statuses. The project's own.
use Rattle.std.specs.Prelude.{ℕ}
use Rattle.cyc_top.specs.declared.status.Status.{Status}
use Rattle.cyc_top.specs.declared.status.Status.TheVariants as status

abbrev pub number_of_status : Status → ℕ
number_of_status status.Done = 0
number_of_status status.Usage = 2
number_of_status (status.Missing k) = 3
number_of_status (status.ReadFault k) = 4
number_of_status status.WriteFault = 5
number_of_status status.Memory = 10
number_of_status status.NotBuilt = 11

-- so where the command was carried out, or refused for what its file holds
abbrev pub OnVerdict : Status → Type 0 → Type 0
OnVerdict status.Done P = P
OnVerdict status.NotBuilt P = P
OnVerdict _ P = Unit {0}

-- so unless outputs were written, or a write failed
abbrev pub UnlessWriting : Status → Type 0 → Type 0
UnlessWriting status.Done P = Unit {0}
UnlessWriting status.WriteFault P = Unit {0}
UnlessWriting status.Memory P = Unit {0}
UnlessWriting _ P = P
