use Rattle.std.proofs.Common.{ℕ, ◌<◌, slice_index, IsTrue}
use Rattle.thin_source.specs.Thin.{is_name_byte}
use Rattle.thin_source.proofs.name_length.Given as goal

abbrev pub invariant-loop-i : goal.invariant-loop-i
invariant-loop-i l = (k : ℕ) → k < l.i → IsTrue (is_name_byte (slice_index l.text k))
