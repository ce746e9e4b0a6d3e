use Rattle.std.proofs.Common.{◌≡◌, ◌++◌, drop}
use Rattle.std.specs.List.{flat_map}
use Rattle.c_token.specs.Spelled.{quoted_byte}
use Rattle.c_writer.proofs.writer.put_quoted.Given as goal

abbrev pub invariant-loop-byte : goal.invariant-loop-byte
invariant-loop-byte l = l.initial.text.items ++ flat_map quoted_byte l.bytes ≡ l.text.items ++ flat_map quoted_byte (drop l.byte-index l.bytes)
