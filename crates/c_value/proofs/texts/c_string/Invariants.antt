use Rattle.std.proofs.Common.{◌≡◌, ◌++◌, drop}
use Rattle.c_value.specs.Values.{c_string}
use Rattle.c_value.proofs.texts.c_string.Given as goal

abbrev pub invariant-loop-byte : goal.invariant-loop-byte
invariant-loop-byte l = c_string l.text ≡ l.bytes.items ++ c_string (drop l.byte-index l.text)
