use Rattle.std.proofs.Common.{◌≡◌, ◌-◌, ◌≤◌, ◌++◌, length, drop}
use Rattle.std.specs.Prelude.{encode_utf8_all, string_bytes}
use Rattle.std.specs.Option.{option_map}
use Rattle.pyx_lex.specs.Strings.{unescaped}
use Rattle.pyx_lex.proofs.escape.unescaped.Given as goal

abbrev pub invariant-loop-at : goal.invariant-loop-at
invariant-loop-at l = record {
  within : l.at ≤ length l.cs;
  same : option_map (λ cs. string_bytes l.out ++ encode_utf8_all cs) (unescaped 0 (drop l.at l.cs)) ≡ option_map encode_utf8_all (unescaped 0 l.cs);
}

abbrev pub decreases-loop-at : goal.decreases-loop-at
decreases-loop-at l = length l.cs - l.at
