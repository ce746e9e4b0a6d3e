use Rattle.std.proofs.Common.{◌≡◌, ◌<◌, ◌^◌, take, true}
use Rattle.std.specs.List.{list_all}
use Rattle.std.specs.Char.{is_digit}
use Rattle.pyx_lex.specs.Strings.{hex_value}
use Rattle.pyx_lex.proofs.escape.hex_value.Given as goal

abbrev pub invariant-loop-c : goal.invariant-loop-c
invariant-loop-c l = record {
  hex : list_all (λ c. is_digit c 16) (take l.c-index l.digits) ≡ true;
  same : l.value ≡ hex_value (take l.c-index l.digits);
  small : l.value < 16 ^ l.c-index;
}
