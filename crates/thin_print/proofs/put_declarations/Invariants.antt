use Rattle.std.proofs.Common.{◌≡◌, ◌++◌, take}
use Rattle.std.specs.List.{flat_map}
use Rattle.thin_print.specs.CText.{declaration_text}
use Rattle.thin_print.proofs.put_declarations.Given as goal

abbrev pub invariant-loop-declaration : goal.invariant-loop-declaration
invariant-loop-declaration l = l.out.items ≡ l.initial.out.items ++ flat_map declaration_text (take l.declaration-index l.declarations)
