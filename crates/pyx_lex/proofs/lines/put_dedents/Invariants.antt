use Rattle.std.proofs.Common.{◌≡◌, ◌++◌, replicate}
use Rattle.pyx_lex.specs.declared.token.TokenKind.TheVariants.{Dedent}
use Rattle.pyx_lex.proofs.lines.put_dedents.Given as goal

abbrev pub invariant-loop : goal.invariant-loop
invariant-loop l =
    l.out.items ≡ l.initial.out.items ++ replicate l.counter (record { kind = Dedent; span = record { start = l.at; end = l.at } })
