use Rattle.std.proofs.Common.{◌∙◌, sym, ap, rules, Ok, ◌++◌, replicate}
use Rattle.pyx_lex.specs.declared.token.TokenKind.TheVariants.{Dedent}
use Rattle.pyx_lex.proofs.OpenWidths.{puts_wider, puts_off, puts_dedents}
use Rattle.pyx_lex.proofs.lines.put_level.Goals as goal

pub returns-then-last_level-width : goal.returns-then-last_level-width
returns-then-last_level-width c = λ widths here.
    puts_wider c.args.width c.args.at widths c.args.levels.now here c.args.out.now.items (search rules) ∙ ap Ok (sym c.in_ok-put.ensures)

pub returns-then-not-has_level : goal.returns-then-not-has_level
returns-then-not-has_level c = λ widths here.
    puts_off c.args.width c.args.at widths c.args.levels.now here (search rules) (search rules)

pub returns : goal.returns
returns c = λ widths here.
    puts_dedents c.args.width c.args.at widths c.args.levels.now here c.args.out.now.items (search rules) (search rules)
    ∙ (ap (λ n. Ok (c.args.out.now.items ++ replicate n (record { kind = Dedent; span = record { start = c.args.at; end = c.args.at } }))) (sym c.levels_above.ensures)
    ∙ ap Ok (sym c.in_ok-put_dedents.ensures))
