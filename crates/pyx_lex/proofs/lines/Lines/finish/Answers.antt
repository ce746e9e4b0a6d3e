use Rattle.std.proofs.Common.{◌≡◌, ◌∙◌, sym, ap, [], ◌∷◌, ◌++◌, Ok, ltb, length}
use Rattle.std.specs.List.{filter}
use Rattle.pyx_lex.specs.Levels.{open_above}
use Rattle.pyx_lex.specs.Layout.{last_newline}
use Rattle.pyx_lex.specs.Laid.{with_front, read}
use Rattle.pyx_lex.specs.declared.token.TokenKind.TheVariants.{End}
use Rattle.pyx_lex.proofs.Reading.{end_puts}
use Rattle.pyx_lex.proofs.lines.Lines.finish.Goals as goal

pub returns : goal.returns
returns c = λ place here.
    let count : c.levels_above.result ≡ open_above 0 place.widths =
    c.levels_above.ensures ∙ ap (λ levels. length (filter (ltb 0) levels)) (c.deref.ensures.value ∙ here.levels) in
    let newline : with_front c.args.out.now.items (read (last_newline place.line c.args.end)) ≡ Ok c.put_last_newline.new.out.items =
    ap (λ line. with_front c.args.out.now.items (read (last_newline line c.args.end))) (sym here.line) ∙ c.in_ok-put_last_newline.ensures in
    end_puts c.args.out.now.items c.put_last_newline.new.out.items _ place c.args.end c.levels_above.result newline count
    (c.in_ok-put.ensures ∙ ap (λ ts. ts ++ record { kind = End; span = record { start = c.args.end; end = c.args.end } } ∷ []) c.in_ok-put_dedents.ensures)
