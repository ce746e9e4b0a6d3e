use Rattle.std.proofs.Common.{◌∙◌, ◌++◌, ◌∷◌, [], ap, ltb, refl}
use Rattle.std.specs.List.{filter}
use Rattle.pyx_lex.specs.Levels.{open_widths}
use Rattle.pyx_lex.proofs.Reading.{begin_takes}
use Rattle.pyx_lex.proofs.lines.Lines.begin_line.Goals as goal

pub returns : goal.returns
unfolding open_widths
returns c = λ place here.
    begin_takes c.in_ok-broken.broken _ _ _ c.args.indentation place c.args.at c.in-None.is
    (c.in_ok-broken.ensures place.widths (c.deref.ensures.value ∙ here.levels))
    (record {
      levels = c.in_ok-settle.ensures ∙ ap (λ levels. filter (λ v. ltb v c.args.indentation.spaces) levels ++ c.args.indentation.spaces ∷ []) here.levels;
      line = refl;
      depth = here.depth;
      begun = refl;
    })
