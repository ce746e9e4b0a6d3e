use Rattle.std.proofs.Common.{◌≡◌, List, refl, subst}
use Rattle.std.specs.Result.{IfOk}
use Rattle.cy_mention.specs.FunctionsShown.{function_shown}
use Rattle.cy_mention.specs.Modules.{idents, mentions_of}
use Rattle.cy_mention.specs.Shown.{all_shown}
use Rattle.name_table.specs.Entries.{Entry}
use Rattle.cy_scope.proofs.Locals.{locals-are}
use Rattle.cy_scope.proofs.local.function_names.Goals as goal

pub returns : goal.returns
returns c =
    let f = function_shown c.args.function in
    let said : all_shown c.note_body.new.out.items ≡ mentions_of f = simp (c.in_ok-note_body.ensures, c.new-mentions.ensures.items) refl in
    subst (λ (made : List Entry). IfOk c.locals_among.result (λ (table : List Entry). table ≡ made))
    (locals-are f (all_shown c.note_body.new.out.items) c.in_ok-globals.globals (idents c.as_slice-3.result.now) said
    (simp (c.in_ok-globals.ensures, c.as_slice.ensures.value) refl)
    (simp (c.as_slice-3.ensures.value, c.in_ok-note_names.ensures, c.new-names.ensures.items, c.as_slice-2.ensures.value) refl))
    c.locals_among.ensures
