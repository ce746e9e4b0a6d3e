use Rattle.std.proofs.Common.{ap, ◌∙◌}
use Rattle.std.specs.Prelude.{Ok, Err}
use Rattle.c_token.specs.Cutting.{c_items}
use Rattle.c_cut.specs.Shown.{items_shown}
use Rattle.c_read.proofs.Texts.{file_form, items_fit, text_answer, text_every}
use Rattle.c_read.proofs.read.read_c.Goals as goal

pub trees-requires : goal.trees-requires
trees-requires c =
    let e = ap items_shown c.as_slice.ensures ∙ (c.in_ok-items.ensures ∙ ap c_items c.in_ok-tokens.ensures) in
    record { few = items_fit c.args.bytes.now c.as_slice.result.now e c.requires }

pub returns-in-Ok-clause-read : goal.returns-in-Ok-clause-read
returns-in-Ok-clause-read c =
    let e = ap items_shown c.as_slice.ensures ∙ (c.in_ok-items.ensures ∙ ap c_items c.in_ok-tokens.ensures) in
    text_answer c.args.bytes.now (items_shown c.as_slice.result.now) (Ok c.in-Ok.items) e c.in-Ok.ensures.read

pub returns-in-Ok-clause-every : goal.returns-in-Ok-clause-every
returns-in-Ok-clause-every c =
    let e = ap items_shown c.as_slice.ensures ∙ (c.in_ok-items.ensures ∙ ap c_items c.in_ok-tokens.ensures) in
    text_every c.args.bytes.now (items_shown c.as_slice.result.now) (Ok c.in-Ok.items) e c.in-Ok.ensures.every

pub returns-in-Ok-clause-form : goal.returns-in-Ok-clause-form
returns-in-Ok-clause-form c = file_form c.in-Ok.items c.in-Ok.ensures.form

pub returns-clause-read : goal.returns-clause-read
returns-clause-read c =
    let e = ap items_shown c.as_slice.ensures ∙ (c.in_ok-items.ensures ∙ ap c_items c.in_ok-tokens.ensures) in
    text_answer c.args.bytes.now (items_shown c.as_slice.result.now) (Err c.in-Err.stop) e c.in-Err.ensures.read

pub returns-clause-every : goal.returns-clause-every
returns-clause-every c =
    let e = ap items_shown c.as_slice.ensures ∙ (c.in_ok-items.ensures ∙ ap c_items c.in_ok-tokens.ensures) in
    text_every c.args.bytes.now (items_shown c.as_slice.result.now) (Err c.in-Err.stop) e c.in-Err.ensures.every
