use Rattle.std.proofs.Common.{ap, sym, ◌∙◌}
use Rattle.c_slots.specs.Slots.{are_numbered_from}
use Rattle.c_slots.proofs.Numbers.{numbered}
use Rattle.c_slots.proofs.numbering.are_slots.Goals as goal

pub returns : goal.returns
returns c = λ f.
    let h = numbered c.args.base c.args.slots.now f in
    let is = c.are_numbered_from.ensures ∙ ap (λ n. are_numbered_from n c.args.slots.now) c.first_number.ensures in
    (λ e. h.0 (sym is ∙ e), λ s. is ∙ h.1 s)
