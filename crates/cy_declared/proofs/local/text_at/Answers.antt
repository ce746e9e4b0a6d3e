use Rattle.std.proofs.Common.{Some, ap, sym, ◌∙◌}
use Rattle.std.specs.Map.Iter.{deref_pair}
use Rattle.std.specs.Option.{option_map}
use Rattle.name_table.specs.Entries.{Entry}
use Rattle.cy_declared.proofs.Texts.{text-at}
use Rattle.cy_declared.proofs.local.text_at.Goals as goal

pub returns-in-Some : goal.returns-in-Some
returns-in-Some c =
    ap Some c.as_slice.ensures.value
    ∙ ap (λ o. option_map (λ (e : Entry). e.0) (option_map (λ e. (e.0.items, e.1)) o)) (ap (option_map deref_pair) (sym c.in-Some.is) ∙ c.get_index.ensures.entry)
    ∙ sym (text-at c.args.scope.now.names.entries c.args.number)

pub returns-in-None : goal.returns-in-None
returns-in-None c =
    ap (λ o. option_map (λ (e : Entry). e.0) (option_map (λ e. (e.0.items, e.1)) o)) (ap (option_map deref_pair) (sym c.in-None.is) ∙ c.get_index.ensures.entry)
    ∙ sym (text-at c.args.scope.now.names.entries c.args.number)
