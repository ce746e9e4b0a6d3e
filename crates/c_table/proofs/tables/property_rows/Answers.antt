use Rattle.std.proofs.Common.{◌++◌, List, Some, refl, sym, subst, ap, ◌∙◌}
use Rattle.std.specs.List.{flat_map}
use Rattle.c_tree.specs.Forms.{IsProperty}
use Rattle.c_tree.specs.declared.item.PropertyRow.{PropertyRow}
use Rattle.c_input.proofs.Lists.{item_every, read_end, read_missed, read_step, IsRead}
use Rattle.c_table.specs.Parts.{property_tokens}
use Rattle.c_table.specs.Tables.{properties_end}
use Rattle.c_table.proofs.Ends.{moved, no_property, EndsProperties}
use Rattle.c_table.proofs.Steps.{assoc}
use Rattle.c_table.proofs.tables.property_rows.Goals as goal

pub returns-in_default-clause-every : goal.returns-in_default-clause-every
returns-in_default-clause-every c = λ x rest form e.
    let here = moved IsProperty property_tokens EndsProperties c.args.input.now c.loop-alloc.rows c.loop-alloc.input c.properties_end.new.input c.loop-alloc.invariant c.loop-alloc-test.ensures.0 in
    absurd (read_missed IsProperty property_tokens EndsProperties c.args.input.now c.loop-alloc.rows c.properties_end.new.input c.in_ok-row.field-0 here (λ z. c.loop-alloc-test.ensures.1 z.0 (sym c.loop-alloc-test.ensures.0 ∙ z.1)) c.in_default.is
    (item_every IsProperty property_tokens EndsProperties c.properties_end.new.input c.in_ok-row.field-0 c.in_ok-row.ensures.every) x (properties_end ++ rest) form (rest, refl) (e ∙ assoc (flat_map property_tokens x) properties_end rest))

pub loop-alloc-preserved : goal.loop-alloc-preserved
loop-alloc-preserved c =
    let here = moved IsProperty property_tokens EndsProperties c.args.input.now c.loop-alloc.rows c.loop-alloc.input c.properties_end.new.input c.loop-alloc.invariant c.loop-alloc-test.ensures.0 in
    let P : List PropertyRow → Type 0 = λ z. IsRead IsProperty property_tokens EndsProperties c.args.input.now z c.property.new.input in
    subst P (sym c.in_ok-push.ensures.ok)
    (read_step IsProperty property_tokens EndsProperties c.args.input.now c.loop-alloc.rows c.properties_end.new.input c.in_ok-row.field-0 c.in-Some.row c.property.new.input here (λ z. c.loop-alloc-test.ensures.1 z.0 (sym c.loop-alloc-test.ensures.0 ∙ z.1)) c.in-Some.is c.in_ok-row.ensures.some
    (item_every IsProperty property_tokens EndsProperties c.properties_end.new.input c.in_ok-row.field-0 c.in_ok-row.ensures.every))

pub returns-clause-every : goal.returns-clause-every
returns-clause-every c = λ x rest form e.
    ap Some (read_end IsProperty property_tokens EndsProperties c.args.input.now c.loop-alloc.rows c.loop-alloc.input c.loop-alloc.invariant
    (λ y ys f k. no_property y c.loop-alloc.input c.properties_end.new.input ys c.loop-alloc-test.ensures k) x (properties_end ++ rest) form (rest, refl) (e ∙ assoc (flat_map property_tokens x) properties_end rest)).same
