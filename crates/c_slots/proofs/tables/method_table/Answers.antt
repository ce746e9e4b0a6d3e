use Rattle.std.proofs.Common.{◌≡◌, ◌++◌, suc, length, Some, refl, sym, ap, subst, ◌∙◌}
use Rattle.std.specs.Prelude.{Option}
use Rattle.c_slots.specs.declared.tables.TableHead.{TableHead}
use Rattle.c_slots.specs.declared.tables.TableValue.{TableValue}
use Rattle.c_slots.specs.Tables.{table_head_tokens, value_tokens, IsValue}
use Rattle.c_input.specs.Reads.{Finds}
use Rattle.c_input.proofs.Rows.{left_of, next_one, value_of}
use Rattle.c_slots.proofs.Firsts.{braces_once, string_apart, table_joins, table_parts}
use Rattle.c_slots.proofs.Steps.{lost, never}
use Rattle.c_slots.proofs.tables.method_table.Goals as goal

pub returns-in_default-clause-every : goal.returns-in_default-clause-every
returns-in_default-clause-every c = λ x rest form e.
    let e1 = e ∙ table_parts x rest in
    let first : TableHead = record { first = x.class; second = x.class } in
    absurd (cc (c.in_default.ensures.every first _ (form.0, form.0) e1))

pub returns-in_default-2-clause-every : goal.returns-in_default-2-clause-every
returns-in_default-2-clause-every c = λ x rest form e.
    let e1 = e ∙ table_parts x rest in
    let first : TableHead = record { first = x.class; second = x.class } in
    let inside : TableValue = record { name = x.name; inner = x.inner; outer = x.outer } in
    let head = c.in-Some.ensures.every first _ (form.0, form.0) e1 in
    let e2 = left_of table_head_tokens head c.in-Some.ensures.some.1 e1 in
    let b = braces_once c.braces-count.result (suc (length x.outer)) c.braces-count.new.input (value_tokens inside ++ rest) (λ z. c.braces-count.ensures.1 (sym z)) (λ z. string_apart x.name z) (sym c.braces-count.ensures.0 ∙ e2) in
    let known = c.in_ok-value.ensures.every inside rest (form.1, form.2, form.3) b.left in
    absurd (lost c.in_default-2.is known)

pub returns-then-not-fits-clause-every : goal.returns-then-not-fits-clause-every
returns-then-not-fits-clause-every c = λ x rest form e.
    let e1 = e ∙ table_parts x rest in
    let first : TableHead = record { first = x.class; second = x.class } in
    let inside : TableValue = record { name = x.name; inner = x.inner; outer = x.outer } in
    let head = c.in-Some.ensures.every first _ (form.0, form.0) e1 in
    let e2 = left_of table_head_tokens head c.in-Some.ensures.some.1 e1 in
    let b = braces_once c.braces-count.result (suc (length x.outer)) c.braces-count.new.input (value_tokens inside ++ rest) (λ z. c.braces-count.ensures.1 (sym z)) (λ z. string_apart x.name z) (sym c.braces-count.ensures.0 ∙ e2) in
    let known = c.in_ok-value.ensures.every inside rest (form.1, form.2, form.3) b.left in
    let n = next_one IsValue value_tokens c.braces-count.new.input c.in_ok-value.field-0 c.value.new.input c.in-Some-2.value inside rest c.in-Some-2.is c.in_ok-value.ensures.some known b.left in
    let same = value_of head in
    let first_is : c.in-Some.head.first ≡ x.class = ap (λ (h : TableHead). h.first) same in
    let second_is : c.in-Some.head.second ≡ x.class = ap (λ (h : TableHead). h.second) same in
    let number : c.braces-count.result ≡ suc (length c.in-Some-2.value.outer) = b.number ∙ ap (λ (v : TableValue). suc (length v.outer)) (sym n.same) in
    absurd (never (c.if-not-fits.ensures.1 (first_is ∙ sym second_is, number)))

pub returns-clause-every : goal.returns-clause-every
returns-clause-every c = λ x rest form e.
    let e1 = e ∙ table_parts x rest in
    let first : TableHead = record { first = x.class; second = x.class } in
    let inside : TableValue = record { name = x.name; inner = x.inner; outer = x.outer } in
    let head = c.in-Some.ensures.every first _ (form.0, form.0) e1 in
    let e2 = left_of table_head_tokens head c.in-Some.ensures.some.1 e1 in
    let b = braces_once c.braces-count.result (suc (length x.outer)) c.braces-count.new.input (value_tokens inside ++ rest) (λ z. c.braces-count.ensures.1 (sym z)) (λ z. string_apart x.name z) (sym c.braces-count.ensures.0 ∙ e2) in
    let known = c.in_ok-value.ensures.every inside rest (form.1, form.2, form.3) b.left in
    let n = next_one IsValue value_tokens c.braces-count.new.input c.in_ok-value.field-0 c.value.new.input c.in-Some-2.value inside rest c.in-Some-2.is c.in_ok-value.ensures.some known b.left in
    let same = value_of head in
    λ i. Some (record { class = (same i).first; name = (n.same i).name; inner = (n.same i).inner; outer = (n.same i).outer })

pub returns-clause-some : goal.returns-clause-some
returns-clause-some c =
    let value = subst (λ (t : Option TableValue). Finds IsValue value_tokens c.braces-count.new.input t c.value.new.input) c.in-Some-2.is c.in_ok-value.ensures.some in
    let fits = c.if-not-fits.ensures.0 refl in
    table_joins c.in-Some.head c.in-Some-2.value c.braces-count.result c.args.input.now c.head.new.input c.braces-count.new.input c.value.new.input
    fits.0 fits.1 c.in-Some.ensures.some.0 value.0 c.in-Some.ensures.some.1 c.braces-count.ensures.0 value.1
