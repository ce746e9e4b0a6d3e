use Rattle.std.proofs.Common.{◌∷◌, ◌++◌, [], List, ℕ, Some, refl, ◌∙◌}
use Rattle.std.specs.List.{flat_map, AllByRecursion}
use Rattle.c_token.specs.CTokens.{CToken, sign}
use Rattle.c_tree.specs.Forms.{IsString}
use Rattle.c_tree.specs.Items.{behind}
use Rattle.c_tree.specs.Values.{string}
use Rattle.c_input.proofs.Rows.{finds_of, next_one}
use Rattle.c_slots.specs.Tables.{layer_tokens, AreFunctions}
use Rattle.c_slots.proofs.Firsts.{layers_close, value_parts}
use Rattle.c_slots.proofs.Steps.{lost}
use Rattle.c_slots.proofs.tables.value.Goals as goal

pub returns-in_default-2-clause-every : goal.returns-in_default-2-clause-every
returns-in_default-2-clause-every c = λ x rest form e.
    let e1 = e ∙ value_parts x rest in
    let ends : List CToken = sign "}" ∷ sign ";" ∷ rest in
    let known = c.in_ok-name.ensures.every x.name _ form.0 e1 in
    let n = next_one IsString (λ (bytes : List ℕ). string bytes ∷ []) c.args.input.now c.in_ok-name.field-0 c.string.new.self c.in-Some.name x.name
    (behind x.inner ++ (flat_map layer_tokens x.outer ++ ends)) c.in-Some.is
    (finds_of IsString (λ (bytes : List ℕ). string bytes ∷ []) c.args.input.now c.in_ok-name.field-0 c.string.new.self c.in_ok-name.ensures.some) known e1 in
    let inside = c.in_ok-inner.ensures.every x.inner (flat_map layer_tokens x.outer ++ ends) form.1 (layers_close x.outer ends (refl, refl)) n.left in
    absurd (lost c.in_default-2.is inside)

pub returns-in_default-3-clause-every : goal.returns-in_default-3-clause-every
returns-in_default-3-clause-every c = λ x rest form e.
    let e1 = e ∙ value_parts x rest in
    let ends : List CToken = sign "}" ∷ sign ";" ∷ rest in
    let known = c.in_ok-name.ensures.every x.name _ form.0 e1 in
    let n = next_one IsString (λ (bytes : List ℕ). string bytes ∷ []) c.args.input.now c.in_ok-name.field-0 c.string.new.self c.in-Some.name x.name
    (behind x.inner ++ (flat_map layer_tokens x.outer ++ ends)) c.in-Some.is
    (finds_of IsString (λ (bytes : List ℕ). string bytes ∷ []) c.args.input.now c.in_ok-name.field-0 c.string.new.self c.in_ok-name.ensures.some) known e1 in
    let inside = c.in_ok-inner.ensures.every x.inner (flat_map layer_tokens x.outer ++ ends) form.1 (layers_close x.outer ends (refl, refl)) n.left in
    let m = next_one AreFunctions behind c.string.new.self c.in_ok-inner.field-0 c.functions_behind.new.input c.in-Some-2.inner x.inner
    (flat_map layer_tokens x.outer ++ ends) c.in-Some-2.is c.in_ok-inner.ensures.some inside n.left in
    let outside = c.in_ok-outer.ensures.every x.outer ends form.2 (refl, refl) m.left in
    absurd (lost c.in_default-3.is outside)

pub returns-else-fixed-clause-every : goal.returns-else-fixed-clause-every
returns-else-fixed-clause-every c = λ x rest form e.
    let e1 = e ∙ value_parts x rest in
    let ends : List CToken = sign "}" ∷ sign ";" ∷ rest in
    let known = c.in_ok-name.ensures.every x.name _ form.0 e1 in
    let n = next_one IsString (λ (bytes : List ℕ). string bytes ∷ []) c.args.input.now c.in_ok-name.field-0 c.string.new.self c.in-Some.name x.name
    (behind x.inner ++ (flat_map layer_tokens x.outer ++ ends)) c.in-Some.is
    (finds_of IsString (λ (bytes : List ℕ). string bytes ∷ []) c.args.input.now c.in_ok-name.field-0 c.string.new.self c.in_ok-name.ensures.some) known e1 in
    let inside = c.in_ok-inner.ensures.every x.inner (flat_map layer_tokens x.outer ++ ends) form.1 (layers_close x.outer ends (refl, refl)) n.left in
    let m = next_one AreFunctions behind c.string.new.self c.in_ok-inner.field-0 c.functions_behind.new.input c.in-Some-2.inner x.inner
    (flat_map layer_tokens x.outer ++ ends) c.in-Some-2.is c.in_ok-inner.ensures.some inside n.left in
    let outside = c.in_ok-outer.ensures.every x.outer ends form.2 (refl, refl) m.left in
    let k = next_one (AllByRecursion AreFunctions) (flat_map layer_tokens) c.functions_behind.new.input c.in_ok-outer.field-0 c.layers.new.input c.in-Some-3.outer x.outer
    ends c.in-Some-3.is c.in_ok-outer.ensures.some outside m.left in
    absurd (c.if-fixed.ensures.1 rest k.left)

pub returns-then-fixed-clause-every : goal.returns-then-fixed-clause-every
returns-then-fixed-clause-every c = λ x rest form e.
    let e1 = e ∙ value_parts x rest in
    let ends : List CToken = sign "}" ∷ sign ";" ∷ rest in
    let known = c.in_ok-name.ensures.every x.name _ form.0 e1 in
    let n = next_one IsString (λ (bytes : List ℕ). string bytes ∷ []) c.args.input.now c.in_ok-name.field-0 c.string.new.self c.in-Some.name x.name
    (behind x.inner ++ (flat_map layer_tokens x.outer ++ ends)) c.in-Some.is
    (finds_of IsString (λ (bytes : List ℕ). string bytes ∷ []) c.args.input.now c.in_ok-name.field-0 c.string.new.self c.in_ok-name.ensures.some) known e1 in
    let inside = c.in_ok-inner.ensures.every x.inner (flat_map layer_tokens x.outer ++ ends) form.1 (layers_close x.outer ends (refl, refl)) n.left in
    let m = next_one AreFunctions behind c.string.new.self c.in_ok-inner.field-0 c.functions_behind.new.input c.in-Some-2.inner x.inner
    (flat_map layer_tokens x.outer ++ ends) c.in-Some-2.is c.in_ok-inner.ensures.some inside n.left in
    let outside = c.in_ok-outer.ensures.every x.outer ends form.2 (refl, refl) m.left in
    let k = next_one (AllByRecursion AreFunctions) (flat_map layer_tokens) c.functions_behind.new.input c.in_ok-outer.field-0 c.layers.new.input c.in-Some-3.outer x.outer
    ends c.in-Some-3.is c.in_ok-outer.ensures.some outside m.left in
    λ i. Some (record { name = n.same i; inner = m.same i; outer = k.same i })
