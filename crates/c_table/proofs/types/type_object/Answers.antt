use Rattle.std.proofs.Common.{◌≡◌, ◌++◌, List, Some, ap, ◌∙◌}
use Rattle.c_token.specs.CTokens.{CToken}
use Rattle.c_tree.specs.declared.item.CItem.{CItem}
use Rattle.c_tree.specs.declared.item.CItem.TheVariants as item
use Rattle.c_tree.specs.Forms.{IsNumbered, IsString}
use Rattle.c_input.proofs.Rows.{missed, next}
use Rattle.c_table.specs.Tables.{functions_of, functions_tokens, item_tokens, named_tokens, sized_tokens, tables_of, tables_tokens, AreFunctions, IsTypeObject}
use Rattle.c_table.proofs.Lacking.{four}
use Rattle.c_table.proofs.Parted.{lacks_base, lacks_dealloc, lacks_init, lacks_new, same_type}
use Rattle.c_table.proofs.Steps as step
use Rattle.c_table.proofs.types.type_object.Goals as goal

pub returns-in_default-clause-every : goal.returns-in_default-clause-every
returns-in_default-clause-every c = λ x rest form e. absurd (go x rest form e)
  where
    go : (x : CItem) (rest : List CToken) → IsTypeObject c.args.is_static x → c.args.input.now ≡ item_tokens x ++ rest → ⊥
    go (item.Type flag t) rest form e =
        let at = e ∙ four (named_tokens t.class t.name) (sized_tokens t.size) (functions_tokens (functions_of t)) (tables_tokens (tables_of t)) rest in
        missed (λ r. IsNumbered r.0 × IsString r.1) (λ r. named_tokens r.0 r.1) c.args.input.now c.in_ok-class.field-0 (t.class, t.name) (sized_tokens t.size ++ (functions_tokens (functions_of t) ++ (tables_tokens (tables_of t) ++ rest))) c.in_default.is c.in_ok-class.ensures.every (form.1.0, form.1.1) at
    go _ rest form e = absurd form

pub returns-in_default-sized-clause-every : goal.returns-in_default-sized-clause-every
returns-in_default-sized-clause-every c = λ x rest form e. absurd (go x rest form e)
  where
    go : (x : CItem) (rest : List CToken) → IsTypeObject c.args.is_static x → c.args.input.now ≡ item_tokens x ++ rest → ⊥
    go (item.Type flag t) rest form e =
        let at = e ∙ four (named_tokens t.class t.name) (sized_tokens t.size) (functions_tokens (functions_of t)) (tables_tokens (tables_of t)) rest in
        let k = next (λ r. IsNumbered r.0 × IsString r.1) (λ r. named_tokens r.0 r.1) c.args.input.now c.in_ok-class.field-0 c.named.new.input (c.in-Some.class, c.in-Some.name) (t.class, t.name) (sized_tokens t.size ++ (functions_tokens (functions_of t) ++ (tables_tokens (tables_of t) ++ rest))) c.in-Some.is c.in_ok-class.ensures.some c.in_ok-class.ensures.every (form.1.0, form.1.1) at in
        cc (c.in_default-sized.ensures.every t.size (functions_tokens (functions_of t) ++ (tables_tokens (tables_of t) ++ rest)) form.1.2 k.left)
    go _ rest form e = absurd form

pub returns-in_default-functions-clause-every : goal.returns-in_default-functions-clause-every
returns-in_default-functions-clause-every c = λ x rest form e. absurd (go x rest form e)
  where
    go : (x : CItem) (rest : List CToken) → IsTypeObject c.args.is_static x → c.args.input.now ≡ item_tokens x ++ rest → ⊥
    go (item.Type flag t) rest form e =
        let at = e ∙ four (named_tokens t.class t.name) (sized_tokens t.size) (functions_tokens (functions_of t)) (tables_tokens (tables_of t)) rest in
        let k = next (λ r. IsNumbered r.0 × IsString r.1) (λ r. named_tokens r.0 r.1) c.args.input.now c.in_ok-class.field-0 c.named.new.input (c.in-Some.class, c.in-Some.name) (t.class, t.name) (sized_tokens t.size ++ (functions_tokens (functions_of t) ++ (tables_tokens (tables_of t) ++ rest))) c.in-Some.is c.in_ok-class.ensures.some c.in_ok-class.ensures.every (form.1.0, form.1.1) at in
        let l = step.next IsNumbered sized_tokens c.named.new.input c.sized.new.input c.in-Some-sized.size t.size (functions_tokens (functions_of t) ++ (tables_tokens (tables_of t) ++ rest)) c.in-Some-sized.ensures.some c.in-Some-sized.ensures.every form.1.2 k.left in
        cc (c.in_default-functions.ensures.every (functions_of t) (tables_tokens (tables_of t) ++ rest) (form.1.3, form.1.4, form.1.5, form.1.6) (lacks_base (tables_of t) rest) (lacks_new (tables_of t) rest) (lacks_init (tables_of t) rest) (lacks_dealloc (tables_of t) rest) l.left)
    go _ rest form e = absurd form

pub returns-in_default-tables-clause-every : goal.returns-in_default-tables-clause-every
returns-in_default-tables-clause-every c = λ x rest form e. absurd (go x rest form e)
  where
    go : (x : CItem) (rest : List CToken) → IsTypeObject c.args.is_static x → c.args.input.now ≡ item_tokens x ++ rest → ⊥
    go (item.Type flag t) rest form e =
        let at = e ∙ four (named_tokens t.class t.name) (sized_tokens t.size) (functions_tokens (functions_of t)) (tables_tokens (tables_of t)) rest in
        let k = next (λ r. IsNumbered r.0 × IsString r.1) (λ r. named_tokens r.0 r.1) c.args.input.now c.in_ok-class.field-0 c.named.new.input (c.in-Some.class, c.in-Some.name) (t.class, t.name) (sized_tokens t.size ++ (functions_tokens (functions_of t) ++ (tables_tokens (tables_of t) ++ rest))) c.in-Some.is c.in_ok-class.ensures.some c.in_ok-class.ensures.every (form.1.0, form.1.1) at in
        let l = step.next IsNumbered sized_tokens c.named.new.input c.sized.new.input c.in-Some-sized.size t.size (functions_tokens (functions_of t) ++ (tables_tokens (tables_of t) ++ rest)) c.in-Some-sized.ensures.some c.in-Some-sized.ensures.every form.1.2 k.left in
        let m = step.next_one AreFunctions functions_tokens c.sized.new.input c.functions.new.input c.in-Some-functions.functions (functions_of t) (tables_tokens (tables_of t) ++ rest) c.in-Some-functions.ensures.some (c.in-Some-functions.ensures.every (functions_of t) (tables_tokens (tables_of t) ++ rest) (form.1.3, form.1.4, form.1.5, form.1.6) (lacks_base (tables_of t) rest) (lacks_new (tables_of t) rest) (lacks_init (tables_of t) rest) (lacks_dealloc (tables_of t) rest) l.left) l.left in
        cc (c.in_default-tables.ensures.every (tables_of t) rest (form.1.7, form.1.8, form.1.9, form.1.10) m.left)
    go _ rest form e = absurd form

pub returns-clause-every : goal.returns-clause-every
returns-clause-every c = λ x rest form e. go x rest form e
  where
    go : (x : CItem) (rest : List CToken) → IsTypeObject c.args.is_static x → c.args.input.now ≡ item_tokens x ++ rest → Some (item.Type c.args.is_static c.assembled-read.result) ≡ Some x
    go (item.Type flag t) rest form e =
        let at = e ∙ four (named_tokens t.class t.name) (sized_tokens t.size) (functions_tokens (functions_of t)) (tables_tokens (tables_of t)) rest in
        let k = next (λ r. IsNumbered r.0 × IsString r.1) (λ r. named_tokens r.0 r.1) c.args.input.now c.in_ok-class.field-0 c.named.new.input (c.in-Some.class, c.in-Some.name) (t.class, t.name) (sized_tokens t.size ++ (functions_tokens (functions_of t) ++ (tables_tokens (tables_of t) ++ rest))) c.in-Some.is c.in_ok-class.ensures.some c.in_ok-class.ensures.every (form.1.0, form.1.1) at in
        let l = step.next IsNumbered sized_tokens c.named.new.input c.sized.new.input c.in-Some-sized.size t.size (functions_tokens (functions_of t) ++ (tables_tokens (tables_of t) ++ rest)) c.in-Some-sized.ensures.some c.in-Some-sized.ensures.every form.1.2 k.left in
        let m = step.next_one AreFunctions functions_tokens c.sized.new.input c.functions.new.input c.in-Some-functions.functions (functions_of t) (tables_tokens (tables_of t) ++ rest) c.in-Some-functions.ensures.some (c.in-Some-functions.ensures.every (functions_of t) (tables_tokens (tables_of t) ++ rest) (form.1.3, form.1.4, form.1.5, form.1.6) (lacks_base (tables_of t) rest) (lacks_new (tables_of t) rest) (lacks_init (tables_of t) rest) (lacks_dealloc (tables_of t) rest) l.left) l.left in
        let d = step.some_same _ _ (c.in-Some-tables.ensures.every (tables_of t) rest (form.1.7, form.1.8, form.1.9, form.1.10) m.left) in
        let same = same_type c.assembled-read.result t (c.assembled-read.ensures.named.0 ∙ ap (λ r. r.0) k.same) (c.assembled-read.ensures.named.1 ∙ ap (λ r. r.1) k.same) (c.assembled-read.ensures.named.2 ∙ l.same) (c.assembled-read.ensures.functions ∙ m.same) (c.assembled-read.ensures.tables ∙ d) in
        cc (form.0, same)
    go _ rest form e = absurd form
