use Rattle.std.proofs.Common.{◌≡◌, ◌++◌, ◌∷◌, [], List, Some, ap}
use Rattle.std.specs.Prelude.{◌≢◌, codes}
use Rattle.c_token.specs.CTokens.{CToken, word, sign}
use Rattle.c_tree.specs.declared.item.CItem.{CItem}
use Rattle.c_tree.specs.declared.item.CItem.TheVariants as item
use Rattle.c_tree.specs.Forms.{IsNumbered}
use Rattle.c_tree.specs.Names.{name_token}
use Rattle.c_table.specs.Tables.{item_tokens, IsSequence}
use Rattle.c_table.proofs.Steps.{behind, next, some_same}
use Rattle.c_table.proofs.members.sequence.Goals as goal

differ : codes "sq_length" ≢ codes "sq_contains"
differ e = cc

pub returns-in_err-length-clause-every : goal.returns-in_err-length-clause-every
returns-in_err-length-clause-every c = λ x rest form e. absurd (go x rest form e)
  where
    go : (x : CItem) (rest : List CToken) → IsSequence c.args.is_static x → c.args.input.now ≡ item_tokens x ++ rest → ⊥
    go (item.Sequence flag n len contains) rest form e =
        let a = behind (word "PySequenceMethods" ∷ []) c.args.input.now c.fixed.new.self _ c.if-not-fixed.ensures e in
        let k = next IsNumbered (λ m. name_token "cyc_sq_" m ∷ []) c.fixed.new.self c.numbered.new.self c.in_ok-class.class n _ c.in_ok-class.ensures.some c.in_ok-class.ensures.every form.1 a in
        let b = behind (sign "=" ∷ sign "{" ∷ []) c.numbered.new.self c.fixed-2.new.self _ c.if-not-fixed-2.ensures k.left in
        cc (c.in_err-length.ensures.every differ (len, contains) rest form.2 b)
    go _ rest form e = absurd form

pub returns-clause-every : goal.returns-clause-every
returns-clause-every c = λ x rest form e. go x rest form e
  where
    go : (x : CItem) (rest : List CToken) → IsSequence c.args.is_static x → c.args.input.now ≡ item_tokens x ++ rest
        → Some (item.Sequence c.args.is_static c.in_ok-class.class c.in_ok-length.length c.in_ok-length.contains) ≡ Some x
    go (item.Sequence flag n len contains) rest form e =
        let a = behind (word "PySequenceMethods" ∷ []) c.args.input.now c.fixed.new.self _ c.if-not-fixed.ensures e in
        let k = next IsNumbered (λ m. name_token "cyc_sq_" m ∷ []) c.fixed.new.self c.numbered.new.self c.in_ok-class.class n _ c.in_ok-class.ensures.some c.in_ok-class.ensures.every form.1 a in
        let b = behind (sign "=" ∷ sign "{" ∷ []) c.numbered.new.self c.fixed-2.new.self _ c.if-not-fixed-2.ensures k.left in
        let both = some_same _ _ (c.in_ok-length.ensures.every differ (len, contains) rest form.2 b) in
        let one : c.in_ok-length.length ≡ len = ap (λ r. r.0) both in
        let two : c.in_ok-length.contains ≡ contains = ap (λ r. r.1) both in
        cc (form.0, k.same, one, two)
    go _ rest form e = absurd form
