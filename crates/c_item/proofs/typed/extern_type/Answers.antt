use Rattle.std.proofs.Common.{◌≡◌, ◌++◌, ◌∷◌, [], List, Some, ap}
use Rattle.c_token.specs.CTokens.{CToken, word, sign}
use Rattle.c_tree.specs.declared.item.CItem.{CItem}
use Rattle.c_tree.specs.declared.item.CItem.TheVariants as item
use Rattle.c_table.proofs.Steps.{behind, some_same}
use Rattle.c_item.specs.Typed.{extern_tokens, IsExtern}
use Rattle.c_item.proofs.typed.extern_type.Goals as goal

pub returns-in_err-class-clause-every : goal.returns-in_err-class-clause-every
returns-in_err-class-clause-every c = λ x rest form e. absurd (go x rest form e)
  where
    go : (x : CItem) (rest : List CToken) → IsExtern x → c.args.input.now ≡ extern_tokens x ++ rest → ⊥
    go (item.ExternType n) rest form e =
        let a = behind (word "extern" ∷ word "PyTypeObject" ∷ []) c.args.input.now c.fixed.new.self _ c.if-not-fixed.ensures e in
        cc (c.in_err-class.ensures.every n (sign ";" ∷ rest) form a)
    go _ rest form e = absurd form

pub returns-then-fixed-clause-every : goal.returns-then-fixed-clause-every
returns-then-fixed-clause-every c = λ x rest form e. go x rest form e
  where
    go : (x : CItem) (rest : List CToken) → IsExtern x → c.args.input.now ≡ extern_tokens x ++ rest → Some (item.ExternType c.in_ok-class.class) ≡ Some x
    go (item.ExternType n) rest form e =
        let a = behind (word "extern" ∷ word "PyTypeObject" ∷ []) c.args.input.now c.fixed.new.self _ c.if-not-fixed.ensures e in
        ap (λ m. Some (item.ExternType m)) (some_same _ _ (c.in_ok-class.ensures.every n (sign ";" ∷ rest) form a))
    go _ rest form e = absurd form
