use Rattle.std.proofs.Common.{◌≡◌, ◌++◌, List, ◌∙◌}
use Rattle.c_token.specs.CTokens.{CToken}
use Rattle.c_tree.specs.declared.item.CItem.{CItem}
use Rattle.c_tree.specs.declared.item.CItem.TheVariants as item
use Rattle.c_item.specs.Fixed.{fixed_tokens, IsFixed}
use Rattle.c_item.proofs.fixed.fixed_item.Goals as goal

pub returns-clause-every : goal.returns-clause-every
returns-clause-every c = λ x rest form e. absurd (go x rest form e)
  where
    go : (x : CItem) (rest : List CToken) → IsFixed x → c.args.input.now ≡ fixed_tokens x ++ rest → ⊥
    go item.DefineClean rest form e = c.if-fixed.ensures.1 rest e
    go item.IncludePython rest form e = c.if-fixed-2.ensures.1 rest (c.if-fixed.ensures.0 ∙ e)
    go item.IncludeSet rest form e = c.if-fixed-3.ensures.1 rest (c.if-fixed-2.ensures.0 ∙ (c.if-fixed.ensures.0 ∙ e))
    go item.ViewType rest form e = c.if-view_type.ensures.1 rest (c.if-fixed-3.ensures.0 ∙ (c.if-fixed-2.ensures.0 ∙ (c.if-fixed.ensures.0 ∙ e)))
    go item.RootStruct rest form e = c.if-root_struct.ensures.1 rest (c.if-view_type.ensures.0 ∙ (c.if-fixed-3.ensures.0 ∙ (c.if-fixed-2.ensures.0 ∙ (c.if-fixed.ensures.0 ∙ e))))
    go _ rest form e = absurd form
