use Rattle.std.proofs.Common.{◌≡◌, ◌++◌, List, Some, sym, ◌∙◌}
use Rattle.c_token.specs.CTokens.{CToken}
use Rattle.c_tree.specs.declared.item.CItem.{CItem}
use Rattle.c_tree.specs.declared.item.CItem.TheVariants as item
use Rattle.c_table.proofs.Steps.{some_same}
use Rattle.c_item.specs.Kinds.{slot_struct_tokens, IsSlotStruct}
use Rattle.c_item.proofs.declared.slot_struct.Goals as goal

pub returns-in-Some-clause-every : goal.returns-in-Some-clause-every
returns-in-Some-clause-every c = λ x rest form e. go x rest form e
  where
    go : (x : CItem) (rest : List CToken) → IsSlotStruct x → c.args.input.now ≡ slot_struct_tokens x ++ rest → Some (item.TableStruct c.in-Some.read.class c.in-Some.read.base c.in-Some.read.slots) ≡ Some x
    go (item.TableStruct n b slots) rest form e =
        let both = some_same _ _ (sym c.in-Some.is ∙ c.in_ok-read.ensures.every (record { class = n; base = b; slots = slots }) rest form e) in
        λ i. Some (item.TableStruct (both i).class (both i).base (both i).slots)
    go _ rest form e = absurd form

pub returns-in-None-clause-every : goal.returns-in-None-clause-every
returns-in-None-clause-every c = λ x rest form e. absurd (go x rest form e)
  where
    go : (x : CItem) (rest : List CToken) → IsSlotStruct x → c.args.input.now ≡ slot_struct_tokens x ++ rest → ⊥
    go (item.TableStruct n b slots) rest form e = cc (sym c.in-None.is ∙ c.in_ok-read.ensures.every (record { class = n; base = b; slots = slots }) rest form e)
    go _ rest form e = absurd form
