use Rattle.std.proofs.Common.{◌≡◌, ◌++◌, List, Some}
use Rattle.std.specs.Prelude.{Option}
use Rattle.c_token.specs.CTokens.{CToken}
use Rattle.c_tree.specs.declared.item.CItem.{CItem}
use Rattle.c_tree.specs.declared.item.CItem.TheVariants as item
use Rattle.c_input.specs.Reads.{ReadsEvery}
use Rattle.c_table.specs.Tables.{item_tokens, IsInstanceStruct}
use Rattle.c_item.specs.declared.kinds.Opening.TheVariants as opening
use Rattle.c_item.specs.Kinds.{opening_of, plain_tokens, slot_struct_tokens, slot_table_tokens, IsPlain, IsSlotStruct, IsSlotTable}
use Rattle.c_item.proofs.Results.{if_ok}
use Rattle.c_item.proofs.declared.plain.Goals as goal

pub returns-in-Fixed-clause-every : goal.returns-in-Fixed-clause-every
returns-in-Fixed-clause-every c = λ t rest form is e. go t rest form is e
  where
    go : (t : CItem) (rest : List CToken) → IsPlain t → opening_of t ≡ opening.Plain c.args.kind → c.args.input.now ≡ plain_tokens t ++ rest → c.fixed_item.result ≡ Some t
    go item.DefineClean rest form is e = c.fixed_item.ensures.every item.DefineClean rest form e
    go item.IncludePython rest form is e = c.fixed_item.ensures.every item.IncludePython rest form e
    go item.IncludeSet rest form is e = c.fixed_item.ensures.every item.IncludeSet rest form e
    go item.ViewType rest form is e = c.fixed_item.ensures.every item.ViewType rest form e
    go item.RootStruct rest form is e = c.fixed_item.ensures.every item.RootStruct rest form e
    go _ rest form is e = cc (is, c.in-Fixed.is)

pub returns-in-Instance-clause-every : goal.returns-in-Instance-clause-every
returns-in-Instance-clause-every c = if_ok c.instance_struct.result (λ found. ReadsEvery IsInstanceStruct item_tokens c.args.input.now found) P go c.instance_struct.ensures.every
  where
    P : Option CItem → Type 0
    P found = (t : CItem) (rest : List CToken) → IsPlain t → opening_of t ≡ opening.Plain c.args.kind → c.args.input.now ≡ plain_tokens t ++ rest → found ≡ Some t

    at : (found : Option CItem) → ReadsEvery IsInstanceStruct item_tokens c.args.input.now found → (t : CItem) (rest : List CToken) → IsPlain t → opening_of t ≡ opening.Plain c.args.kind → c.args.input.now ≡ plain_tokens t ++ rest → found ≡ Some t
    at found every (item.InstanceStruct n b kinds) rest form is e = every (item.InstanceStruct n b kinds) rest form e
    at found every _ rest form is e = cc (is, c.in-Instance.is)

    go : (found : Option CItem) → ReadsEvery IsInstanceStruct item_tokens c.args.input.now found → P found
    go found every = λ t rest form is e. at found every t rest form is e

pub returns-in-TableStruct-clause-every : goal.returns-in-TableStruct-clause-every
returns-in-TableStruct-clause-every c = if_ok c.slot_struct.result (λ found. ReadsEvery IsSlotStruct slot_struct_tokens c.args.input.now found) P go c.slot_struct.ensures.every
  where
    P : Option CItem → Type 0
    P found = (t : CItem) (rest : List CToken) → IsPlain t → opening_of t ≡ opening.Plain c.args.kind → c.args.input.now ≡ plain_tokens t ++ rest → found ≡ Some t

    at : (found : Option CItem) → ReadsEvery IsSlotStruct slot_struct_tokens c.args.input.now found → (t : CItem) (rest : List CToken) → IsPlain t → opening_of t ≡ opening.Plain c.args.kind → c.args.input.now ≡ plain_tokens t ++ rest → found ≡ Some t
    at found every (item.TableStruct n b slots) rest form is e = every (item.TableStruct n b slots) rest form e
    at found every _ rest form is e = cc (is, c.in-TableStruct.is)

    go : (found : Option CItem) → ReadsEvery IsSlotStruct slot_struct_tokens c.args.input.now found → P found
    go found every = λ t rest form is e. at found every t rest form is e

pub returns-in-MethodTable-clause-every : goal.returns-in-MethodTable-clause-every
returns-in-MethodTable-clause-every c = if_ok c.slot_table.result (λ found. ReadsEvery IsSlotTable slot_table_tokens c.args.input.now found) P go c.slot_table.ensures.every
  where
    P : Option CItem → Type 0
    P found = (t : CItem) (rest : List CToken) → IsPlain t → opening_of t ≡ opening.Plain c.args.kind → c.args.input.now ≡ plain_tokens t ++ rest → found ≡ Some t

    at : (found : Option CItem) → ReadsEvery IsSlotTable slot_table_tokens c.args.input.now found → (t : CItem) (rest : List CToken) → IsPlain t → opening_of t ≡ opening.Plain c.args.kind → c.args.input.now ≡ plain_tokens t ++ rest → found ≡ Some t
    at found every (item.Table t) rest form is e = every (item.Table t) rest form e
    at found every _ rest form is e = cc (is, c.in-MethodTable.is)

    go : (found : Option CItem) → ReadsEvery IsSlotTable slot_table_tokens c.args.input.now found → P found
    go found every = λ t rest form is e. at found every t rest form is e

pub returns-in-Extern-clause-every : goal.returns-in-Extern-clause-every
returns-in-Extern-clause-every c = λ t rest form is e. go t rest form is e
  where
    go : (t : CItem) (rest : List CToken) → IsPlain t → opening_of t ≡ opening.Plain c.args.kind → c.args.input.now ≡ plain_tokens t ++ rest → c.extern_type.result ≡ Some t
    go (item.ExternType n) rest form is e = c.extern_type.ensures.every (item.ExternType n) rest form e
    go _ rest form is e = cc (is, c.in-Extern.is)
