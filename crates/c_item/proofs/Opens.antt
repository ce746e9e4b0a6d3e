-- What the tokens of an item open, and that none begins with `static`.
use Rattle.std.proofs.Common.{◌≡◌, ℕ, List, ◌∷◌, ◌++◌, refl, sym, ap, ◌∙◌}
use Rattle.std.specs.Prelude.{Bool, true, false, codes}
use Rattle.std.specs.Str.{bytes_eq}
use Rattle.c_token.specs.CTokens.{CToken, Word, word, c_tokens, tokens_from}
use Rattle.c_tree.specs.declared.item.CItem.{CItem}
use Rattle.c_tree.specs.declared.item.CItem.TheVariants as item
use Rattle.c_tree.specs.declared.value.CResult.{CResult}
use Rattle.c_tree.specs.declared.value.CResult.TheVariants as result
use Rattle.c_tree.specs.declared.value.CType.TheVariants as type
use Rattle.c_tree.specs.Values.{result_spelling}
use Rattle.c_item.specs.declared.kinds.Opening.TheVariants.{Typed}
use Rattle.c_item.specs.Kinds.{declared_tokens, opening_of, IsDeclared}
use Rattle.c_item.specs.Words.{opening_at}

typed_opens : (kind : CResult) (w : List ℕ) (more : List CToken) → opening_at (result_spelling kind ++ (Word w ∷ more)) ≡ Typed
unfolding c_tokens tokens_from
typed_opens result.Void w more = refl
typed_opens (result.Value type.SignedChar) w more = refl
typed_opens (result.Value type.UnsignedChar) w more = refl
typed_opens (result.Value type.Short) w more = refl
typed_opens (result.Value type.UnsignedShort) w more = refl
typed_opens (result.Value type.Int) w more = refl
typed_opens (result.Value type.UnsignedInt) w more = refl
typed_opens (result.Value type.Long) w more = refl
typed_opens (result.Value type.UnsignedLong) w more = refl
typed_opens (result.Value type.PySsizeT) w more = refl
typed_opens (result.Value type.Object) w more = refl
typed_opens (result.Value type.View) w more = refl
typed_opens (result.Value type.ThreadState) w more = refl
typed_opens (result.Value type.LockState) w more = refl
typed_opens (result.Value type.TypeObject) w more = refl

-- the first word is `static`
abbrev begins_static : List CToken → Bool
begins_static (Word letters ∷ more) = bytes_eq letters (codes "static")
begins_static _ = false

typed_begins : (kind : CResult) (w : List ℕ) (more : List CToken) → begins_static (result_spelling kind ++ (Word w ∷ more)) ≡ false
unfolding c_tokens tokens_from
typed_begins result.Void w more = refl
typed_begins (result.Value type.SignedChar) w more = refl
typed_begins (result.Value type.UnsignedChar) w more = refl
typed_begins (result.Value type.Short) w more = refl
typed_begins (result.Value type.UnsignedShort) w more = refl
typed_begins (result.Value type.Int) w more = refl
typed_begins (result.Value type.UnsignedInt) w more = refl
typed_begins (result.Value type.Long) w more = refl
typed_begins (result.Value type.UnsignedLong) w more = refl
typed_begins (result.Value type.PySsizeT) w more = refl
typed_begins (result.Value type.Object) w more = refl
typed_begins (result.Value type.View) w more = refl
typed_begins (result.Value type.ThreadState) w more = refl
typed_begins (result.Value type.LockState) w more = refl
typed_begins (result.Value type.TypeObject) w more = refl

pub opens : (flag : Bool) (t : CItem) → IsDeclared flag t → opening_at (declared_tokens t) ≡ opening_of t
opens flag item.DefineClean form = refl
opens flag item.IncludePython form = refl
opens flag item.IncludeSet form = refl
opens flag item.ViewType form = refl
opens flag item.RootStruct form = refl
opens flag (item.InstanceStruct n b kinds) form = refl
opens flag (item.TableStruct n b slots) form = refl
opens flag (item.Table t) form = refl
opens flag (item.ExternType n) form = refl
opens flag (item.Methods s name rows) form = refl
opens flag (item.Properties s n rows) form = refl
opens flag (item.Sequence s n a b) form = refl
opens flag (item.Mapping s n a b) form = refl
opens flag (item.Type s t) form = refl
opens flag (item.ModuleDefinition s name) form = refl
opens flag (item.Prototype kind f kinds) form = typed_opens kind _ _
opens flag (item.StaticPrototype kind f kinds) form = typed_opens (result.Value kind) _ _
opens flag (item.Static kind x) form = typed_opens (result.Value kind) _ _
opens flag item.FormatTest form = absurd form
opens flag (item.Function f) form = absurd form

pub begins : (flag : Bool) (t : CItem) → IsDeclared flag t → begins_static (declared_tokens t) ≡ false
begins flag item.DefineClean form = refl
begins flag item.IncludePython form = refl
begins flag item.IncludeSet form = refl
begins flag item.ViewType form = refl
begins flag item.RootStruct form = refl
begins flag (item.InstanceStruct n b kinds) form = refl
begins flag (item.TableStruct n b slots) form = refl
begins flag (item.Table t) form = refl
begins flag (item.ExternType n) form = refl
begins flag (item.Methods s name rows) form = refl
begins flag (item.Properties s n rows) form = refl
begins flag (item.Sequence s n a b) form = refl
begins flag (item.Mapping s n a b) form = refl
begins flag (item.Type s t) form = refl
begins flag (item.ModuleDefinition s name) form = refl
begins flag (item.Prototype kind f kinds) form = typed_begins kind _ _
begins flag (item.StaticPrototype kind f kinds) form = typed_begins (result.Value kind) _ _
begins flag (item.Static kind x) form = typed_begins (result.Value kind) _ _
begins flag item.FormatTest form = absurd form
begins flag (item.Function f) form = absurd form

pub no_static : (flag : Bool) (t : CItem) (rest : List CToken) → IsDeclared flag t → declared_tokens t ≡ word "static" ∷ rest → ⊥
no_static flag t rest form e = let other : true ≡ false = sym (ap begins_static e) ∙ begins flag t form in cc other
