-- A list of types or parameters that isn't empty has no `void` in its place.
use Rattle.std.proofs.Common.{◌≡◌, List, ◌++◌, refl}
use Rattle.c_token.specs.CTokens.{CToken, c_tokens, tokens_from}
use Rattle.c_tree.specs.declared.value.CType.{CType}
use Rattle.c_tree.specs.declared.value.CType.TheVariants as type
use Rattle.c_tree.specs.Values.{type_spelling}
use Rattle.c_tree.specs.Items.{void_or}

pub no_void : (kind : CType) (more : List CToken) → void_or (type_spelling kind ++ more) ≡ type_spelling kind ++ more
unfolding c_tokens tokens_from
no_void type.SignedChar more = refl
no_void type.UnsignedChar more = refl
no_void type.Short more = refl
no_void type.UnsignedShort more = refl
no_void type.Int more = refl
no_void type.UnsignedInt more = refl
no_void type.Long more = refl
no_void type.UnsignedLong more = refl
no_void type.PySsizeT more = refl
no_void type.Object more = refl
no_void type.View more = refl
no_void type.ThreadState more = refl
no_void type.LockState more = refl
no_void type.TypeObject more = refl
