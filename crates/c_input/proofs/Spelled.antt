-- The tokens of types are those of their spellings.
use Rattle.std.proofs.Common.{◌≡◌, refl}
use Rattle.c_token.specs.CTokens.{c_tokens, tokens_from}
use Rattle.c_tree.specs.declared.value.CType.{CType}
use Rattle.c_tree.specs.declared.value.CType.TheVariants as type
use Rattle.c_tree.specs.Values.{type_spelling}
use Rattle.c_input.specs.Types.{type_tokens}

pub spelled : (t : CType) → type_spelling t ≡ type_tokens t
unfolding c_tokens tokens_from
spelled type.SignedChar = refl
spelled type.UnsignedChar = refl
spelled type.Short = refl
spelled type.UnsignedShort = refl
spelled type.Int = refl
spelled type.UnsignedInt = refl
spelled type.Long = refl
spelled type.UnsignedLong = refl
spelled type.PySsizeT = refl
spelled type.Object = refl
spelled type.View = refl
spelled type.ThreadState = refl
spelled type.LockState = refl
spelled type.TypeObject = refl
