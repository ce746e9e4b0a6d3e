-- The tokens of the spellings of places, one by one.
use Rattle.std.proofs.Common.{◌≡◌, refl}
use Rattle.c_token.specs.CTokens.{c_tokens, tokens_from}
use Rattle.c_tree.specs.declared.name.Variable.{Variable}
use Rattle.c_tree.specs.declared.statement.FieldPlace.{FieldPlace}
use Rattle.c_tree.specs.declared.statement.ViewNumber.{ViewNumber}
use Rattle.c_tree.specs.declared.statement.ViewNumber.TheVariants as number
use Rattle.c_tree.specs.Statements.{buffer_of, field, number_spelling, table_of}
use Rattle.c_place.specs.declared.elements.ElementPlace.{ElementPlace}
use Rattle.c_place.specs.declared.tables.Method.{Method}
use Rattle.c_place.specs.Places.{buffer_tokens, element_spelling, element_tokens, field_tokens, method_spelling, method_tokens, number_tokens, table_tokens}

pub field_spelled : (p : FieldPlace) → field p ≡ field_tokens p
unfolding c_tokens tokens_from
field_spelled p = refl

pub table_spelled : (y : Variable) → table_of y ≡ table_tokens y
unfolding c_tokens tokens_from
table_spelled y = refl

pub method_spelled : (m : Method) → method_spelling m ≡ method_tokens m
unfolding c_tokens tokens_from
method_spelled m = refl

pub buffer_spelled : (y : Variable) → buffer_of y ≡ buffer_tokens y
unfolding c_tokens tokens_from
buffer_spelled y = refl

pub number_spelled : (n : ViewNumber) → number_spelling n ≡ number_tokens n
unfolding c_tokens tokens_from
number_spelled number.Dimensions = refl
number_spelled number.ItemSize = refl
number_spelled number.Readonly = refl
number_spelled (number.Shape j) = refl
number_spelled (number.Stride j) = refl

pub element_spelled : (e : ElementPlace) → element_spelling e ≡ element_tokens e
unfolding c_tokens tokens_from
element_spelled e = refl
