-- What reads the forms that nest nothing is exact.
use Rattle.std.proofs.Common.{ℕ, Bool, true, false, List, refl}
use Rattle.token_class.specs.declared.class.TokenClass.TheVariants as c
use Rattle.cy_tree.specs.declared.expr.Comparison.{Comparison}
use Rattle.cy_tree.specs.declared.expr.Expr.{Expr}
use Rattle.cy_tree.specs.declared.expr.Part.{Part}
use Rattle.cy_tree.specs.declared.types.Ident.{Ident}
use Rattle.cy_tree.specs.declared.types.NumberWords.{NumberWords}
use Rattle.cy_tree.specs.declared.types.NumberWords.TheVariants as number
use Rattle.cy_tree.specs.declared.types.TypeName.{TypeName}
use Rattle.cy_tree.specs.declared.types.Dim.{Dim}
use Rattle.expr_grammar.specs.declared.Longs.{Longs}
use Rattle.expr_grammar.specs.declared.Longs.TheVariants as longs
use Rattle.forms.specs.Forms.{none, either}
use Rattle.forms.specs.Lists.{second, pair, itself}
use Rattle.token_class.proofs.Laws.{ExactFor, optional, empty, token, choose, place, loop, loop_upto, passing, sets, after, after_maybe, either_of, maybe}
use Rattle.expr_grammar.specs.Words.{is_name, is_plain_name, is_int, is_str, is_not, is_is, is_in, is_const, is_dot, is_comma, is_colon, is_question_mark, is_order, is_signed, is_unsigned, is_char, is_short, is_int_word, is_long, is_lone, begins_number, begins_cop, more_number}
use Rattle.expr_grammar.specs.Nodes.{text, ident, lone, yes, short_node, second_long, long_node, unsigned_short, unsigned_long, number_node, named_node, dim_node, int_of, cons, str_node, attribute_node, order, is_node, in_node, not_in_node}
use Rattle.expr_grammar.specs.Grammar.{four, flag, short, length, long, signed, behind_unsigned, unsigned, number_words, member, type_name, dim, dims, cop, strings, attribute}
use Rattle.expr_grammar.specs.Reading.{read_flag, read_short, read_length, read_long, read_signed, read_behind_unsigned, read_unsigned, read_number_words, read_member, read_type_name, read_dim, read_dims, read_cop, read_strings, read_attribute}

int_flag : ExactFor Bool (flag is_int_word) (read_flag is_int_word) true is_int_word (either none is_int_word)
int_flag = maybe false (token is_int_word yes c.IntWord refl)

pub const_flag : ExactFor Bool (flag is_const) (read_flag is_const) true is_const (either none is_const)
const_flag = maybe false (token is_const yes c.Const refl)

pub question_flag : ExactFor Bool (flag is_question_mark) (read_flag is_question_mark) true is_question_mark (either none is_question_mark)
question_flag = maybe false (token is_question_mark yes c.QuestionMark refl)

-- ---- number types

short_exact : ExactFor NumberWords short read_short false is_short is_int_word
unfolding short read_short
short_exact = sets is_short is_int_word refl refl (after_maybe short_node (token is_short itself c.Short refl) int_flag refl)

length_exact : ExactFor Longs length read_length true (either is_long is_int_word) (either is_int_word is_long)
unfolding length read_length
length_exact =
    let long = sets is_long is_int_word refl refl (after_maybe second_long (token is_long itself c.Long refl) int_flag refl) in
    sets (either is_long is_int_word) (either is_int_word is_long) refl refl (choose long (maybe longs.Bare (token is_int_word (λ x. longs.Int) c.IntWord refl)) refl)

long_exact : ExactFor NumberWords long read_long false is_long (either is_int_word is_long)
unfolding long read_long
long_exact = sets is_long (either is_int_word is_long) refl refl (after_maybe long_node (token is_long itself c.Long refl) length_exact refl)

signed_exact : ExactFor NumberWords signed read_signed false is_signed none
unfolding signed read_signed
signed_exact = after second (token is_signed itself c.Signed refl) (token is_char (λ x. number.SignedChar) c.Char refl) refl

behind_unsigned_exact : ExactFor NumberWords behind_unsigned read_behind_unsigned true more_number more_number
unfolding behind_unsigned read_behind_unsigned
behind_unsigned_exact =
    let shorts = sets is_short is_int_word refl refl (after_maybe unsigned_short (token is_short itself c.Short refl) int_flag refl) in
    let longs = sets is_long (either is_int_word is_long) refl refl (after_maybe unsigned_long (token is_long itself c.Long refl) length_exact refl) in
    let chars = token is_char (λ x. number.UnsignedChar) c.Char refl in
    let ints = token is_int_word (λ x. number.UnsignedInt) c.IntWord refl in
    sets more_number more_number refl refl (choose chars (choose shorts (choose ints (maybe number.Unsigned longs) refl) refl) refl)

unsigned_exact : ExactFor NumberWords unsigned read_unsigned false is_unsigned more_number
unfolding unsigned read_unsigned
unsigned_exact = sets is_unsigned more_number refl refl (after_maybe second (token is_unsigned itself c.Unsigned refl) behind_unsigned_exact refl)

pub number_exact : ExactFor NumberWords number_words read_number_words false begins_number more_number
unfolding number_words read_number_words
number_exact =
    let ints = token is_int_word (λ x. number.Int) c.IntWord refl in
    let last = either_of ints (either_of long_exact (token is_lone lone c.Bint refl) refl) refl in
    sets begins_number more_number refl refl (either_of signed_exact (either_of unsigned_exact (either_of short_exact last refl) refl) refl)

-- ---- types without their room

pub member_exact : ExactFor Ident member read_member false is_dot none
unfolding member read_member
member_exact = after second (token is_dot itself c.Dot refl) (token is_name ident c.Name refl) refl

pub type_name_exact : ExactFor TypeName type_name read_type_name false (either begins_number is_plain_name) (either more_number is_dot)
unfolding type_name read_type_name
type_name_exact =
    let named = after_maybe named_node (token is_plain_name ident c.Name refl) (optional member_exact) refl in
    sets (either begins_number is_plain_name) (either more_number is_dot) refl refl (either_of (after_maybe number_node number_exact (empty tt) refl) named refl)

dim_exact : ExactFor Dim dim read_dim false is_colon is_colon
unfolding dim read_dim
dim_exact =
    let step = after second (token is_colon itself c.Colon refl) (token is_int int_of c.Int refl) refl in
    sets is_colon is_colon refl refl (after_maybe dim_node (token is_colon itself c.Colon refl) (optional step) refl)

pub dims_exact : ExactFor (List Dim) dims read_dims false is_colon (either is_colon is_comma)
unfolding dims read_dims
dims_exact =
    let comma = token is_comma itself c.Comma refl in
    let more = loop_upto 2 (after second comma dim_exact refl) (after second comma (passing four dim_exact) refl) refl in
    sets is_colon (either is_colon is_comma) refl refl (after_maybe cons dim_exact more refl)

-- ---- operators and parts

pub cop_exact : ExactFor (Comparison × ℕ) cop read_cop false begins_cop is_not
unfolding cop read_cop
cop_exact =
    let is_or_is_not = after_maybe is_node (token is_is itself c.Is refl) (maybe false (token is_not yes c.Not refl)) refl in
    let not_in = after not_in_node (token is_not itself c.Not refl) (token is_in itself c.In refl) refl in
    sets begins_cop is_not refl refl (either_of (token is_order order c.Less refl) (either_of is_or_is_not (either_of (token is_in in_node c.In refl) not_in refl) refl) refl)

pub strings_exact : ExactFor Expr strings read_strings false is_str is_str
unfolding strings read_strings
strings_exact = place str_node (sets is_str is_str refl refl (after_maybe pair (token is_str text c.Str refl) (loop (token is_str text c.Str refl) refl) refl))

pub attribute_exact : ExactFor Part attribute read_attribute false is_dot none
unfolding attribute read_attribute
attribute_exact = after attribute_node (token is_dot itself c.Dot refl) (token is_name ident c.Name refl) refl
