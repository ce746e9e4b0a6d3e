-- The nodes of the trees: what each production makes of its parts. The first byte of a node is that of its first token.
use Rattle.std.specs.Prelude.{ℕ, Bool, true, false, List, [], ◌∷◌, ◌++◌, Option, Some, None}
use Rattle.pyx_lex.specs.declared.token.Token.{Token}
use Rattle.pyx_lex.specs.declared.token.TokenKind.{TokenKind}
use Rattle.pyx_lex.specs.declared.token.TokenKind.TheVariants as kind
use Rattle.token_class.specs.declared.class.TokenClass.{TokenClass}
use Rattle.token_class.specs.declared.class.TokenClass.TheVariants as c
use Rattle.token_class.specs.Classes.{class_of}
use Rattle.cy_tree.specs.declared.expr.Comparison.{Comparison}
use Rattle.cy_tree.specs.declared.expr.Comparison.TheVariants as comparison
use Rattle.cy_tree.specs.declared.expr.ShiftOp.{ShiftOp}
use Rattle.cy_tree.specs.declared.expr.ShiftOp.TheVariants as shift
use Rattle.cy_tree.specs.declared.expr.SumOp.{SumOp}
use Rattle.cy_tree.specs.declared.expr.SumOp.TheVariants as sum
use Rattle.cy_tree.specs.declared.expr.TermOp.{TermOp}
use Rattle.cy_tree.specs.declared.expr.TermOp.TheVariants as term
use Rattle.cy_tree.specs.declared.expr.UnaryOp.{UnaryOp}
use Rattle.cy_tree.specs.declared.expr.UnaryOp.TheVariants as unary
use Rattle.cy_tree.specs.declared.expr.Expr.{Expr}
use Rattle.cy_tree.specs.declared.expr.Expr.TheVariants as e
use Rattle.cy_tree.specs.declared.expr.Part.{Part}
use Rattle.cy_tree.specs.declared.expr.Part.TheVariants as part
use Rattle.cy_tree.specs.declared.expr.Index.{Index}
use Rattle.cy_tree.specs.declared.expr.Index.TheVariants as index
use Rattle.cy_tree.specs.declared.types.Ident.{Ident}
use Rattle.cy_tree.specs.declared.types.NumberWords.{NumberWords}
use Rattle.cy_tree.specs.declared.types.NumberWords.TheVariants as number
use Rattle.cy_tree.specs.declared.types.TypeName.{TypeName}
use Rattle.cy_tree.specs.declared.types.TypeName.TheVariants as name
use Rattle.cy_tree.specs.declared.types.Dim.{Dim}
use Rattle.cy_tree.specs.declared.types.TypeNode.{TypeNode}
use Rattle.expr_grammar.specs.declared.Longs.{Longs}
use Rattle.expr_grammar.specs.declared.Longs.TheVariants as longs
use Rattle.forms.specs.Lists.{Row}

-- ---- tokens

abbrev pub at : Token → ℕ
at x = x.span.start

abbrev pub class : Token → TokenClass
class x = class_of x.kind

-- of the first byte of a token
abbrev pub from : {A B : Type 0} → (ℕ → A → B) → Token → A → B
from f x a = f (at x) a

abbrev pub text_of : TokenKind → List ℕ
text_of (kind.Name text) = text
text_of (kind.Str text) = text
text_of _ = []

abbrev pub number_of : TokenKind → ℕ
number_of (kind.Int n) = n
number_of _ = 0

abbrev pub text : Token → List ℕ
text x = text_of x.kind

abbrev pub ident : Token → Ident
ident x = record { at = at x; text = text x }

-- ---- types

abbrev pub lone_of : TokenClass → NumberWords
lone_of c.PySsizeT = number.PySsizeT
lone_of c.SizeT = number.SizeT
lone_of c.Bint = number.Bint
lone_of _ = number.Void

abbrev pub lone : Token → NumberWords
lone x = lone_of (class x)

abbrev pub yes : Token → Bool
yes x = true

abbrev pub short_node : Token → Bool → NumberWords
short_node x true = number.ShortInt
short_node x false = number.Short

abbrev pub second_long : Token → Bool → Longs
second_long x true = longs.LongInt
second_long x false = longs.Long

abbrev pub long_words : Longs → NumberWords
long_words longs.Bare = number.Long
long_words longs.Int = number.LongInt
long_words longs.Long = number.LongLong
long_words longs.LongInt = number.LongLongInt

abbrev pub long_node : Token → Longs → NumberWords
long_node x l = long_words l

abbrev pub unsigned_short : Token → Bool → NumberWords
unsigned_short x true = number.UnsignedShortInt
unsigned_short x false = number.UnsignedShort

abbrev pub unsigned_long_words : Longs → NumberWords
unsigned_long_words longs.Bare = number.UnsignedLong
unsigned_long_words longs.Int = number.UnsignedLongInt
unsigned_long_words longs.Long = number.UnsignedLongLong
unsigned_long_words longs.LongInt = number.UnsignedLongLongInt

abbrev pub unsigned_long : Token → Longs → NumberWords
unsigned_long x l = unsigned_long_words l

abbrev pub number_node : NumberWords → Unit {0} → TypeName
number_node words u = name.Number words

abbrev pub named_node : Ident → Option Ident → TypeName
named_node a None = name.Named a
named_node a (Some b) = name.Member a b

abbrev pub some : {A : Type 0} → A → Unit {0} → Option A
some a u = Some a

abbrev pub dim_node : Token → Option ℕ → Dim
dim_node x step = record { at = at x; step = step }

abbrev pub int_of : Token → ℕ
int_of x = number_of x.kind

abbrev pub cons : {A : Type 0} → A → List A → List A
cons x xs = x ∷ xs

abbrev pub type_node : Token → Bool × TypeName × List Dim → TypeNode
type_node x t = record { at = at x; constant = t.0; name = t.1; dims = t.2 }

abbrev pub triple : {A B C : Type 0} → A → B × C → A × B × C
triple a b = (a, b.0, b.1)

-- ---- atoms

abbrev pub name_node : Token → Expr
name_node x = e.Name (ident x)

abbrev pub int_node : Token → Expr
int_node x = e.Int (at x) (number_of x.kind)

abbrev pub none_node : Token → Expr
none_node x = e.NoneNode (at x)

abbrev pub true_node : Token → Expr
true_node x = e.TrueNode (at x)

abbrev pub false_node : Token → Expr
false_node x = e.FalseNode (at x)

-- Adjacent strings join.
abbrev pub joined : List (List ℕ) → List ℕ
joined [] = []
joined (t ∷ ts) = t ++ joined ts

abbrev pub str_node : Token → List ℕ × List (List ℕ) → Expr
str_node x t = e.Str (at x) (t.0 ++ joined t.1)

-- `(e)` is e; `(e,)`, `()` and more than one are tuples
abbrev pub group_node : ℕ → Row Expr → Expr
group_node start ([], comma) = e.Tuple start []
group_node start (a ∷ [], false) = a
group_node start (a ∷ [], true) = e.Tuple start (a ∷ [])
group_node start (a ∷ b ∷ more, comma) = e.Tuple start (a ∷ b ∷ more)

abbrev pub list_node : Token → Row Expr → Expr
list_node x row = e.ListNode (at x) row.0

abbrev pub dict_node : Token → Row (Expr × Expr) → Expr
dict_node x row = e.Dict (at x) row.0

-- ---- parts

abbrev pub attribute_node : Token → Ident → Part
attribute_node x a = part.Attribute (at x) a

abbrev pub call_node : Token → Row Expr → Part
call_node x row = part.Call (at x) row.0

abbrev pub item_node : Token → Row Index → Part
item_node x row = part.Item (at x) row.0

abbrev pub low_slice : Token → Option Expr → Index
low_slice x high = index.Slice (at x) None high

abbrev pub index_node : ℕ → Expr × Option (Option Expr) → Index
index_node start (a, None) = index.One a
index_node start (a, Some high) = index.Slice start (Some a) high

-- ---- levels; with one operand a level is that operand

abbrev pub postfix_node : ℕ → Expr × List Part → Expr
postfix_node start (a, []) = a
postfix_node start (a, p ∷ ps) = e.Postfix start a (p ∷ ps)

abbrev pub prefix_of : TokenClass → UnaryOp
prefix_of c.Minus = unary.Negate
prefix_of c.Plus = unary.Plus
prefix_of _ = unary.Invert

abbrev pub prefix_node : Token → Expr → Expr
prefix_node x a = e.Unary (at x) (prefix_of (class x)) a

abbrev pub cast_node : Token → TypeNode × Bool × Expr → Expr
cast_node x t = e.Cast (at x) t.0 t.1 t.2

abbrev pub term_of : TokenClass → TermOp
term_of c.Star = term.Multiply
term_of c.Slash = term.Divide
term_of c.FloorDivide = term.FloorDivide
term_of _ = term.Remainder

abbrev pub term_operand : Token → Expr → TermOp × ℕ × Expr
term_operand x a = (term_of (class x), at x, a)

abbrev pub term_node : ℕ → Expr × List (TermOp × ℕ × Expr) → Expr
term_node start (a, []) = a
term_node start (a, b ∷ bs) = e.Term start a (b ∷ bs)

abbrev pub sum_of : TokenClass → SumOp
sum_of c.Plus = sum.Add
sum_of _ = sum.Subtract

abbrev pub sum_operand : Token → Expr → SumOp × ℕ × Expr
sum_operand x a = (sum_of (class x), at x, a)

abbrev pub sum_node : ℕ → Expr × List (SumOp × ℕ × Expr) → Expr
sum_node start (a, []) = a
sum_node start (a, b ∷ bs) = e.Sum start a (b ∷ bs)

abbrev pub shift_of : TokenClass → ShiftOp
shift_of c.ShiftLeft = shift.Left
shift_of _ = shift.Right

abbrev pub shift_operand : Token → Expr → ShiftOp × ℕ × Expr
shift_operand x a = (shift_of (class x), at x, a)

abbrev pub shift_node : ℕ → Expr × List (ShiftOp × ℕ × Expr) → Expr
shift_node start (a, []) = a
shift_node start (a, b ∷ bs) = e.Shift start a (b ∷ bs)

abbrev pub operand : Token → Expr → ℕ × Expr
operand x a = (at x, a)

abbrev pub bit_and_node : ℕ → Expr × List (ℕ × Expr) → Expr
bit_and_node start (a, []) = a
bit_and_node start (a, b ∷ bs) = e.BitAnd start a (b ∷ bs)

abbrev pub bit_xor_node : ℕ → Expr × List (ℕ × Expr) → Expr
bit_xor_node start (a, []) = a
bit_xor_node start (a, b ∷ bs) = e.BitXor start a (b ∷ bs)

abbrev pub bit_or_node : ℕ → Expr × List (ℕ × Expr) → Expr
bit_or_node start (a, []) = a
bit_or_node start (a, b ∷ bs) = e.BitOr start a (b ∷ bs)

abbrev pub order_of : TokenClass → Comparison
order_of c.Less = comparison.Less
order_of c.LessEqual = comparison.LessEqual
order_of c.Equal = comparison.Equal
order_of c.NotEqual = comparison.NotEqual
order_of c.Greater = comparison.Greater
order_of _ = comparison.GreaterEqual

abbrev pub order : Token → Comparison × ℕ
order x = (order_of (class x), at x)

abbrev pub is_node : Token → Bool → Comparison × ℕ
is_node x true = (comparison.IsNot, at x)
is_node x false = (comparison.Is, at x)

abbrev pub in_node : Token → Comparison × ℕ
in_node x = (comparison.In, at x)

abbrev pub not_in_node : Token → Token → Comparison × ℕ
not_in_node x y = (comparison.NotIn, at x)

abbrev pub compare_node : ℕ → Expr × Option ((Comparison × ℕ) × Expr) → Expr
compare_node start (a, None) = a
compare_node start (a, Some b) = e.Compare start a b.0.0 b.0.1 b.1

abbrev pub not_node : Token → Expr → Expr
not_node x a = e.Not (at x) a

abbrev pub and_node : ℕ → Expr × List Expr → Expr
and_node start (a, []) = a
and_node start (a, b ∷ bs) = e.And start (a ∷ b ∷ bs)

abbrev pub or_node : ℕ → Expr × List Expr → Expr
or_node start (a, []) = a
or_node start (a, b ∷ bs) = e.Or start (a ∷ b ∷ bs)

-- `value if test else otherwise`
abbrev pub conditional_node : ℕ → Expr × Option (Expr × Expr) → Expr
conditional_node start (a, None) = a
conditional_node start (a, Some b) = e.Conditional start a b.0 b.1
