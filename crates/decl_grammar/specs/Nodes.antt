-- The nodes of the trees: what each production makes of its parts. The first byte of a node is that of its first token.
use Rattle.std.specs.Prelude.{ℕ, Bool, List, [], ◌∷◌, Option, Some, None}
use Rattle.pyx_lex.specs.declared.token.Token.{Token}
use Rattle.token_class.specs.declared.class.TokenClass.{TokenClass}
use Rattle.token_class.specs.declared.class.TokenClass.TheVariants as c
use Rattle.cy_tree.specs.declared.content.Content.{Content}
use Rattle.cy_tree.specs.declared.content.Content.TheVariants as content
use Rattle.cy_tree.specs.declared.decl.Access.{Access}
use Rattle.cy_tree.specs.declared.decl.Access.TheVariants as access
use Rattle.cy_tree.specs.declared.decl.CFunction.{CFunction}
use Rattle.cy_tree.specs.declared.decl.CKind.{CKind}
use Rattle.cy_tree.specs.declared.decl.CKind.TheVariants as ckind
use Rattle.cy_tree.specs.declared.decl.Cimport.{Cimport}
use Rattle.cy_tree.specs.declared.decl.Cimport.TheVariants as cimport
use Rattle.cy_tree.specs.declared.decl.ClassBase.{ClassBase}
use Rattle.cy_tree.specs.declared.decl.ClassBase.TheVariants as base
use Rattle.cy_tree.specs.declared.decl.ClauseNode.{ClauseNode}
use Rattle.cy_tree.specs.declared.decl.ClauseNode.TheVariants as clause
use Rattle.cy_tree.specs.declared.decl.Def.{Def}
use Rattle.cy_tree.specs.declared.decl.Header.{Header}
use Rattle.cy_tree.specs.declared.decl.Heading.{Heading}
use Rattle.cy_tree.specs.declared.decl.ImportItem.{ImportItem}
use Rattle.cy_tree.specs.declared.decl.Member.{Member}
use Rattle.cy_tree.specs.declared.decl.Member.TheVariants as member
use Rattle.cy_tree.specs.declared.decl.Param.{Param}
use Rattle.cy_tree.specs.declared.decl.PxdItem.{PxdItem}
use Rattle.cy_tree.specs.declared.decl.PxdItem.TheVariants as pxd_item
use Rattle.cy_tree.specs.declared.decl.PxdMember.{PxdMember}
use Rattle.cy_tree.specs.declared.decl.PxdMember.TheVariants as pxd_member
use Rattle.cy_tree.specs.declared.decl.Top.{Top}
use Rattle.cy_tree.specs.declared.decl.Top.TheVariants as top
use Rattle.cy_tree.specs.declared.expr.Expr.{Expr}
use Rattle.cy_tree.specs.declared.stmt.Arm.{Arm, roll-Arm}
use Rattle.cy_tree.specs.declared.stmt.AugOp.{AugOp}
use Rattle.cy_tree.specs.declared.stmt.AugOp.TheVariants as aug
use Rattle.cy_tree.specs.declared.stmt.Declared.{Declared}
use Rattle.cy_tree.specs.declared.stmt.Handler.{Handler, roll-Handler}
use Rattle.cy_tree.specs.declared.stmt.Line.{Line}
use Rattle.cy_tree.specs.declared.stmt.LockWord.{LockWord}
use Rattle.cy_tree.specs.declared.stmt.LockWord.TheVariants as lock
use Rattle.cy_tree.specs.declared.stmt.Simple.{Simple}
use Rattle.cy_tree.specs.declared.stmt.Simple.TheVariants as simple
use Rattle.cy_tree.specs.declared.stmt.Stmt.{Stmt}
use Rattle.cy_tree.specs.declared.stmt.Stmt.TheVariants as stmt
use Rattle.cy_tree.specs.declared.stmt.Suite.{Suite}
use Rattle.cy_tree.specs.declared.stmt.Suite.TheVariants as suite
use Rattle.cy_tree.specs.declared.types.Ident.{Ident}
use Rattle.cy_tree.specs.declared.types.TypeNode.{TypeNode}
use Rattle.forms.specs.Lists.{Row}
use Rattle.expr_grammar.specs.Nodes.{at, class}

-- ---- simple statements

abbrev pub pass_node : Token → Simple
pass_node x = simple.Pass (at x)

abbrev pub break_node : Token → Simple
break_node x = simple.Break (at x)

abbrev pub continue_node : Token → Simple
continue_node x = simple.Continue (at x)

abbrev pub return_node : Token → Option Expr → Simple
return_node x value = simple.ReturnNode (at x) value

abbrev pub raise_node : Token → Option Expr → Simple
raise_node x value = simple.Raise (at x) value

abbrev pub del_node : Token → List Expr → Simple
del_node x targets = simple.Del (at x) targets

abbrev pub global_node : Token → List Ident → Simple
global_node x names = simple.Global (at x) names

abbrev pub item_node : Ident → Option Ident → ImportItem
item_node name alias = record { name = name; alias = alias }

abbrev pub import_node : Token → List ImportItem → Simple
import_node x items = simple.Import (at x) items

abbrev pub from_import_node : Token → Ident × List ImportItem → Simple
from_import_node x p = simple.FromImport (at x) p.0 p.1

abbrev pub declared_node : Ident → Option Expr → Declared
declared_node name value = record { name = name; value = value }

-- a perhaps typed name
abbrev pub Typed : Type 0
Typed = Option TypeNode × Ident

-- the value of the first name, and the other names
abbrev pub Values : Type 0
Values = Option Expr × List Declared

abbrev pub all_declared : Ident → Values → List Declared
all_declared name v = declared_node name v.0 ∷ v.1

abbrev pub cdef_node : Token → Typed × Values → Simple
cdef_node x p = simple.Cdef (at x) p.0.0 (all_declared p.0.1 p.1)

abbrev pub aug_of : TokenClass → AugOp
aug_of c.PlusAssign = aug.Add
aug_of c.MinusAssign = aug.Subtract
aug_of c.StarAssign = aug.Multiply
aug_of c.SlashAssign = aug.Divide
aug_of c.FloorDivideAssign = aug.FloorDivide
aug_of c.PercentAssign = aug.Remainder
aug_of c.ShiftLeftAssign = aug.LeftShift
aug_of c.ShiftRightAssign = aug.RightShift
aug_of c.AmpersandAssign = aug.BitAnd
aug_of c.BarAssign = aug.BitOr
aug_of _ = aug.BitXor

-- What stands behind an expression makes a statement of it.
abbrev pub expression_node : Expr → Simple
expression_node target = simple.Expression target

abbrev pub augmented_node : Token → Expr → Expr → Simple
augmented_node x value target = simple.Augmented target (aug_of (class x)) (at x) value

-- all but the last
abbrev pub front_of : Expr → List Expr → List Expr
front_of first [] = []
front_of first (next ∷ more) = first ∷ front_of next more

abbrev pub last_of : Expr → List Expr → Expr
last_of first [] = first
last_of first (next ∷ more) = last_of next more

-- The last expression is the value, those before it are the targets.
abbrev pub assign_node : Expr → List Expr → Expr → Simple
assign_node next more target = simple.Assign (target ∷ front_of next more) (last_of next more)

abbrev pub line_node : Row Simple → Token → Line
line_node row x = record { simples = row.0 }

-- ---- suites and statements

abbrev pub inline_node : Line → Suite
inline_node line = suite.Inline line

abbrev pub block_node : List Stmt → Token → Suite
block_node statements x = suite.Block statements

abbrev pub simples_node : Line → Stmt
simples_node line = stmt.Simples line

abbrev pub arm_node : Token → Expr × Suite → Arm
arm_node x p = roll-Arm (record { at = at x; test = p.0; body = p.1 })

abbrev pub if_node : Token → (Expr × Suite) × List Arm × Option Suite → Stmt
if_node x p = stmt.IfNode (at x) (arm_node x p.0 ∷ p.1) p.2

abbrev pub while_node : Token → (Expr × Suite) × Option Suite → Stmt
while_node x p = stmt.WhileNode (at x) p.0.0 p.0.1 p.1

abbrev pub for_node : Token → Expr × (Expr × Suite) × Option Suite → Stmt
for_node x p = stmt.ForNode (at x) p.0 p.1.0 p.1.1 p.2

-- a type, and perhaps a name behind `as`
abbrev pub Caught : Type 0
Caught = Option (Expr × Option Ident)

abbrev pub kind_of : Caught → Option Expr
kind_of None = None
kind_of (Some p) = Some p.0

abbrev pub name_of : Caught → Option Ident
name_of None = None
name_of (Some p) = p.1

abbrev pub handler_node : Token → Caught × Suite → Handler
handler_node x p = roll-Handler (record { at = at x; kind = kind_of p.0; name = name_of p.0; body = p.1 })

-- the handlers, and the suites of `else` and `finally`
abbrev pub Handled : Type 0
Handled = List Handler × Option Suite × Option Suite

abbrev pub unhandled : Suite → Handled
unhandled last = ([], None, Some last)

abbrev pub try_node : Token → Suite × Handled → Stmt
try_node x p = stmt.Try (at x) p.0 p.1.0 p.1.1 p.1.2

abbrev pub lock_of : TokenClass → LockWord
lock_of c.Nogil = lock.Nogil
lock_of _ = lock.Gil

abbrev pub lock_word : Token → LockWord
lock_word x = lock_of (class x)

abbrev pub with_node : Token → LockWord × Suite → Stmt
with_node x p = stmt.With (at x) p.0 p.1

-- ---- headers

abbrev pub not_none : Token → Token → ℕ
not_none x y = at x

abbrev pub param_node : Typed → Option ℕ × Option Expr → Param
param_node t p = record { kind = t.0; name = t.1; not_none = p.0; default = p.1 }

abbrev pub param_list : Token → Row Param → List Param
param_list x row = row.0

abbrev pub star_node : Token → Token → ClauseNode
star_node x y = clause.Star (at x)

-- the first byte of a value, whether it stands behind `-`, and its digits
abbrev pub Amount : Type 0
Amount = ℕ × Bool × ℕ

abbrev pub signed : Token → Bool × ℕ → Amount
signed x p = (at x, p.0, p.1)

abbrev pub value_node : Token → Bool × Amount → ClauseNode
value_node x p = clause.Value (at x) p.0 p.1.0 p.1.1 p.1.2

abbrev pub noexcept_node : Token → ClauseNode
noexcept_node x = clause.Noexcept (at x)

-- the exception clause, and the first byte of `nogil`
abbrev pub Marks : Type 0
Marks = Option ClauseNode × Option ℕ

abbrev pub nogil_first : ℕ → ClauseNode → Marks
nogil_first word given = (Some given, Some word)

abbrev pub header_node : List Param → Marks → Header
header_node params marks = record { params = params; clause = marks.0; nogil = marks.1 }

abbrev pub heading_node : CKind → ℕ → Typed → Header → Heading
heading_node kind start t header = record { at = start; kind = kind; result = t.0; name = t.1; header = header }

abbrev pub c_function : CKind → ℕ → Typed → Header → Suite → CFunction
c_function kind start t header body = record { heading = heading_node kind start t header; body = body }

abbrev pub def_node : Token → Ident × List Param × Suite → Def
def_node x p = record { at = at x; name = p.0; params = p.1; body = p.2 }

-- ---- classes

abbrev pub base_node : Ident → Option Ident → ClassBase
base_node a None = base.Named a
base_node a (Some b) = base.Member a b

-- the name, the base and the members of a class
abbrev pub Body : Type 0 → Type 0
Body A = Ident × Option ClassBase × List A

abbrev pub alone : {A : Type 0} → A → Token → List A
alone a x = a ∷ []

-- the first byte of `cdef`, and the name behind it, for what stands behind that
abbrev pub Behind : Type 0 → Type 0
Behind A = ℕ → Typed → A

abbrev pub declared_by : {A : Type 0} → Token → Typed × Behind A → A
declared_by x p = p.1 (at x) p.0

-- whether a field is public, its type, and the names
abbrev pub Open : Type 0
Open = Access × TypeNode × List Ident

abbrev pub access_of : TokenClass → Access
access_of c.Public = access.Public
access_of _ = access.Readonly

abbrev pub access_word : Token → Access
access_word x = access_of (class x)

abbrev pub pass_member : Token → Member
pass_member x = member.Pass (at x)

abbrev pub docstring_node : Token → List ℕ → Member
docstring_node x t = member.Docstring (at x) t

abbrev pub def_member : Def → Member
def_member d = member.Def d

abbrev pub open_fields : Token → Open → Member
open_fields x p = member.OpenFields (at x) p.0 p.1 p.2

abbrev pub fields : List Ident → Token → Behind Member
fields more y start t = member.Fields start t.0 (t.1 ∷ more)

abbrev pub method : Header → Suite → Behind Member
method header body start t = member.Method (c_function ckind.Cdef start t header body)

abbrev pub cpdef_method : Token → Typed × Header × Suite → Member
cpdef_method x p = member.Method (c_function ckind.Cpdef (at x) p.0 p.1 p.2)

-- ---- files

abbrev pub module_cimport : Token → ImportItem → Cimport
module_cimport x item = cimport.Module (at x) item

abbrev pub from_cimport : Token → Ident × List ImportItem → Cimport
from_cimport x p = cimport.From (at x) p.0 p.1

abbrev pub class_node : Token → Body Member → Top
class_node x p = top.Class (record { at = at x; name = p.0; base = p.1; members = p.2 })

abbrev pub function : Header → Suite → Behind Top
function header body start t = top.Function (c_function ckind.Cdef start t header body)

abbrev pub variables : Values → Token → Behind Top
variables v y start t = top.Variables (record { at = start; kind = t.0; names = all_declared t.1 v })

abbrev pub cpdef_function : Token → Typed × Header × Suite → Top
cpdef_function x p = top.Function (c_function ckind.Cpdef (at x) p.0 p.1 p.2)

abbrev pub cimport_top : Cimport → Top
cimport_top c = top.Cimport c

abbrev pub def_top : Def → Top
def_top d = top.Def d

abbrev pub stmt_top : Stmt → Top
stmt_top s = top.Stmt s

abbrev pub implementation_node : List Top → Token → Content
implementation_node tops x = content.Implementation tops

-- ---- definition files

abbrev pub pxd_pass_member : Token → PxdMember
pxd_pass_member x = pxd_member.Pass (at x)

abbrev pub pxd_open_fields : Token → Open → PxdMember
pxd_open_fields x p = pxd_member.OpenFields (at x) p.0 p.1 p.2

abbrev pub pxd_fields : List Ident → Token → Behind PxdMember
pxd_fields more y start t = pxd_member.Fields start t.0 (t.1 ∷ more)

abbrev pub pxd_method : Header → Token → Behind PxdMember
pxd_method header y start t = pxd_member.Method (heading_node ckind.Cdef start t header)

abbrev pub pxd_cpdef_method : Token → Typed × Header → PxdMember
pxd_cpdef_method x p = pxd_member.Method (heading_node ckind.Cpdef (at x) p.0 p.1)

abbrev pub pxd_cimport : Cimport → PxdItem
pxd_cimport c = pxd_item.Cimport c

abbrev pub pxd_pass : Token → Token → PxdItem
pxd_pass x y = pxd_item.Pass (at x)

abbrev pub pxd_class : Token → Body PxdMember → PxdItem
pxd_class x p = pxd_item.Class (record { at = at x; name = p.0; base = p.1; members = p.2 })

abbrev pub kind_word_of : TokenClass → CKind
kind_word_of c.Cdef = ckind.Cdef
kind_word_of _ = ckind.Cpdef

abbrev pub pxd_function : Token → Typed × Header → PxdItem
pxd_function x p = pxd_item.Function (heading_node (kind_word_of (class x)) (at x) p.0 p.1)

abbrev pub definition_node : List PxdItem → Token → Content
definition_node items x = content.Definition items
