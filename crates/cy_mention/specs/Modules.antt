-- What the items of a file say of names in their module's scope, the names that they declare, and the functions (Cython documentation,
-- "Language Basics", "Sharing Declarations Between Cython Modules").
use Rattle.std.specs.Prelude.{List, [], ◌∷◌, map}
use Rattle.std.specs.List.{flat_map}
use denote.Ref.{Bor}
use Rattle.cy_tree.specs.declared.decl.Cimport.{Cimport}
use Rattle.cy_tree.specs.declared.decl.Cimport.TheVariants as cimport
use Rattle.cy_tree.specs.declared.decl.Member.{Member}
use Rattle.cy_tree.specs.declared.decl.Member.TheVariants as member
use Rattle.cy_tree.specs.declared.decl.Param.{Param}
use Rattle.cy_tree.specs.declared.decl.PxdItem.{PxdItem}
use Rattle.cy_tree.specs.declared.decl.PxdItem.TheVariants as item
use Rattle.cy_tree.specs.declared.decl.Top.{Top}
use Rattle.cy_tree.specs.declared.decl.Top.TheVariants as top
use Rattle.cy_tree.specs.declared.stmt.Suite.{Suite}
use Rattle.cy_tree.specs.declared.types.Ident.{Ident}
use Rattle.cy_tree.specs.Functions.{Function, PythonFunction, CythonFunction}
use Rattle.cy_mention.specs.Mentions.{Mention, Target, Bound, Declares, Globals, alias_or, stmt_mentions, suite_mentions}
use Rattle.cy_mention.specs.Trees.{member_own, heading_mentions, param_mentions, variables_mentions, item_mentions}

-- A class says the types of its fields and those in its methods' headings; a function those in its heading.
abbrev pub member_said : Member → List Mention
member_said (member.Def d) = flat_map param_mentions d.params
member_said (member.Method f) = heading_mentions f.heading
member_said m = member_own m

abbrev pub top_said : Top → List Mention
top_said (top.Cimport c) = []
top_said (top.Class c) = flat_map member_said c.members
top_said (top.Function f) = heading_mentions f.heading
top_said (top.Variables v) = variables_mentions v
top_said (top.Def d) = flat_map param_mentions d.params
top_said (top.Stmt s) = stmt_mentions s

-- what the items of a `.pyx` say outside of functions
abbrev pub module_said : List Top → List Mention
module_said tops = flat_map top_said tops

-- what those of a `.pxd` say
abbrev pub items_said : List PxdItem → List Mention
items_said items = flat_map item_mentions items

-- ---- names that mentions speak of

-- the names that `cdef` declares
abbrev pub declared_by : Mention → List Ident
declared_by (Declares i) = i ∷ []
declared_by _ = []

-- the names that a mention makes local to a function
abbrev pub made_local : Mention → List Ident
made_local (Target i) = i ∷ []
made_local (Bound i) = i ∷ []
made_local (Declares i) = i ∷ []
made_local _ = []

abbrev pub made_global : Mention → List Ident
made_global (Globals i) = i ∷ []
made_global _ = []

-- ---- names that items declare, in text order

abbrev pub cimport_names : Cimport → List Ident
cimport_names (cimport.Module at i) = alias_or i.alias i.name ∷ []
cimport_names (cimport.From at outer is) = map (λ i. alias_or i.alias i.name) is

-- C variables
abbrev pub variables_of : Top → List Ident
variables_of (top.Variables v) = map (λ d. d.name) v.names
variables_of (top.Stmt s) = flat_map declared_by (stmt_mentions s)
variables_of _ = []

abbrev pub top_names : Top → List Ident
top_names (top.Cimport x) = cimport_names x
top_names (top.Class c) = c.name ∷ []
top_names (top.Function f) = f.heading.name ∷ []
top_names (top.Variables v) = variables_of (top.Variables v)
top_names (top.Def d) = d.name ∷ []
top_names (top.Stmt s) = variables_of (top.Stmt s)

abbrev pub top_cimports : Top → List Cimport
top_cimports (top.Cimport c) = c ∷ []
top_cimports _ = []

abbrev pub class_names : Top → List Ident
class_names (top.Class c) = c.name ∷ []
class_names _ = []

abbrev pub def_names : Top → List Ident
def_names (top.Def d) = d.name ∷ []
def_names _ = []

abbrev pub item_cimports : PxdItem → List Cimport
item_cimports (item.Cimport x) = x ∷ []
item_cimports _ = []

-- the classes and functions that a `.pxd` declares
abbrev pub shared_names : PxdItem → List Ident
shared_names (item.Class x) = x.name ∷ []
shared_names (item.Function h) = h.name ∷ []
shared_names _ = []

abbrev pub item_names : PxdItem → List Ident
item_names (item.Cimport x) = cimport_names x
item_names (item.Pass at) = []
item_names (item.Class x) = x.name ∷ []
item_names (item.Function h) = h.name ∷ []

-- ---- functions

abbrev pub params_of : Function → List Param
params_of (PythonFunction d) = d.params
params_of (CythonFunction f) = f.heading.header.params

abbrev pub body_of : Function → Suite
body_of (PythonFunction d) = d.body
body_of (CythonFunction f) = f.body

abbrev pub parameters : List Param → List Ident
parameters params = map (λ p. p.name) params

-- what the body of a function says
abbrev pub mentions_of : Function → List Mention
mentions_of f = suite_mentions (body_of f)

-- ---- references

abbrev pub idents : List (Bor Ident) → List Ident
idents refs = map (λ r. r.now) refs

abbrev pub cimports : List (Bor Cimport) → List Cimport
cimports refs = map (λ r. r.now) refs
