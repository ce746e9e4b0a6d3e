-- Heads of functions, told token by token. The project's own profile of C (Python/C API manual, "Common Object
-- Structures", "Type Objects", "Initializing C modules").
use Rattle.std.specs.Prelude.{◌≡◌, ◌≢◌, ⊤, ℕ, List, [], ◌∷◌, ◌++◌, Option, Some, None}
use Rattle.c_token.specs.CTokens.{CToken, word, sign}
use Rattle.c_tree.specs.declared.item.CHead.{CHead}
use Rattle.c_tree.specs.declared.item.CHead.TheVariants as head
use Rattle.c_tree.specs.declared.item.Parameter.{Parameter}
use Rattle.c_tree.specs.declared.name.FunctionName.{FunctionName}
use Rattle.c_tree.specs.declared.name.FunctionName.TheVariants as function
use Rattle.c_tree.specs.declared.value.CResult.{CResult}
use Rattle.c_tree.specs.Forms.{IsFieldNumber, IsIdentifier, IsNumbered, IsParameter}
use Rattle.c_tree.specs.Items.{function_token}
use Rattle.std.specs.List.{AllByRecursion}
use Rattle.c_function.specs.declared.heads.PlainName.{PlainName}
use Rattle.c_function.specs.declared.heads.PlainName.TheVariants as plain

-- heads behind `static PyObject *`
abbrev pub IsObjectHead : CHead → Type 0
IsObjectHead (head.Wrapper n) = IsNumbered n
IsObjectHead (head.New n) = IsNumbered n
IsObjectHead (head.Item n) = IsNumbered n
IsObjectHead (head.Getter f) = IsFieldNumber f
IsObjectHead _ = ⊥

-- heads behind `static int`
abbrev pub IsIntHead : CHead → Type 0
IsIntHead (head.Init n) = IsNumbered n
IsIntHead (head.Has n) = IsNumbered n
IsIntHead (head.Setter f) = IsFieldNumber f
IsIntHead head.Body = ⊤
IsIntHead _ = ⊥

-- the head behind `static void`
abbrev pub IsDealloc : CHead → Type 0
IsDealloc (head.Dealloc n) = IsNumbered n
IsDealloc _ = ⊥

-- the head behind `static Py_ssize_t`
abbrev pub IsLen : CHead → Type 0
IsLen (head.Len n) = IsNumbered n
IsLen _ = ⊥

-- heads behind `static`
abbrev pub IsStaticHead : CHead → Type 0
IsStaticHead (head.Wrapper n) = IsNumbered n
IsStaticHead (head.New n) = IsNumbered n
IsStaticHead (head.Init n) = IsNumbered n
IsStaticHead (head.Dealloc n) = IsNumbered n
IsStaticHead (head.Len n) = IsNumbered n
IsStaticHead (head.Item n) = IsNumbered n
IsStaticHead (head.Has n) = IsNumbered n
IsStaticHead (head.Getter f) = IsFieldNumber f
IsStaticHead (head.Setter f) = IsFieldNumber f
IsStaticHead head.Body = ⊤
IsStaticHead _ = ⊥

-- the head behind `PyMODINIT_FUNC`
abbrev pub IsInitializer : CHead → Type 0
IsInitializer (head.Initializer name) = IsIdentifier name
IsInitializer _ = ⊥

-- heads of C functions
abbrev pub IsPlainHead : CHead → Type 0
IsPlainHead (head.Plain n kind parameters) = IsNumbered n × AllByRecursion IsParameter parameters
IsPlainHead (head.Overridable n kind parameters) = IsNumbered n × AllByRecursion IsParameter parameters
IsPlainHead _ = ⊥

abbrev pub IsPlainName : PlainName → Type 0
IsPlainName (plain.Plain n) = IsNumbered n
IsPlainName (plain.Overridable n) = IsNumbered n

-- the function that is named so
abbrev pub plain_function : PlainName → FunctionName
plain_function (plain.Plain n) = function.Plain n
plain_function (plain.Overridable n) = function.Overridable n

-- its head
abbrev pub plain_head_of : PlainName → CResult → List Parameter → CHead
plain_head_of (plain.Plain n) kind parameters = head.Plain n kind parameters
plain_head_of (plain.Overridable n) kind parameters = head.Overridable n kind parameters

-- the function's name
abbrev pub function_of : CHead → FunctionName
function_of (head.Plain n kind parameters) = function.Plain n
function_of (head.Overridable n kind parameters) = function.Overridable n
function_of (head.Wrapper n) = function.Wrapper n
function_of (head.New n) = function.New n
function_of (head.Init n) = function.Init n
function_of (head.Dealloc n) = function.Dealloc n
function_of (head.Len n) = function.Len n
function_of (head.Item n) = function.Item n
function_of (head.Has n) = function.Has n
function_of (head.Getter f) = function.Getter f
function_of (head.Setter f) = function.Setter f
function_of head.Body = function.Body
function_of (head.Initializer name) = function.Initializer name

-- what a module's initialisation is named after
abbrev pub initialized_name : FunctionName → Option (List ℕ)
initialized_name (function.Initializer name) = Some name
initialized_name _ = None

-- `(PyObject *self)`
abbrev pub self_parameter : List CToken
self_parameter = sign "(" ∷ word "PyObject" ∷ sign "*" ∷ word "self" ∷ sign ")" ∷ []

-- what stands behind the name
abbrev pub behind_name : CHead → List CToken
behind_name (head.Wrapper n) =
    sign "(" ∷ word "PyObject" ∷ sign "*" ∷ word "self" ∷ sign "," ∷ word "PyObject" ∷ sign "*" ∷ word "const" ∷ sign "*"
    ∷ word "args" ∷ sign "," ∷ word "Py_ssize_t" ∷ word "nargs" ∷ sign ")" ∷ []
behind_name (head.New n) =
    sign "(" ∷ word "PyTypeObject" ∷ sign "*" ∷ word "type" ∷ sign "," ∷ word "PyObject" ∷ sign "*" ∷ word "args" ∷ sign ","
    ∷ word "PyObject" ∷ sign "*" ∷ word "kwds" ∷ sign ")" ∷ []
behind_name (head.Init n) =
    sign "(" ∷ word "PyObject" ∷ sign "*" ∷ word "self" ∷ sign "," ∷ word "PyObject" ∷ sign "*" ∷ word "args" ∷ sign ","
    ∷ word "PyObject" ∷ sign "*" ∷ word "kwds" ∷ sign ")" ∷ []
behind_name (head.Dealloc n) =
    sign "(" ∷ word "PyObject" ∷ sign "*" ∷ word "self" ∷ sign ")" ∷ []
behind_name (head.Len n) =
    sign "(" ∷ word "PyObject" ∷ sign "*" ∷ word "self" ∷ sign ")" ∷ []
behind_name (head.Item n) =
    sign "(" ∷ word "PyObject" ∷ sign "*" ∷ word "self" ∷ sign "," ∷ word "PyObject" ∷ sign "*" ∷ word "k" ∷ sign ")" ∷ []
behind_name (head.Has n) =
    sign "(" ∷ word "PyObject" ∷ sign "*" ∷ word "self" ∷ sign "," ∷ word "PyObject" ∷ sign "*" ∷ word "k" ∷ sign ")" ∷ []
behind_name (head.Getter f) =
    sign "(" ∷ word "PyObject" ∷ sign "*" ∷ word "self" ∷ sign "," ∷ word "void" ∷ sign "*" ∷ word "closure" ∷ sign ")" ∷ []
behind_name (head.Setter f) =
    sign "(" ∷ word "PyObject" ∷ sign "*" ∷ word "self" ∷ sign "," ∷ word "PyObject" ∷ sign "*" ∷ word "value" ∷ sign ","
    ∷ word "void" ∷ sign "*" ∷ word "closure" ∷ sign ")" ∷ []
behind_name head.Body = sign "(" ∷ word "void" ∷ sign ")" ∷ []
behind_name (head.Initializer name) = sign "(" ∷ word "void" ∷ sign ")" ∷ []
behind_name _ = []

abbrev pub named : CHead → List CToken
named h = function_token (function_of h) ∷ behind_name h

-- what stands behind `static`
abbrev pub behind_static : CHead → List CToken
behind_static (head.Wrapper n) = word "PyObject" ∷ sign "*" ∷ named (head.Wrapper n)
behind_static (head.New n) = word "PyObject" ∷ sign "*" ∷ named (head.New n)
behind_static (head.Item n) = word "PyObject" ∷ sign "*" ∷ named (head.Item n)
behind_static (head.Getter f) = word "PyObject" ∷ sign "*" ∷ named (head.Getter f)
behind_static (head.Init n) = word "int" ∷ named (head.Init n)
behind_static (head.Has n) = word "int" ∷ named (head.Has n)
behind_static (head.Setter f) = word "int" ∷ named (head.Setter f)
behind_static head.Body = word "int" ∷ named head.Body
behind_static (head.Dealloc n) = word "void" ∷ named (head.Dealloc n)
behind_static (head.Len n) = word "Py_ssize_t" ∷ named (head.Len n)
behind_static _ = []

-- What stands behind the head's name stood at the front, and the head was given; or it didn't.
abbrev pub Completes : CHead → List CToken → Option CHead → List CToken → Type 0
Completes known old (Some found) new = (found ≡ known) × (old ≡ behind_name known ++ new)
Completes known old None new = (rest : List CToken) → old ≢ behind_name known ++ rest
