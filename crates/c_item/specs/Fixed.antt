-- The tokens of items that are wholly fixed, told one by one. The project's own profile of C (ISO/IEC 9899:2011 6.7, 6.9,
-- 6.10).
use Rattle.std.specs.Prelude.{⊤, List, [], ◌∷◌, ◌++◌, codes}
use Rattle.c_token.specs.CTokens.{CToken, Str, Character, HeaderName, LineEnd, word, sign}
use Rattle.c_tree.specs.declared.item.CItem.{CItem}
use Rattle.c_tree.specs.declared.item.CItem.TheVariants as item

-- the type `cyc_view`
abbrev pub view_tokens : List CToken
view_tokens = word "typedef" ∷ word "struct" ∷ sign "{" ∷ word "PyObject" ∷ sign "*" ∷ word "mv" ∷ sign ";" ∷ word "char" ∷ sign "*" ∷ word "buf" ∷ sign ";" ∷ word "Py_ssize_t" ∷ word "n" ∷ sign "[" ∷ word "3" ∷ sign "]" ∷ sign ";" ∷ word "Py_ssize_t" ∷ word "s" ∷ sign "[" ∷ word "3" ∷ sign "]" ∷ sign ";" ∷ sign "}" ∷ word "cyc_view" ∷ sign ";" ∷ []

-- the struct that each instance begins with
abbrev pub root_tokens : List CToken
root_tokens = word "struct" ∷ word "cyc_root" ∷ sign "{" ∷ word "PyObject_HEAD" ∷ word "const" ∷ word "void" ∷ sign "*" ∷ word "vt" ∷ sign ";" ∷ sign "}" ∷ sign ";" ∷ []

-- the head of the test of a format
abbrev pub test_head : List CToken
test_head = word "static" ∷ word "int" ∷ word "cyc_fmt" ∷ sign "(" ∷ word "const" ∷ word "char" ∷ sign "*" ∷ word "f" ∷ sign "," ∷ word "const" ∷ word "char" ∷ sign "*" ∷ word "set" ∷ sign ")" ∷ []

-- `{ if (f == NULL) f = "B";`
abbrev pub test_null : List CToken
test_null = sign "{" ∷ word "if" ∷ sign "(" ∷ word "f" ∷ sign "==" ∷ word "NULL" ∷ sign ")" ∷ word "f" ∷ sign "=" ∷ Str (codes "B") ∷ sign ";" ∷ []

-- `if (f[0] == '@') f = f + 1;`
abbrev pub test_mark : List CToken
test_mark = word "if" ∷ sign "(" ∷ word "f" ∷ sign "[" ∷ word "0" ∷ sign "]" ∷ sign "==" ∷ Character (codes "@") ∷ sign ")" ∷ word "f" ∷ sign "=" ∷ word "f" ∷ sign "+" ∷ word "1" ∷ sign ";" ∷ []

-- `return f[0] != 0 && f[1] == 0 && strchr(set, f[0]) != NULL; }`
abbrev pub test_end : List CToken
test_end = word "return" ∷ word "f" ∷ sign "[" ∷ word "0" ∷ sign "]" ∷ sign "!=" ∷ word "0" ∷ sign "&&" ∷ word "f" ∷ sign "[" ∷ word "1" ∷ sign "]" ∷ sign "==" ∷ word "0" ∷ sign "&&" ∷ word "strchr" ∷ sign "(" ∷ word "set" ∷ sign "," ∷ word "f" ∷ sign "[" ∷ word "0" ∷ sign "]" ∷ sign ")" ∷ sign "!=" ∷ word "NULL" ∷ sign ";" ∷ sign "}" ∷ []

-- the function that tests a format
abbrev pub test_tokens : List CToken
test_tokens = test_head ++ (test_null ++ (test_mark ++ test_end))

abbrev pub IsFixed : CItem → Type 0
IsFixed item.DefineClean = ⊤
IsFixed item.IncludePython = ⊤
IsFixed item.IncludeSet = ⊤
IsFixed item.ViewType = ⊤
IsFixed item.RootStruct = ⊤
IsFixed _ = ⊥

abbrev pub fixed_tokens : CItem → List CToken
fixed_tokens item.DefineClean = sign "#" ∷ word "define" ∷ word "PY_SSIZE_T_CLEAN" ∷ LineEnd ∷ []
fixed_tokens item.IncludePython = sign "#" ∷ word "include" ∷ HeaderName (codes "Python.h") ∷ LineEnd ∷ []
fixed_tokens item.IncludeSet = sign "#" ∷ word "include" ∷ Str (codes "cyc_set.h") ∷ LineEnd ∷ []
fixed_tokens item.ViewType = view_tokens
fixed_tokens item.RootStruct = root_tokens
fixed_tokens _ = []
