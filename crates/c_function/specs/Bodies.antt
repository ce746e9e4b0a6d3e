-- What stands between a function's braces. The project's own profile of C (ISO/IEC 9899:2011 6.9.1).
use Rattle.std.specs.Prelude.{List, [], ◌∷◌, ◌++◌}
use Rattle.std.specs.List.{flat_map, AllByRecursion}
use Rattle.c_token.specs.CTokens.{CToken, sign}
use Rattle.c_tree.specs.Forms.{IsDeclaration, IsLine, LabelsStand}
use Rattle.c_tree.specs.Items.{declaration_spelling, line_spelling}
use Rattle.c_function.specs.declared.functions.Body.{Body}

abbrev pub IsBody : Body → Type 0
IsBody b = AllByRecursion IsDeclaration b.declarations × AllByRecursion IsLine b.lines × LabelsStand b.lines

-- the body, in braces
abbrev pub body_tokens : Body → List CToken
body_tokens b = sign "{" ∷ (flat_map declaration_spelling b.declarations ++ (flat_map line_spelling b.lines ++ (sign "}" ∷ [])))
