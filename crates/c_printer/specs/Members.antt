-- Parts of a list of members.
use Rattle.std.specs.Prelude.{List, [], ◌∷◌, ◌++◌}
use Rattle.std.specs.List.{flat_map}
use Rattle.c_token.specs.CTokens.{CToken, sign}
use Rattle.c_tree.specs.declared.item.TypeObject.{TypeObject}
use Rattle.c_tree.specs.Names.{text, name_token}
use Rattle.c_tree.specs.Values.{string}

-- members behind others: a comma stands before each
abbrev pub later : List (List CToken) → List CToken
later = flat_map (λ tokens. sign "," ∷ tokens)

-- the members of a type object that always stand
abbrev pub first_three : TypeObject → List CToken
first_three t =
    (text ".tp_name =" ++ (string t.name ∷ []))
    ++ (sign "," ∷ ((text ".tp_basicsize = sizeof(struct" ++ (name_token "cyc_o_" t.size ∷ text ")")) ++ (sign "," ∷ text ".tp_flags = Py_TPFLAGS_DEFAULT | Py_TPFLAGS_BASETYPE")))
