-- What makes the locals of a function.
use Rattle.std.proofs.Common.{◌≡◌, ℕ, List, [], ◌++◌, ap, ◌∙◌}
use Rattle.std.specs.List.{flat_map}
use Rattle.cy_tree.specs.Functions.{Function}
use Rattle.cy_tree.specs.declared.types.Ident.{Ident}
use Rattle.name_table.specs.Entries.{Entry, numbered, once, texts}
use Rattle.cy_mention.specs.Mentions.{Mention}
use Rattle.cy_mention.specs.Modules.{made_local, mentions_of, parameters, params_of}
use Rattle.cy_scope.specs.Declarations.{function_names, globals_of, unless_global}

pub locals-are : (f : Function) (said : List Mention) (globals : List Entry) (names : List Ident)
    → said ≡ mentions_of f → texts globals ≡ globals_of said → names ≡ parameters (params_of f) ++ flat_map made_local said
    → numbered 0 (once [] (unless_global (texts globals) names)) ≡ function_names f
locals-are f said globals names all by are =
    ap (λ (gs : List (List ℕ)). numbered 0 (once [] (unless_global gs names))) by
    ∙ ap (λ (is : List Ident). numbered 0 (once [] (unless_global (globals_of said) is))) are
    ∙ ap (λ (ms : List Mention). numbered 0 (once [] (unless_global (globals_of ms) (parameters (params_of f) ++ flat_map made_local ms)))) all
