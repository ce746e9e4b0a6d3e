use Rattle.std.proofs.Common.{◌∙◌, ap, sym}
use Rattle.std.proofs.lemmas.List.{map-id}
use Rattle.cy_declared.specs.Named.{number_of, numbered}
use Rattle.cy_declared.specs.Shown.{class_refs}
use Rattle.cy_declared.specs.Tables.{class_table}
use Rattle.name_table.specs.Entries.{kind_among}
use Rattle.cy_declared.proofs.Numbered.{found-first}
use Rattle.cy_declared.proofs.class.class_named.Goals as goal

pub returns : goal.returns
returns c =
    let cs = class_refs c.args.classes.now in
    let name = c.args.name.now in
    c.find_class.ensures
    ∙ ap (λ t. numbered cs (number_of (kind_among t name))) c.requires
    ∙ ap (λ xs. numbered xs (number_of (kind_among (class_table cs) name))) (sym (map-id cs))
    ∙ found-first (λ d. d.name.text) (λ d. d) cs name
