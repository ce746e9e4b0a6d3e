-- What a module breaks, from what is made of it.
use Rattle.std.proofs.Common.{◌≡◌, List, ap, ◌∙◌}
use Rattle.cy_scope.specs.declared.known.Known.{Known}
use Rattle.cy_scope.specs.Declarations.{module_names}
use Rattle.cy_scope.specs.Files.{Module, items, tops}
use Rattle.cy_tree.specs.declared.decl.PxdItem.{PxdItem}
use Rattle.cy_tree.specs.declared.decl.Top.{Top}
use Rattle.cy_tree.specs.declared.set.SourceSet.{SourceSet}
use Rattle.name_table.specs.Entries.{Entry}
use Rattle.name_rules.specs.Breaches.{files_refusals, module_refusals}

pub module-is : (known : Known) (set : SourceSet) (m : Module) (names : List Entry) (is : List PxdItem) (ts : List Top)
    → names ≡ module_names known set m → is ≡ items set m.files → ts ≡ tops set m.files
    → files_refusals known m.files names is ts ≡ module_refusals known set m
unfolding module_refusals
module-is known set m names is ts so these those =
    ap (λ (ns : List Entry). files_refusals known m.files ns is ts) so
    ∙ ap (λ (ps : List PxdItem). files_refusals known m.files (module_names known set m) ps ts) these
    ∙ ap (λ (us : List Top). files_refusals known m.files (module_names known set m) (items set m.files) us) those
