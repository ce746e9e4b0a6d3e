use Rattle.std.proofs.Common.{ap, sym, ◌∙◌}
use Rattle.cy_tree.specs.declared.ty.Ty.{Ty}
use Rattle.cy_tree.specs.declared.ty.Ty.TheVariants as ty
use Rattle.cy_tree.specs.Bases.{class_eq, is_base}
use Rattle.cy_tree.specs.Coercions.{coercion_of}
use Rattle.cy_coerce.proofs.Rows.{class_rows}
use Rattle.cy_coerce.proofs.to_class.Goals as goal

pub returns-in-Class : goal.returns-in-Class
returns-in-Class c =
    let set = c.args.set.now in
    let from = c.in-Class.below in
    let to = c.args.to in
    c.class_to_class.ensures
    ∙ class_rows (class_eq from to) (is_base set to from) (is_base set from to) to
    ∙ ap (λ (t : Ty). coercion_of set t (ty.Class to)) (sym c.in-Class.is)
