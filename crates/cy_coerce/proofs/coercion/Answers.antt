use Rattle.std.proofs.Common.{ap, sym, ◌∙◌}
use Rattle.cy_tree.specs.declared.ty.Ty.{Ty}
use Rattle.cy_tree.specs.Coercions.{coercion_of}
use Rattle.cy_coerce.proofs.coercion.Goals as goal

pub returns-in-Num : goal.returns-in-Num
returns-in-Num c =
    c.to_number.ensures c.args.set.now ∙ ap (λ (t : Ty). coercion_of c.args.set.now c.args.from t) (sym c.in-Num.is)
