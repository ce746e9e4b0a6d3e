use Rattle.std.proofs.Common.{Some, drop, sym, ap, ◌∙◌}
use Rattle.c_tree.specs.declared.item.CFunction.{CFunction}
use Rattle.c_frame.proofs.Following.{label_line-none, label_line-some}
use Rattle.c_frame.proofs.code.Code.behind.Goals as goal

pub returns-in-None : goal.returns-in-None
returns-in-None c = label_line-none c.args.function.now.lines c.args.label (sym c.label.ensures ∙ c.in-None.is)

pub returns-in_ok-share-in-Some : goal.returns-in_ok-share-in-Some
returns-in_ok-share-in-Some c =
    ap (λ (f : CFunction). Some (drop c.in-Some.from f.lines)) c.in_ok-share-in-Some.ensures
    ∙ label_line-some c.args.function.now.lines c.args.label c.in-Some.from (sym c.label.ensures ∙ c.in-Some.is)
