use Rattle.std.proofs.Common.{sym, ◌∙◌, ◌++◌}
use Rattle.std.specs.Prelude.{codes}
use Rattle.c_tree.specs.declared.name.FunctionName.TheVariants as function
use Rattle.c_function.proofs.HeadRows.{one_word}
use Rattle.c_function.proofs.heads.initialized.Goals as goal

pub returns-in-None-clause-every : goal.returns-in-None-clause-every
returns-in-None-clause-every c = λ x rest form e.
    let same = one_word (codes "PyInit_" ++ x) c.in-Some.word.now _ _ (sym e ∙ c.in-Some.ensures.some) in
    absurd (cc (c.in-None.is, c.in_ok-found.ensures.every (function.Initializer x) form same))
