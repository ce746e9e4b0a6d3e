use Rattle.std.proofs.Common.{◌≡◌, ap, arith, ℕ, suc, ◌-◌, ◌<◌}
use Rattle.decl_grammar.specs.Reading.{read_inside}
use Rattle.pyx_suite.proofs.nesting.+inside.Goals as goal

deeper : {X : Type 0} (f : ℕ → X) (n : ℕ) → 0 < n → f n ≡ f (suc (n - 1))
deeper f n some = let e : n ≡ suc (n - 1) = omega arith in ap f e

pub returns : goal.returns
unfolding read_inside
returns t c = rw (deeper (λ n. read_inside n c.args.input.now) c.args.room (omega arith)) c.stmts.ensures
