use Rattle.std.proofs.Common.{◌≡◌, ap, arith, ℕ, suc, ◌-◌, ◌<◌}
use Rattle.expr_grammar.specs.Reading.{reads}
use Rattle.pyx_parse.proofs.reading.+read.Goals as goal

deeper : {X : Type 0} (f : ℕ → X) (n : ℕ) → 0 < n → f n ≡ f (suc (n - 1))
deeper f n some = let e : n ≡ suc (n - 1) = omega arith in ap f e

pub by_level-requires : goal.by_level-requires
by_level-requires t c = record { callable = λ h. cc; reads_so = λ h. cc }

pub returns-else-room-eq0 : goal.returns-else-room-eq0
returns-else-room-eq0 t c = rw (deeper (λ n. reads n c.args.level c.args.input.now) c.args.room (omega arith)) c.by_level-else-room-eq0.ensures
