use Rattle.std.proofs.Common.{◌≢◌, ℕ, ◌<◌, get_or, map}
use Rattle.thin_source.proofs.is_among.Given as goal

abbrev pub invariant-loop-entry : goal.invariant-loop-entry
invariant-loop-entry l = (k : ℕ) → k < l.entry-index → get_or (map (λ w. w.now) l.words) k l.word ≢ l.word
