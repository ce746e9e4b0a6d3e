use Rattle.std.proofs.Common.{◌≡◌, [], take}
use Rattle.std.specs.Prelude.{MatchOption}
use Rattle.name_rules.specs.First.{IsFirst}
use Rattle.name_rules.proofs.sooner.first.Given as goal

abbrev pub invariant-loop-refusal : goal.invariant-loop-refusal
invariant-loop-refusal l =
    MatchOption l.found (take l.refusal-index l.refusals ≡ []) (λ refusal. IsFirst refusal (take l.refusal-index l.refusals))
