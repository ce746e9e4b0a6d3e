use Rattle.std.proofs.Common.{◌≡◌, nat_le}
use Rattle.api_model.specs.Answers.{reach}
use Rattle.api_model.proofs.views.is_within.Given as goal

abbrev pub invariant-loop-length : goal.invariant-loop-length
invariant-loop-length l =
    nat_le (reach l.lengths l.strides) 1152921504606846976 ≡ nat_le (reach l.length-iterator.a.rest.now l.length-iterator.b.rest.now) l.left
