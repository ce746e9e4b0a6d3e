use Rattle.std.proofs.Common.{◌≡◌, ◌++◌, drop}
use Rattle.thin_state.specs.State.{first_places}
use Rattle.thin_mach.proofs.linking.first_places.Given as goal

abbrev pub invariant-loop-file : goal.invariant-loop-file
invariant-loop-file l = first_places l.files ≡ l.places.items ++ first_places (drop l.file-index l.files)
