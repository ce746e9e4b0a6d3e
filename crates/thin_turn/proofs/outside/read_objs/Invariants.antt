use Rattle.std.proofs.Common.{◌≡◌, ◌++◌, drop}
use Rattle.thin_state.specs.Objects.{read_objs}
use Rattle.thin_turn.proofs.outside.read_objs.Given as goal

abbrev pub invariant-loop-object : goal.invariant-loop-object
invariant-loop-object l = read_objs l.instances l.views l.objects ≡ l.read ++ read_objs l.instances l.views (drop l.object-index l.objects)
