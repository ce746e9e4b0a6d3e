use Rattle.std.proofs.Common.{◌≡◌}
use Rattle.thin_mach.proofs.linking.linked_files.Given as goal

abbrev pub invariant-loop-file : goal.invariant-loop-file
invariant-loop-file l = l.linked.items ≡ l.yielded
