use Rattle.std.proofs.Common.{refl}
use Rattle.cyc_top.proofs.Writes.{AreWritten-twice, ArePartlyWritten-second}
use Rattle.cyc_top.proofs.build.write_outputs.Goals as goal

pub returns-in-Done-write-clause-done : goal.returns-in-Done-write-clause-done
returns-in-Done-write-clause-done g c =
    let told = g.F.Files.told in
    λ _. rw (← c.as_slice.ensures.value, ← c.as_slice-2.ensures.value, ← c.as_slice-3.ensures.value)
    (AreWritten-twice (told c.args.files.now) (told c.write.new.self) (told c.write-2.new.self) c.as_slice.result.now c.as_slice-2.result.now c.as_slice-3.result.now (rw c.as_slice-2.ensures.value c.requires) (c.in-Done.ensures.done refl) (c.in-Done-write.ensures.done refl))

pub returns-in-Failed-write-clause-write_fault : goal.returns-in-Failed-write-clause-write_fault
returns-in-Failed-write-clause-write_fault g c =
    let told = g.F.Files.told in
    λ _. rw (← c.as_slice.ensures.value, ← c.as_slice-2.ensures.value)
    (ArePartlyWritten-second (told c.args.files.now) (told c.write.new.self) (told c.write-2.new.self) c.as_slice.result.now c.as_slice-2.result.now (rw c.as_slice-2.ensures.value c.requires) (c.in-Done.ensures.done refl) (c.in-Failed-write.ensures.failed refl))
