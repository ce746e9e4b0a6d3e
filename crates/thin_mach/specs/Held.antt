-- What the machine's parts stand for.
use Rattle.std.specs.Prelude.{[]}
use Rattle.thin_apply.specs.declared.parts.Core.{Core}
use Rattle.thin_apply.specs.Applied.{Parts, parts_of, Fixed, fixed, seen}
use Rattle.thin_mach.specs.Runs.{Run}

abbrev pub run_from : Fixed → Parts → Run
run_from x p = record { files = x.files; taken = p.taken; state = seen x p [] [] }

abbrev pub run_of : Core → Run
run_of c = run_from (fixed c) (parts_of c)
