-- What a statement reads, without references.
use Rattle.std.specs.Option.{option_copied}
use Rattle.thin_plan.specs.declared.scenes.Scene as code
use Rattle.thin_plan.specs.Plans.{Scene}

abbrev pub scene_of : code.Scene → Scene
scene_of s = record {
  files = s.files.now;
  places = s.places.now;
  lock = s.lock;
  error = s.error.now;
  loans = s.loans.now;
  here = s.here.now;
  caller = option_copied s.caller;
}
