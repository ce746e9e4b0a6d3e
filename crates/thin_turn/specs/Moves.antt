-- A turn in code, with the number of entries that were taken.
use Rattle.std.specs.Prelude.{List, drop}
use Rattle.thin_state.specs.declared.space.Entry.{Entry}
use Rattle.thin_turn.specs.declared.outside.Move.{Move}
use Rattle.thin_turn.specs.declared.outside.Stage as code
use Rattle.thin_turn.specs.Turns.{Stage, Go}

abbrev pub stage_of : code.Stage → Stage
stage_of s = record {
  files = s.files.now;
  places = s.places.now;
  lock = s.lock;
  instances = s.instances;
  views = s.views;
  begun = s.begun;
}

abbrev pub go_of : List Entry → Move → Go
go_of script m = record { turn = m.turn; rest = drop m.taken script }
