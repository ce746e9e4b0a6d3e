use Rattle.std.specs.Prelude.{slice_get}
use Rattle.c_statement.proofs.Told.{sign_seen}
use Rattle.c_statement.proofs.seen.sees_sign.Goals as goal

pub returns : goal.returns
returns c = sign_seen c.sees.result c.args.letters.now (slice_get c.args.input.now c.args.at) c.sees.ensures
