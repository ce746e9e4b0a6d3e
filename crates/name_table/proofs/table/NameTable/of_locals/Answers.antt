use Rattle.std.proofs.Common.{◌≡◌, suc, ◌+◌, arith, drop-cons}
use Rattle.name_table.proofs.Steps.{locals-step}
use Rattle.name_table.proofs.table.NameTable.of_locals.Goals as goal

pub loop-name-preserved : goal.loop-name-preserved
loop-name-preserved c =
    let i = c.loop-name.name-index in
    let follows : i + 1 ≡ suc i = omega arith in
    locals-step c.args.names.now i (i + 1) _ c.loop-name.table c.add_local.new.self _ follows (drop-cons c.args.names.now i _ c.loop-name-test.true)
    c.loop-name.invariant.0 c.loop-name.invariant.1 c.in_ok-add_local.ensures
