use Rattle.c_heads.proofs.Differing.{not-same}
use Rattle.c_heads.proofs.heads.same_kinds.Goals as goal

pub returns-then-a-b : goal.returns-then-a-b
returns-then-a-b c = not-same c.args.a.now c.args.b.now c.if-a-b.true
