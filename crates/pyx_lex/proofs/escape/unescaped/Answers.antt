use Rattle.std.proofs.Common.{rules, arith, sym}
use Rattle.pyx_lex.proofs.Escapes.{one_more, all_read, none_read}
use Rattle.pyx_lex.proofs.escape.unescaped.Goals as goal

pub loop-at-preserved : goal.loop-at-preserved
loop-at-preserved c = record {
  within = search rules;
  same = one_more c.args.cs.now c.loop-at.at c.in-Some.part _ _ _ (omega arith) (sym c.in-Some.ensures.part) c.in-Some.ensures.within.0 c.in_ok-put_char-in-Some.ensures c.loop-at.invariant.same;
}

pub returns-in-None : goal.returns-in-None
returns-in-None c = none_read c.args.cs.now c.loop-at.at _ _ (omega arith) (sym c.in-None.ensures.part) c.loop-at.invariant.same

pub returns : goal.returns
returns c = all_read c.args.cs.now c.loop-at.at _ _ (omega arith) c.loop-at.invariant.same
