use Rattle.std.proofs.Common.{◌≡◌, ◌+◌, ◌++◌, ap, sym, ◌∙◌, length, arith}
use Rattle.c_token.specs.CTokens.{Between, Fresh, c_tokens, tokens_from, step}
use Rattle.c_cut.specs.Shown.{item_shown}
use Rattle.c_lex.specs.Shown.{mode_shown}
use Rattle.c_lex.proofs.Steps.{from_start, turned, finished}
use Rattle.c_lex.proofs.lex.tokens.Goals as goal

pub loop-at-init : goal.loop-at-init
loop-at-init c = record {
  same = from_start c.args.bytes.now ∙ ap (λ found. item_shown found ++ tokens_from (Between Fresh) c.args.bytes.now) (sym c.new-found.ensures.items);
  begun = omega arith;
}

pub loop-at-preserved : goal.loop-at-preserved
loop-at-preserved c = record {
  same = turned (c_tokens c.args.bytes.now) (item_shown c.loop-at.found.items) (item_shown c.step.new.tokens.items) (mode_shown c.args.bytes.now c.loop-at.at c.loop-at.mode)
      (mode_shown c.args.bytes.now (c.loop-at.at + 1) c.in_ok-mode.mode) c.args.bytes.now c.loop-at.at c.loop-at-test.true c.loop-at.invariant.same c.in_ok-mode.ensures.given c.in_ok-mode.ensures.next;
  begun = c.in_ok-mode.ensures.starts;
}

pub returns : goal.returns
returns c =
    let text = c.args.bytes.now in
    let place : c.loop-at.at ≡ length text = omega arith in
    finished (c_tokens text) (item_shown c.loop-at.found.items) (item_shown c.finish.new.tokens.items) (mode_shown text c.loop-at.at c.loop-at.mode) text c.loop-at.at
    c.loop-at-test.false c.loop-at.invariant.same
    (c.in_ok-finish.ensures ∙ ap (λ at. item_shown c.loop-at.found.items ++ (step (mode_shown text at c.loop-at.mode) 10).given) (sym place))
