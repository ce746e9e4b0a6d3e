use Rattle.std.proofs.Common.{◌+◌, drop, length, nat_eq, subst, sym, arith}
use Rattle.control_rules.specs.Walk.{ArmsNoted, HandlersNoted, StmtsNoted, bare_handler}
use Rattle.control_rules.proofs.Five.{both, none}
use Rattle.control_rules.proofs.Levels.{HandlerNoted, arm-noted, block-noted, for-noted, handler-noted, if-noted, inline-noted, last-is, simples-noted, try-noted, while-noted, with-noted}
use Rattle.first_breach.proofs.Loops.{ended, next}
use Rattle.control_rules.proofs.walk.+walk.Goals as goal

pub judge_arms-loop-arm-preserved : goal.judge_arms-loop-arm-preserved
judge_arms-loop-arm-preserved t c = λ last it.
    c.loop-arm.invariant last
    (next (λ xs. ArmsNoted c.args.file c.args.around xs c.loop-arm.least last) c.args.arms.now c.loop-arm.arm-index c.arm-item.result c.loop-arm-test.true c.arm-item.is
    (both (arm-noted c.args.file c.args.around c.arm-item.result c.get.result.now c.get.ensures c.judge_suite-least.ensures) it))

pub judge_arms-returns : goal.judge_arms-returns
judge_arms-returns t c =
    c.loop-arm.invariant c.loop-arm.least
    (ended (λ xs. ArmsNoted c.args.file c.args.around xs c.loop-arm.least c.loop-arm.least) c.args.arms.now c.loop-arm.arm-index c.loop-arm-test.false none)

pub judge_stmts-loop-stmt-preserved : goal.judge_stmts-loop-stmt-preserved
judge_stmts-loop-stmt-preserved t c = λ last it.
    c.loop-stmt.invariant last
    (next (λ xs. StmtsNoted c.args.file c.args.around xs c.loop-stmt.least last) c.args.stmts.now c.loop-stmt.stmt-index c.stmt-item.result c.loop-stmt-test.true c.stmt-item.is
    (both c.judge_stmt-least.ensures it))

pub judge_stmts-returns : goal.judge_stmts-returns
judge_stmts-returns t c =
    c.loop-stmt.invariant c.loop-stmt.least
    (ended (λ xs. StmtsNoted c.args.file c.args.around xs c.loop-stmt.least c.loop-stmt.least) c.args.stmts.now c.loop-stmt.stmt-index c.loop-stmt-test.false none)

pub judge_suite-returns-in-Inline : goal.judge_suite-returns-in-Inline
judge_suite-returns-in-Inline t c = inline-noted c.args.file c.args.around c.args.suite.now c.in-Inline.line c.in-Inline.is c.judge_line.ensures

pub judge_suite-returns-in-Block : goal.judge_suite-returns-in-Block
judge_suite-returns-in-Block t c = block-noted c.args.file c.args.around c.args.suite.now c.in-Block.stmts c.as_slice.result.now c.in-Block.is c.as_slice.ensures c.judge_stmts.ensures

pub judge_stmt-returns-in-Simples : goal.judge_stmt-returns-in-Simples
judge_stmt-returns-in-Simples t c = simples-noted c.args.file c.args.around c.args.stmt.now c.in-Simples.line c.in-Simples.is c.judge_line.ensures

pub judge_stmt-returns-in-IfNode : goal.judge_stmt-returns-in-IfNode
judge_stmt-returns-in-IfNode t c =
    if-noted c.args.file c.args.around c.compound-inner.result c.args.stmt.now c.in-IfNode.field-0 c.in-IfNode.arms c.as_slice.result.now c.in-IfNode.other c.in-IfNode.is c.compound-inner.ensures c.as_slice.ensures
    c.judge_arms-least.ensures c.judge_maybe.ensures

pub judge_stmt-returns-in-WhileNode : goal.judge_stmt-returns-in-WhileNode
judge_stmt-returns-in-WhileNode t c =
    while-noted c.args.file c.args.around c.compound-inner.result c.looping.result c.args.stmt.now c.in-WhileNode.field-0 c.in-WhileNode.field-1 c.in-WhileNode.body c.get.result.now c.in-WhileNode.other c.in-WhileNode.is
    c.compound-inner.ensures c.looping.ensures c.get.ensures c.judge_suite-least.ensures c.judge_maybe-in-WhileNode.ensures

pub judge_stmt-returns-in-ForNode : goal.judge_stmt-returns-in-ForNode
judge_stmt-returns-in-ForNode t c =
    for-noted c.args.file c.args.around c.compound-inner.result c.looping-in-ForNode.result c.args.stmt.now c.in-ForNode.field-0 c.in-ForNode.field-1 c.in-ForNode.field-2 c.in-ForNode.body c.get-in-ForNode.result.now c.in-ForNode.other c.in-ForNode.is
    c.compound-inner.ensures c.looping-in-ForNode.ensures c.get-in-ForNode.ensures c.judge_suite-least-in-ForNode.ensures c.judge_maybe-in-ForNode.ensures

pub judge_stmt-returns-in-Try : goal.judge_stmt-returns-in-Try
judge_stmt-returns-in-Try t c =
    try-noted c.args.file c.args.around c.compound-inner.result c.args.stmt.now c.in-Try.field-0 c.in-Try.body c.get-in-Try.result.now c.in-Try.handlers c.as_slice-in-Try.result.now c.in-Try.other c.in-Try.last c.in-Try.is
    c.compound-inner.ensures c.get-in-Try.ensures c.as_slice-in-Try.ensures c.judge_suite-least-in-Try.ensures c.judge_handlers-least.ensures c.judge_maybe-least.ensures c.judge_maybe-in-Try.ensures

pub judge_stmt-returns-in-With : goal.judge_stmt-returns-in-With
judge_stmt-returns-in-With t c =
    with-noted c.args.file c.args.around c.compound-inner.result c.args.stmt.now c.in-With.field-0 c.in-With.field-1 c.in-With.body c.get-in-With.result.now c.in-With.is
    c.compound-inner.ensures c.get-in-With.ensures c.judge_suite.ensures

pub judge_handlers-loop-index-preserved : goal.judge_handlers-loop-index-preserved
judge_handlers-loop-index-preserved t c = λ last it.
    let hs = c.args.handlers.now in
    let h = c.index-handlers-index.result in
    let i = c.loop-index.index in
    let rest = drop (i + 1) hs in
    let judged = handler-noted c.args.file c.args.around c.handling.result h c.get.result.now (nat_eq (i + 1) (length hs)) c.handling.ensures c.get.ensures c.judge_handler-least.ensures c.judge_suite-least.ensures in
    c.loop-index.invariant last
    (next (λ xs. HandlersNoted c.args.file c.args.around xs c.loop-index.least last) hs i h c.loop-index-test.true c.index-handlers-index.is
    (both (subst (λ b. HandlerNoted c.args.file c.args.around h b c.loop-index.least c.judge_suite-least.result) (sym (last-is (bare_handler c.args.file) hs (i + 1) (omega (arith, c.loop-index-test.true)))) judged) it))

pub judge_handlers-returns : goal.judge_handlers-returns
judge_handlers-returns t c =
    c.loop-index.invariant c.loop-index.least
    (ended (λ xs. HandlersNoted c.args.file c.args.around xs c.loop-index.least c.loop-index.least) c.args.handlers.now c.loop-index.index c.loop-index-test.false none)
