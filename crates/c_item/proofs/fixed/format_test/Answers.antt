use Rattle.std.proofs.Common.{◌++◌}
use Rattle.std.specs.Prelude.{false}
use Rattle.c_input.proofs.Rows.{passes_of}
use Rattle.c_item.specs.Fixed.{test_end, test_head, test_mark, test_null}
use Rattle.c_item.proofs.Passing.{first_missed, first_passed}
use Rattle.c_item.proofs.fixed.format_test.Goals as goal

pub returns-then-not-test_head : goal.returns-then-not-test_head
returns-then-not-test_head c = first_missed test_head (test_null ++ (test_mark ++ test_end)) c.args.input.now c.test_head.new.input c.if-not-test_head.ensures.1

pub returns-then-not-test_null : goal.returns-then-not-test_null
returns-then-not-test_null c =
    first_passed test_head (test_null ++ (test_mark ++ test_end)) c.args.input.now c.test_head.new.input c.test_null.new.input false c.if-not-test_head.ensures
    (first_missed test_null (test_mark ++ test_end) c.test_head.new.input c.test_null.new.input c.if-not-test_null.ensures.1)

pub returns-then-not-test_mark : goal.returns-then-not-test_mark
returns-then-not-test_mark c =
    first_passed test_head (test_null ++ (test_mark ++ test_end)) c.args.input.now c.test_head.new.input c.test_mark.new.input false c.if-not-test_head.ensures
    (first_passed test_null (test_mark ++ test_end) c.test_head.new.input c.test_null.new.input c.test_mark.new.input false c.if-not-test_null.ensures
    (first_missed test_mark test_end c.test_null.new.input c.test_mark.new.input c.if-not-test_mark.ensures.1))

pub returns : goal.returns
returns c =
    first_passed test_head (test_null ++ (test_mark ++ test_end)) c.args.input.now c.test_head.new.input c.test_end.new.input c.test_end.result c.if-not-test_head.ensures
    (first_passed test_null (test_mark ++ test_end) c.test_head.new.input c.test_null.new.input c.test_end.new.input c.test_end.result c.if-not-test_null.ensures
    (first_passed test_mark test_end c.test_null.new.input c.test_mark.new.input c.test_end.new.input c.test_end.result c.if-not-test_mark.ensures
    (passes_of test_end c.test_mark.new.input c.test_end.result c.test_end.new.input c.test_end.ensures)))
