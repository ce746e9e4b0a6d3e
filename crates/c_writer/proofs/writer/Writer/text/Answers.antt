use Rattle.std.proofs.Common.{◌++◌, ◌∙◌, ap}
use Rattle.c_token.specs.CTokens.{c_tokens}
use Rattle.c_writer.proofs.Splits.{whole_rests, whole_written}
use Rattle.c_writer.proofs.writer.Writer.text.Goals as goal

pub invariant_of-result : goal.invariant_of-result
invariant_of-result c =
    rw c.in_ok-extend_from_slice.ensures.items (whole_rests _ _ c.in_ok-text.ensures.rests c.args.bytes.now c.requires.some c.in_ok-text.ensures.apart c.requires.whole)

pub returns : goal.returns
returns c =
    ap c_tokens c.in_ok-extend_from_slice.ensures.items
    ∙ (whole_written _ _ c.in_ok-text.ensures.rests c.args.bytes.now c.requires.some c.in_ok-text.ensures.apart c.requires.whole
    ∙ ap (λ t. t ++ c_tokens c.args.bytes.now) (c.in_ok-text.ensures.same ∙ c.self.view_is))
