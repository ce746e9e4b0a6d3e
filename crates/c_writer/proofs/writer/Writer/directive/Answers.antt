use Rattle.std.proofs.Common.{◌++◌, ◌∙◌, ap, refl}
use Rattle.c_token.specs.CTokens.{c_tokens}
use Rattle.c_writer.proofs.Splits.{line_rests, line_written}
use Rattle.c_writer.proofs.writer.Writer.directive.Goals as goal

pub invariant_of-result : goal.invariant_of-result
invariant_of-result c = rw c.in_ok-extend_from_slice.ensures.items (line_rests _ 10 c.in_ok-text.ensures.rests c.args.line.now refl c.requires)

pub returns : goal.returns
returns c =
    ap c_tokens c.in_ok-extend_from_slice.ensures.items
    ∙ (line_written _ 10 c.in_ok-text.ensures.rests c.args.line.now refl
    ∙ ap (λ t. t ++ c_tokens c.args.line.now) (c.in_ok-text.ensures.same ∙ c.self.view_is))
