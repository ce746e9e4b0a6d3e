use Rattle.std.proofs.Common.{ap}
use Rattle.c_token.specs.CTokens.{c_tokens, tokens_from}
use Rattle.c_writer.proofs.writer.Writer.new.Goals as goal

pub returns : goal.returns
unfolding c_tokens tokens_from
returns c = ap c_tokens c.new.ensures.items
