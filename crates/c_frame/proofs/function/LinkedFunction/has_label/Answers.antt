use Rattle.std.proofs.Common.{ap, ◌∙◌}
use Rattle.std.specs.Prelude.{is_some}
use Rattle.c_frame.proofs.Following.{has-label}
use Rattle.c_frame.proofs.function.LinkedFunction.has_label.Goals as goal

pub returns : goal.returns
returns c = c.is_some.ensures ∙ ap is_some c.label.ensures ∙ has-label c.args.self.now.lines c.args.label
