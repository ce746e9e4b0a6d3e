use Rattle.signature_rules.specs.Rules.{signatures}
use Rattle.signature_rules.proofs.Lists.{rule-by-rule}
use Rattle.signature_rules.proofs.file.signature.Goals as goal

pub returns : goal.returns
returns c = (rule-by-rule c.args.file (signatures c.args.content.now) c.judge_content.ensures).each
