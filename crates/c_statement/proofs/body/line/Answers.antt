use Rattle.std.proofs.Common.{◌≡◌, ◌++◌, List, Some}
use Rattle.c_token.specs.CTokens.{CToken}
use Rattle.c_tree.specs.declared.item.Line.{Line}
use Rattle.c_tree.specs.declared.item.Line.TheVariants as line
use Rattle.c_tree.specs.Forms.{IsLine}
use Rattle.c_tree.specs.Items.{line_spelling}
use Rattle.c_statement.proofs.Labels.{no_label}
use Rattle.c_statement.proofs.body.line.Goals as goal

pub returns-then-sees_sign-clause-every : goal.returns-then-sees_sign-clause-every
returns-then-sees_sign-clause-every c = λ x rest form e. go x rest form e
  where
    go : (x : Line) (rest : List CToken) → IsLine x → c.args.input.now ≡ line_spelling x ++ rest → c.label.result ≡ Some x
    go (line.Label j) rest form e = c.label.ensures.every (line.Label j) rest form e
    go (line.Statement s) rest form e = absurd (no_label s rest e c.sees_sign.ensures c.if-sees_sign.true)
