use Rattle.decl_grammar.specs.Nodes as node
use Rattle.pyx_head.proofs.Valued.{valued}
use Rattle.pyx_head.proofs.heads.access.Goals as goal

pub returns : goal.returns
returns c = rw (c.access_of.ensures, c.in_ok-taken.ensures.1) (valued _ node.access_word _ _ _ c.in_ok-taken.ensures.0)
