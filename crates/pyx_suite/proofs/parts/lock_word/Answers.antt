use Rattle.decl_grammar.specs.Nodes as node
use Rattle.pyx_suite.proofs.Valued.{valued}
use Rattle.pyx_suite.proofs.parts.lock_word.Goals as goal

pub returns : goal.returns
returns c = rw (c.lock_of.ensures, c.in_ok-taken.ensures.1) (valued _ node.lock_word _ _ _ c.in_ok-taken.ensures.0)
