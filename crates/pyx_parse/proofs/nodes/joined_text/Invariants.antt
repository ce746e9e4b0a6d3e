use Rattle.std.proofs.Common.{◌≡◌, ◌++◌, drop}
use Rattle.std.specs.String.{string_bytes}
use Rattle.expr_grammar.specs.Nodes as node
use Rattle.pyx_parse.proofs.nodes.joined_text.Given as goal

abbrev pub invariant-loop-text : goal.invariant-loop-text
invariant-loop-text l = l.fn.first ++ node.joined l.text-items ≡ string_bytes l.all ++ node.joined (drop l.text-index l.text-items)
