use Rattle.std.proofs.Common.{◌≡◌, ap, inr, []}
use Rattle.std.specs.Prelude.{◌≢◌, Err}
use Rattle.cy_base.specs.declared.error.Stop.TheVariants as Stop
use Rattle.forms.specs.Readers.{did, bad}
use Rattle.token_input.specs.declared.halt.Halt.TheVariants.{Memory}
use Rattle.token_input.specs.Reads.{fault_of}
use Rattle.token_input.proofs.Stops.{in_err}
use Rattle.decl_grammar.specs.Grammar.{definition}
use Rattle.decl_grammar.specs.Reading.{read_definition}
use Rattle.decl_grammar.specs.Files.{in_brackets, read_whole}
use Rattle.pyx_decl.proofs.Known.{definition_read, definition_once}
use Rattle.pyx_decl.proofs.Whole.{made_tree, made_same, no_breach, stop_tree, stop_refused, stop_breach}
use Rattle.pyx_decl.proofs.files.definition.Goals as goal

pub returns-in-Ok-clause-tree : goal.returns-in-Ok-clause-tree
returns-in-Ok-clause-tree c =
    let h : read_whole (read_definition in_brackets) c.args.tokens.now.list ≡ did c.in-Ok.content [] = cc c.in-Ok.ensures in
    made_tree (definition in_brackets) (read_definition in_brackets) c.args.tokens.now.list (definition_read c.args.tokens.now.list) (definition_once c.args.tokens.now.list) _ _ h c.tree_of.ensures.ok

pub returns-in-Ok-clause-every_tree : goal.returns-in-Ok-clause-every_tree
returns-in-Ok-clause-every_tree c = λ other w.
    let h : read_whole (read_definition in_brackets) c.args.tokens.now.list ≡ did c.in-Ok.content [] = cc c.in-Ok.ensures in
    made_same (definition in_brackets) (read_definition in_brackets) c.args.tokens.now.list (definition_read c.args.tokens.now.list) (definition_once c.args.tokens.now.list) _ other _ h c.tree_of.ensures.ok c.tree_of.ensures.err w

pub returns-in-Ok-clause-every_breach : goal.returns-in-Ok-clause-every_breach
returns-in-Ok-clause-every_breach c = λ refused b.
    let h : read_whole (read_definition in_brackets) c.args.tokens.now.list ≡ did c.in-Ok.content [] = cc c.in-Ok.ensures in
    absurd (no_breach (definition in_brackets) (read_definition in_brackets) c.args.tokens.now.list (definition_read c.args.tokens.now.list) (definition_once c.args.tokens.now.list) c.args.file _ refused h b)

pub returns-clause-every_tree : goal.returns-clause-every_tree
returns-clause-every_tree c = λ tree w.
    let h : (c.in-Err.halt ≢ Memory) → read_whole (read_definition in_brackets) c.args.tokens.now.list ≡ bad (fault_of c.in-Err.halt) c.definition_content.new.input = λ k. let f = c.in-Err.ensures k in cc in
    inr (ap Err (stop_tree (definition in_brackets) (read_definition in_brackets) c.args.tokens.now.list (definition_read c.args.tokens.now.list) (definition_once c.args.tokens.now.list) c.args.file _ _ _ tree h c.stop.ensures w))

pub returns-clause-refused : goal.returns-clause-refused
returns-clause-refused c = λ refused e.
    let h : (c.in-Err.halt ≢ Memory) → read_whole (read_definition in_brackets) c.args.tokens.now.list ≡ bad (fault_of c.in-Err.halt) c.definition_content.new.input = λ k. let f = c.in-Err.ensures k in cc in
    let f : c.stop.result ≡ Stop.Refused refused = cc in
    stop_refused (definition in_brackets) (read_definition in_brackets) c.args.tokens.now.list (definition_read c.args.tokens.now.list) (definition_once c.args.tokens.now.list) c.args.file _ _ _ refused h c.stop.ensures f

pub returns-clause-every_breach : goal.returns-clause-every_breach
returns-clause-every_breach c = λ refused b.
    let h : (c.in-Err.halt ≢ Memory) → read_whole (read_definition in_brackets) c.args.tokens.now.list ≡ bad (fault_of c.in-Err.halt) c.definition_content.new.input = λ k. let f = c.in-Err.ensures k in cc in
    in_err (stop_breach (definition in_brackets) (read_definition in_brackets) c.args.tokens.now.list (definition_read c.args.tokens.now.list) (definition_once c.args.tokens.now.list) c.args.file _ _ _ refused h c.stop.ensures b)
