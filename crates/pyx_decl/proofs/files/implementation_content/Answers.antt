use Rattle.token_class.specs.Sets.{of}
use Rattle.cy_tree.specs.declared.content.Content.TheVariants as content
use Rattle.cy_tree.specs.declared.decl.Top.{Top}
use Rattle.forms.specs.Readers.{read_many}
use Rattle.decl_grammar.specs.Files.{in_brackets}
use Rattle.decl_grammar.specs.Reading.{begins_top, read_top, read_implementation}
use Rattle.pyx_decl.proofs.EndOf.{behind, fails}
use Rattle.pyx_decl.proofs.files.implementation_content.Goals as goal

pub returns-in-Ok : goal.returns-in-Ok
unfolding read_implementation
returns-in-Ok c = rw (behind Top content.Implementation (read_many (of begins_top) (read_top in_brackets)) c.args.input.now c.in-Ok.tops c.tops.new.input c.in-Ok.ensures) c.whole.ensures

pub returns-in-Err : goal.returns-in-Err
unfolding read_implementation
returns-in-Err c = λ h. fails Top content.Implementation (read_many (of begins_top) (read_top in_brackets)) c.args.input.now _ _ (c.in-Err.ensures h)
