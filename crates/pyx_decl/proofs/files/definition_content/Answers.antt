use Rattle.token_class.specs.Sets.{of}
use Rattle.cy_tree.specs.declared.content.Content.TheVariants as content
use Rattle.cy_tree.specs.declared.decl.PxdItem.{PxdItem}
use Rattle.forms.specs.Readers.{read_many}
use Rattle.decl_grammar.specs.Files.{in_brackets}
use Rattle.decl_grammar.specs.Reading.{begins_item, read_pxd_item, read_definition}
use Rattle.pyx_decl.proofs.EndOf.{behind, fails}
use Rattle.pyx_decl.proofs.files.definition_content.Goals as goal

pub returns-in-Ok : goal.returns-in-Ok
unfolding read_definition
returns-in-Ok c = rw (behind PxdItem content.Definition (read_many (of begins_item) (read_pxd_item in_brackets)) c.args.input.now c.in-Ok.items c.items.new.input c.in-Ok.ensures) c.whole.ensures

pub returns-in-Err : goal.returns-in-Err
unfolding read_definition
returns-in-Err c = λ h. fails PxdItem content.Definition (read_many (of begins_item) (read_pxd_item in_brackets)) c.args.input.now _ _ (c.in-Err.ensures h)
