-- What is known of reading either kind of file.
use Rattle.std.proofs.Common.{◌≡◌, List}
use Rattle.pyx_lex.specs.declared.token.Token.{Token}
use Rattle.cy_tree.specs.declared.content.Content.{Content}
use Rattle.forms.specs.Readers.{Outcome}
use Rattle.decl_grammar.specs.Grammar.{implementation, definition}
use Rattle.decl_grammar.specs.Reading.{read_implementation, read_definition}
use Rattle.decl_grammar.specs.Files.{in_brackets, read_whole, IsFile}
use Rattle.decl_grammar.proofs.Answers.{files_are_read, files_have_one_answer}

pub implementation_read : (ts : List Token) → IsFile (implementation in_brackets) ts (read_whole (read_implementation in_brackets) ts)
implementation_read ts = (files_are_read in_brackets ts).0

pub implementation_once : (ts : List Token) (o w : Outcome Token Content) → IsFile (implementation in_brackets) ts o → IsFile (implementation in_brackets) ts w → o ≡ w
implementation_once ts o w = (files_have_one_answer in_brackets ts o w).0

pub definition_read : (ts : List Token) → IsFile (definition in_brackets) ts (read_whole (read_definition in_brackets) ts)
definition_read ts = (files_are_read in_brackets ts).1

pub definition_once : (ts : List Token) (o w : Outcome Token Content) → IsFile (definition in_brackets) ts o → IsFile (definition in_brackets) ts w → o ≡ w
definition_once ts o w = (files_have_one_answer in_brackets ts o w).1
