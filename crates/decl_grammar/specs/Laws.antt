-- The laws of the grammar of files.
use Rattle.std.specs.Prelude.{◌≡◌, ℕ, List}
use Rattle.pyx_lex.specs.declared.token.Token.{Token}
use Rattle.cy_tree.specs.declared.decl.ClauseNode.{ClauseNode}
use Rattle.cy_tree.specs.declared.decl.Member.{Member}
use Rattle.cy_tree.specs.declared.decl.PxdItem.{PxdItem}
use Rattle.cy_tree.specs.declared.decl.PxdMember.{PxdMember}
use Rattle.cy_tree.specs.declared.decl.Top.{Top}
use Rattle.cy_tree.specs.declared.content.Content.{Content}
use Rattle.forms.specs.Readers.{Outcome}
use Rattle.forms.specs.Exact.{SpellsOne}
use Rattle.decl_grammar.specs.Nodes.{Typed, Marks}
use Rattle.decl_grammar.specs.Grammar.{typed_name, clause, marks, class_member, top, implementation, pxd_class_member, pxd_item, definition}
use Rattle.decl_grammar.specs.Factored.{Same, name_factored, clause_factored, marks_factored, member_factored, top_factored, pxd_member_factored, item_factored}
use Rattle.decl_grammar.specs.Reading.{read_implementation, read_definition}
use Rattle.decl_grammar.specs.Files.{IsFile, read_whole}

-- The reader answers the one tree of the tokens, or the first token that no sentence goes on with, or that breaks a limit.
abbrev pub FilesAreRead : Type 0
FilesAreRead = (m : ℕ) (ts : List Token) → IsFile (implementation m) ts (read_whole (read_implementation m) ts) × IsFile (definition m) ts (read_whole (read_definition m) ts)

-- No tokens spell two trees within the limits.
abbrev pub FilesSpellOne : Type 0
FilesSpellOne = (m : ℕ) → SpellsOne (implementation m) × SpellsOne (definition m)

-- What is said of the answer leaves no second one.
abbrev pub FilesHaveOneAnswer : Type 0
FilesHaveOneAnswer = (m : ℕ) (ts : List Token) (o w : Outcome Token Content) → (IsFile (implementation m) ts o → IsFile (implementation m) ts w → o ≡ w) × (IsFile (definition m) ts o → IsFile (definition m) ts w → o ≡ w)

-- Where two alternatives begin alike, the form with their beginning once spells the same.
abbrev pub FactoredAlike : Type 0
FactoredAlike = (m : ℕ) → Same Typed (name_factored m) (typed_name m) × Same ClauseNode clause_factored clause × Same Marks marks_factored marks × Same Member (member_factored m) (class_member m)
    × Same Top (top_factored m) (top m) × Same PxdMember (pxd_member_factored m) (pxd_class_member m) × Same PxdItem (item_factored m) (pxd_item m)
