-- What reads a file answers as it should.
use Rattle.std.proofs.Common.{◌≡◌, false, List, [], ◌∷◌, refl, sym, ◌∙◌, subst, append-nil}
use Rattle.pyx_lex.specs.declared.token.Token.{Token}
use Rattle.token_class.specs.Sets.{Classes, of}
use Rattle.token_class.proofs.Laws.{ExactFor}
use Rattle.cy_tree.specs.declared.content.Content.{Content}
use Rattle.forms.specs.Forms.{Mark, plain, Form}
use Rattle.forms.specs.Readers.{Outcome, did, bad, unexpected, limit, Reader, and_then}
use Rattle.forms.specs.Exact.{Answers, SpellsOne, Found, Wrong}
use Rattle.forms.proofs.Answering.{answers, one_value}
use Rattle.decl_grammar.specs.Grammar.{implementation, definition}
use Rattle.decl_grammar.specs.Reading.{read_implementation, read_definition}
use Rattle.decl_grammar.specs.Files.{IsFile, read_whole, at_its_end}
use Rattle.decl_grammar.specs.Laws.{FilesAreRead, FilesSpellOne, FilesHaveOneAnswer, FactoredAlike}
use Rattle.decl_grammar.proofs.NameLaws.{same_name}
use Rattle.decl_grammar.proofs.HeaderLaws.{same_clause, same_marks}
use Rattle.decl_grammar.proofs.OneFile.{one_file}
use Rattle.decl_grammar.proofs.FileLaws.{same_member, same_top, same_pxd_member, same_item, implementation_exact, definition_exact}

-- what is said of a longest run, at the end of the tokens and before
whole : (L : Form Token Content) (ts rest : List Token) (a : Content) → Found Token Content L ts rest a → IsFile L ts (at_its_end a rest)
whole L ts [] a f =
    let e : ts ≡ plain f.run = f.cut ∙ append-nil (plain f.run) in
    (refl, record { run = f.run; cut = e; spelled = f.spelled; clean = f.clean; only = λ other b h l. f.only other b (h ∙ e) l })
whole L ts (x ∷ rest) a f = record {
  run = f.run;
  cut = f.cut;
  goes = ([], a, let P : List (Mark Token) → Type 0 = λ us. L us a in subst P (sym (append-nil f.run)) f.spelled);
  clean = f.clean;
  first = f.longest;
}

wrong : (L : Form Token Content) (ts rest : List Token) → Wrong Token Content L ts rest → IsFile L ts (bad unexpected rest)
wrong L ts [] w = w
wrong L ts (x ∷ rest) w = record { run = w.run; cut = w.cut; goes = w.goes; clean = w.clean; first = w.longest }

of_answer : (L : Form Token Content) (p : Reader Token Content) (ts : List Token) → Answers L ts (p ts) → IsFile L ts (read_whole p ts)
of_answer L p ts h = go (p ts) h
  where
    go : (o : Outcome Token Content) → Answers L ts o → IsFile L ts (and_then o at_its_end)
    go (did a rest) f = whole L ts rest a f
    go (bad unexpected rest) w = wrong L ts rest w
    go (bad (limit n) rest) w = w

is_file : (L : Form Token Content) (p : Reader Token Content) {b m : Classes} → ExactFor Content L p false b m → (ts : List Token) → IsFile L ts (read_whole p ts)
is_file L p {b} {m} X ts = of_answer L p ts (answers Token Content L p _ (of b) (of m) X.exact ts)

pub files_are_read : FilesAreRead
files_are_read m ts = (is_file (implementation m) (read_implementation m) (implementation_exact m) ts, is_file (definition m) (read_definition m) (definition_exact m) ts)

spells_one : (L : Form Token Content) (p : Reader Token Content) {b m : Classes} → ExactFor Content L p false b m → SpellsOne L
spells_one L p {b} {m} X = one_value Token Content L p _ (of b) (of m) X.exact

pub files_spell_one : FilesSpellOne
files_spell_one m = (spells_one (implementation m) (read_implementation m) (implementation_exact m), spells_one (definition m) (read_definition m) (definition_exact m))

pub factored_alike : FactoredAlike
factored_alike m = (same_name m, same_clause, same_marks, same_member m, same_top m, same_pxd_member m, same_item m)

pub files_have_one_answer : FilesHaveOneAnswer
files_have_one_answer m ts o w = (one_file (implementation m) ts o w, one_file (definition m) ts o w)
