-- A file has one answer: what is said of the answer leaves no second one.
use Rattle.std.proofs.Common.{◌≡◌, ℕ, List, [], ◌∷◌, refl, sym, ◌∙◌, ap, append-nil}
use Rattle.pyx_lex.specs.declared.token.Token.{Token}
use Rattle.cy_tree.specs.declared.content.Content.{Content}
use Rattle.forms.specs.Forms.{plain, Form}
use Rattle.forms.specs.Readers.{unexpected, limit, Outcome, did, bad}
use Rattle.forms.specs.Exact.{Found, Wrong, Passed}
use Rattle.forms.proofs.Facts.{did_bad}
use Rattle.forms.proofs.OneAnswer.{Run, of_found, of_wrong, same_run, run_or_passed, one_answer}
use Rattle.decl_grammar.specs.Files.{IsFile, Whole, Breach}

module _ (L : Form Token Content) (ts : List Token) where
  found : (a : Content) → Whole L ts a → Found Token Content L ts [] a
  found a w = record { run = w.run; cut = w.cut ∙ sym (append-nil (plain w.run)); spelled = w.spelled; clean = w.clean; only = λ other b h l. w.only other b (h ∙ sym w.cut) l; longest = tt }

  of_breach : (x : Token) (rest : List Token) → Breach L ts x rest → Run Token Content L ts (x ∷ rest)
  of_breach x rest b = record { run = b.run; cut = b.cut; later = b.goes.0; value = b.goes.1; spelled = b.goes.2; clean = b.clean b.run b.goes.0 b.goes.1 refl b.goes.2; longest = b.first }

  run_found : (a : Content) → Whole L ts a → Run Token Content L ts []
  run_found a w = of_found Token Content L ts [] a (found a w)

  -- a run doesn't end in two places
  two_ends : (x : Token) (rest : List Token) → Run Token Content L ts [] → Run Token Content L ts (x ∷ rest) → ⊥
  two_ends x rest r s = let e = (same_run Token Content L ts [] (x ∷ rest) r s).1 in cc

  tree_or_breach : (a : Content) (f : Outcome Token Content) → Whole L ts a → IsFile L ts f → ((b : Content) (rest : List Token) → f ≡ did b rest → ⊥) → ⊥
  tree_or_breach a (did b rest) w g never = never b rest refl
  tree_or_breach a (bad unexpected []) w g never = let e = one_answer Token Content L ts (did a []) (bad unexpected []) (found a w) g in cc
  tree_or_breach a (bad unexpected (x ∷ rest)) w g never = two_ends x rest (run_found a w) (of_breach x rest g)
  tree_or_breach a (bad (limit n) rest) w g never = let e = one_answer Token Content L ts (did a []) (bad (limit n) rest) (found a w) g in cc

  pub one_file : (o w : Outcome Token Content) → IsFile L ts o → IsFile L ts w → o ≡ w
  one_file (did a rest) (did b more) f g = let e = one_answer Token Content L ts (did a []) (did b []) (found a f.1) (found b g.1) in let r = f.0 in let s = g.0 in cc
  one_file (did a rest) (bad e more) f g = absurd (tree_or_breach a (bad e more) f.1 g (λ b r h. did_bad (sym h)))
  one_file (bad e rest) (did b more) f g = absurd (tree_or_breach b (bad e rest) g.1 f (λ a r h. did_bad (sym h)))
  one_file (bad unexpected []) (bad unexpected []) f g = refl
  one_file (bad unexpected []) (bad unexpected (y ∷ more)) f g = absurd (two_ends y more (of_wrong Token Content L ts [] f) (of_breach y more g))
  one_file (bad unexpected (x ∷ rest)) (bad unexpected []) f g = absurd (two_ends x rest (of_wrong Token Content L ts [] g) (of_breach x rest f))
  one_file (bad unexpected (x ∷ rest)) (bad unexpected (y ∷ more)) f g = ap (λ z. bad unexpected z) (same_run Token Content L ts (x ∷ rest) (y ∷ more) (of_breach x rest f) (of_breach y more g)).1
  one_file (bad unexpected []) (bad (limit n) more) f g = absurd (run_or_passed Token Content L n ts [] more (of_wrong Token Content L ts [] f) g)
  one_file (bad unexpected (x ∷ rest)) (bad (limit n) more) f g = absurd (run_or_passed Token Content L n ts (x ∷ rest) more (of_breach x rest f) g)
  one_file (bad (limit n) rest) (bad unexpected []) f g = absurd (run_or_passed Token Content L n ts [] rest (of_wrong Token Content L ts [] g) f)
  one_file (bad (limit n) rest) (bad unexpected (y ∷ more)) f g = absurd (run_or_passed Token Content L n ts (y ∷ more) rest (of_breach y more g) f)
  one_file (bad (limit n) rest) (bad (limit m) more) f g = one_answer Token Content L ts (bad (limit n) rest) (bad (limit m) more) f g
