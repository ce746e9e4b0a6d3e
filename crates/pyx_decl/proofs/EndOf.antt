-- Items, and the end alone behind them.
use Rattle.std.proofs.Common.{◌≡◌, ℕ, Bool, true, false, cond, List, [], ◌∷◌, refl, sym, ◌∙◌, ap}
use Rattle.std.specs.Prelude.{◌≢◌}
use Rattle.pyx_lex.specs.declared.token.Token.{Token}
use Rattle.token_class.specs.declared.class.TokenClass.{TokenClass}
use Rattle.token_class.specs.Classes.{class_of}
use Rattle.token_class.specs.Sets.{of}
use Rattle.token_class.proofs.Laws.{bool_same}
use Rattle.token_class.proofs.EveryOne.{every_one}
use Rattle.cy_tree.specs.declared.content.Content.{Content}
use Rattle.forms.specs.Readers.{Fault, unexpected, Outcome, did, bad, Reader, and_then, read_one, read_both}
use Rattle.forms.specs.Lists.{itself}
use Rattle.forms.proofs.Pair.{both_then, both_at_first}
use Rattle.decl_grammar.specs.Words as words
use Rattle.decl_grammar.specs.Files.{at_its_end, read_whole}
use Rattle.token_input.specs.Ended.{is_end, read_alone}

same_bools : (a b : Bool) → bool_same a b ≡ true → a ≡ b
same_bools true true h = refl
same_bools true false h = cc
same_bools false true h = cc
same_bools false false h = refl

same_end : (x : TokenClass) → words.is_end x ≡ is_end x
same_end x = same_bools (words.is_end x) (is_end x) (every_one (λ x. bool_same (words.is_end x) (is_end x)) refl x)

end_of : (tree : Content) (us : List Token) → and_then (and_then (read_one (of words.is_end) itself us) (λ x r. did tree r)) at_its_end ≡ and_then (read_alone us) (λ x r. did tree r)
unfolding read_one
end_of tree [] = refl
end_of tree (x ∷ []) = rw (same_end (class_of x.kind)) (go (of is_end x))
  where
    go : (c : Bool) → and_then (and_then (cond c (did x []) (bad unexpected (x ∷ []))) (λ x r. did tree r)) at_its_end ≡ and_then (cond c (did x []) (bad unexpected (x ∷ []))) (λ x r. did tree r)
    go true = refl
    go false = refl
end_of tree (x ∷ y ∷ us) = rw (same_end (class_of x.kind)) (go (of is_end x))
  where
    go : (c : Bool) → and_then (and_then {A = Token} (cond c (did x (y ∷ us)) (bad unexpected (x ∷ y ∷ us))) (λ x r. did tree r)) at_its_end ≡ and_then {A = Token} (cond c (bad unexpected (y ∷ us)) (bad unexpected (x ∷ y ∷ us))) (λ x r. did tree r)
    go true = refl
    go false = refl

module _ (A : Type 0) (made : List A → Content) (q : Reader Token (List A)) (ts : List Token) where
  abbrev file : Reader Token Content
  file = read_both (λ all x. made all) q (read_one (of words.is_end) itself)

  pub behind : (all : List A) (us : List Token) → q ts ≡ did all us → read_whole file ts ≡ and_then (read_alone us) (λ x r. did (made all) r)
  behind all us h = ap (λ o. and_then o at_its_end) (both_then (λ all x. made all) q (read_one (of words.is_end) itself) ts us all (read_one (of words.is_end) itself us) h refl) ∙ end_of (made all) us

  pub fails : (e : Fault) (rest : List Token) → q ts ≡ bad e rest → read_whole file ts ≡ bad e rest
  fails e rest h = ap (λ o. and_then o at_its_end) (both_at_first (λ all x. made all) q (read_one (of words.is_end) itself) ts rest e h)
