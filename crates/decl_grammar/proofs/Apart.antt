-- Sets of classes of which no class is in both.
use Rattle.std.proofs.Common.{◌≡◌, Bool, true, false, not, ◌&&◌, ◌||◌, List, [], ◌∷◌, ◌++◌, refl, sym, ◌∙◌, ap}
use Rattle.pyx_lex.specs.declared.token.Token.{Token}
use Rattle.token_class.specs.Classes.{class_of}
use Rattle.token_class.specs.Every.{every}
use Rattle.token_class.specs.Sets.{Classes, of}
use Rattle.token_class.proofs.EveryOne.{every_one}
use Rattle.forms.specs.Forms.{Mark, plain, Begins}
use Rattle.forms.specs.Readers.{sees}

not_both : (a b : Bool) → not (a && b) ≡ true → a ≡ true → b ≡ false
not_both true true h k = sym h
not_both true false h k = refl
not_both false b h k = cc

pub apart_at : (a b : Classes) → every (λ x. not (a x && b x)) ≡ true → (t : Token) → of a t ≡ true → of b t ≡ false
apart_at a b h t k = let x = class_of t.kind in not_both (a x) (b x) (every_one (λ x. not (a x && b x)) h x) k

implied : (a b : Bool) → (not a || b) ≡ true → a ≡ true → b ≡ true
implied true b h k = h
implied false b h k = cc

-- each class of the one is of the other
pub within_at : (a b : Classes) → every (λ x. not (a x) || b x) ≡ true → (t : Token) → of a t ≡ true → of b t ≡ true
within_at a b h t k = let x = class_of t.kind in implied (a x) (b x) (every_one (λ x. not (a x) || b x) h x) k

-- tokens that begin as a sentence that begins with a token of the one begin with none of the other
pub begun : (a b : Classes) → every (λ x. not (a x && b x)) ≡ true → (us vs ws : List (Mark Token)) → us ≡ vs ++ ws → Begins false (of a) (plain vs) → sees (of b) (plain us) ≡ false
begun a b h us [] ws e n = cc
begun a b h us (z ∷ vs) ws e n = ap (λ w. sees (of b) (plain w)) e ∙ apart_at a b h z.0 n

pub true_false : (b : Bool) → b ≡ true → b ≡ false → ⊥
true_false true h k = cc
true_false false h k = cc
