-- What a call names is a function of the compiler, or else a plain name.
use Rattle.std.proofs.Common.{◌≡◌, ℕ, List, Option, Some, None, Result, Ok, Err, ap, sym, ◌∙◌, subst}
use Rattle.std.specs.Prelude.{IfOk, IfSome, MatchOption}
use Rattle.c_tree.specs.declared.name.FunctionName.{FunctionName}
use Rattle.c_tree.specs.declared.statement.Callee.{Callee}
use Rattle.c_tree.specs.declared.statement.Callee.TheVariants as callee
use Rattle.c_tree.specs.Forms.{IsCallee, IsFunctionName}
use Rattle.c_tree.specs.Names.{function_name}
use Rattle.c_tree.specs.Statements.{callee_name}
use Rattle.c_word.specs.Keywords.{IsPlain}
use Rattle.c_word.proofs.Once.{function_once}

pub function_every : (f : FunctionName) (bytes : List ℕ) → IsFunctionName f × (function_name f ≡ bytes)
    → (g : Callee) → IsCallee g → callee_name g ≡ bytes → Some (callee.Function f) ≡ Some g
function_every f bytes h (callee.Function g) i d = ap (λ x. Some (callee.Function x)) (function_once f g h.0 i (h.1 ∙ sym d))
function_every f bytes h (callee.Named name) i d = absurd (i.other f h.0 (h.1 ∙ sym d))

module _ (bytes : List ℕ) (no : (f : FunctionName) → IsFunctionName f → function_name f ≡ bytes → ⊥) where
  pub plain_some : {E : Type 0} (r : Result (Option Callee) E) → IfOk r (λ found. MatchOption found (¬ (IsPlain bytes)) (λ f. (f ≡ callee.Named bytes) × IsPlain bytes))
      → IfOk r (λ found. IfSome found (λ f. IsCallee f × (callee_name f ≡ bytes)))
  plain_some (Err x) h = tt
  plain_some (Ok None) h = tt
  plain_some (Ok (Some f)) h =
      (subst IsCallee (sym h.0) (record { identifier = h.1.identifier; word = h.1.word; other = no }), ap callee_name h.0)

  none_every : (¬ (IsPlain bytes)) → (g : Callee) → IsCallee g → callee_name g ≡ bytes → None ≡ Some g
  none_every h (callee.Function g) i d = absurd (no g i d)
  none_every h (callee.Named name) i d =
      absurd (h (subst IsPlain d (record { identifier = i.identifier; word = i.word })))

  named_every : (f : Callee) → f ≡ callee.Named bytes → (g : Callee) → IsCallee g → callee_name g ≡ bytes → Some f ≡ Some g
  named_every f h (callee.Function g) i d = absurd (no g i d)
  named_every f h (callee.Named name) i d = ap Some (h ∙ ap callee.Named (sym d))

  pub plain_every : {E : Type 0} (r : Result (Option Callee) E) → IfOk r (λ found. MatchOption found (¬ (IsPlain bytes)) (λ f. (f ≡ callee.Named bytes) × IsPlain bytes))
      → IfOk r (λ found. (g : Callee) → IsCallee g → callee_name g ≡ bytes → found ≡ Some g)
  plain_every (Err x) h = tt
  plain_every (Ok None) h = none_every h
  plain_every (Ok (Some f)) h = named_every f h.0
