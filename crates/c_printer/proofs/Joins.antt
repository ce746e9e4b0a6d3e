-- What is written behind what was written.
use Rattle.std.proofs.Common.{◌≡◌, List, ◌++◌, ◌∙◌, ap, append_assoc}
use Rattle.std.specs.Prelude.{Result, Ok, Err, IfOk}

pub behind : {A E : Type 0} (r : Result (List A) E) (out x p q : List A) → x ≡ out ++ p → IfOk r (λ new. new ≡ x ++ q) → IfOk r (λ new. new ≡ out ++ (p ++ q))
behind (Ok new) out x p q e h = h ∙ (ap (λ z. z ++ q) e ∙ append_assoc out p q)
behind (Err b) out x p q e h = h
