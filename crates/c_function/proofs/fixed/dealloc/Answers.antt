use Rattle.std.proofs.Common.{◌≡◌, ◌++◌, ◌∷◌, List, Some, ap}
use Rattle.c_token.specs.CTokens.{CToken}
use Rattle.c_tree.specs.declared.item.CHead.{CHead}
use Rattle.c_tree.specs.declared.item.CHead.TheVariants as head
use Rattle.c_tree.specs.Items.{function_token}
use Rattle.c_function.specs.Heads.{behind_name, function_of, self_parameter, IsDealloc}
use Rattle.c_function.proofs.Rows.{one_value}
use Rattle.c_function.proofs.fixed.dealloc.Goals as goal

pub returns-in_err-number-clause-every : goal.returns-in_err-number-clause-every
returns-in_err-number-clause-every c = λ x rest form e. absurd (go x rest form e)
  where
    go : (x : CHead) (rest : List CToken) → IsDealloc x → c.args.input.now ≡ function_token (function_of x) ∷ (behind_name x ++ rest) → ⊥
    go (head.Plain n kind ps) rest h e = h
    go (head.Overridable n kind ps) rest h e = h
    go (head.Wrapper n) rest h e = h
    go (head.New n) rest h e = h
    go (head.Init n) rest h e = h
    go (head.Dealloc n) rest h e = cc (c.in_err-number.ensures.every n (self_parameter ++ rest) h e)
    go (head.Len n) rest h e = h
    go (head.Item n) rest h e = h
    go (head.Has n) rest h e = h
    go (head.Getter f) rest h e = h
    go (head.Setter f) rest h e = h
    go head.Body rest h e = h
    go (head.Initializer name) rest h e = h

pub returns-then-takes_self-clause-every : goal.returns-then-takes_self-clause-every
returns-then-takes_self-clause-every c = λ x rest form e. go x rest form e
  where
    go : (x : CHead) (rest : List CToken) → IsDealloc x → c.args.input.now ≡ function_token (function_of x) ∷ (behind_name x ++ rest) → Some (head.Dealloc c.in_ok-number.number) ≡ Some x
    go (head.Plain n kind ps) rest h e = absurd h
    go (head.Overridable n kind ps) rest h e = absurd h
    go (head.Wrapper n) rest h e = absurd h
    go (head.New n) rest h e = absurd h
    go (head.Init n) rest h e = absurd h
    go (head.Dealloc n) rest h e = ap (λ z. Some (head.Dealloc z)) (one_value _ _ (c.in_ok-number.ensures.every n (self_parameter ++ rest) h e))
    go (head.Len n) rest h e = absurd h
    go (head.Item n) rest h e = absurd h
    go (head.Has n) rest h e = absurd h
    go (head.Getter f) rest h e = absurd h
    go (head.Setter f) rest h e = absurd h
    go head.Body rest h e = absurd h
    go (head.Initializer name) rest h e = absurd h
