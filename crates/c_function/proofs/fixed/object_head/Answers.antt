use Rattle.std.proofs.Common.{◌≡◌, ◌++◌, ◌∷◌, List, Some, refl, sym, ap, ◌∙◌}
use Rattle.c_token.specs.CTokens.{CToken}
use Rattle.c_tree.specs.declared.item.CHead.{CHead}
use Rattle.c_tree.specs.declared.item.CHead.TheVariants as head
use Rattle.c_tree.specs.declared.name.FunctionName.TheVariants as function
use Rattle.c_tree.specs.Items.{function_token}
use Rattle.c_tree.specs.Names.{function_name}
use Rattle.c_function.specs.Heads.{behind_name, function_of, IsObjectHead}
use Rattle.c_function.proofs.HeadRows.{completes_every, names_differ, tail_same}
use Rattle.c_function.proofs.Rows.{one_value}
use Rattle.c_function.proofs.fixed.object_head.Goals as goal

pub returns-in-Some-clause-every : goal.returns-in-Some-clause-every
returns-in-Some-clause-every c = λ x rest form e. go x rest form e
  where
    go : (x : CHead) (rest : List CToken) → IsObjectHead x → c.args.input.now ≡ function_token (function_of x) ∷ (behind_name x ++ rest) → c.wrapper.result ≡ Some x
    go (head.Plain n kind ps) rest h e = absurd h
    go (head.Overridable n kind ps) rest h e = absurd h
    go (head.Wrapper n) rest h e =
        let there = e in
        let same = one_value _ _ (c.in-Some.ensures.every n (behind_name (head.Wrapper n) ++ rest) h there) in
        completes_every (head.Wrapper c.in-Some.number) (head.Wrapper n) c.numbered.new.self rest c.wrapper.result c.wrapper.new.input c.wrapper.ensures (ap (λ z. head.Wrapper z) same) (tail_same _ _ _ _ (sym c.in-Some.ensures.some.1 ∙ there))
    go (head.New n) rest h e = absurd (names_differ (function_name (function.Wrapper c.in-Some.number)) (function_name (function_of (head.New n))) _ _ refl (sym c.in-Some.ensures.some.1 ∙ (e)))
    go (head.Init n) rest h e = absurd h
    go (head.Dealloc n) rest h e = absurd h
    go (head.Len n) rest h e = absurd h
    go (head.Item n) rest h e = absurd (names_differ (function_name (function.Wrapper c.in-Some.number)) (function_name (function_of (head.Item n))) _ _ refl (sym c.in-Some.ensures.some.1 ∙ (e)))
    go (head.Has n) rest h e = absurd h
    go (head.Getter f) rest h e = absurd (names_differ (function_name (function.Wrapper c.in-Some.number)) (function_name (function_of (head.Getter f))) _ _ refl (sym c.in-Some.ensures.some.1 ∙ (e)))
    go (head.Setter f) rest h e = absurd h
    go head.Body rest h e = absurd h
    go (head.Initializer name) rest h e = absurd h

pub returns-in-Some-numbered-clause-every : goal.returns-in-Some-numbered-clause-every
returns-in-Some-numbered-clause-every c = λ x rest form e. go x rest form e
  where
    go : (x : CHead) (rest : List CToken) → IsObjectHead x → c.args.input.now ≡ function_token (function_of x) ∷ (behind_name x ++ rest) → c.new.result ≡ Some x
    go (head.Plain n kind ps) rest h e = absurd h
    go (head.Overridable n kind ps) rest h e = absurd h
    go (head.Wrapper n) rest h e = absurd (names_differ (function_name (function.New c.in-Some-numbered.number)) (function_name (function_of (head.Wrapper n))) _ _ refl (sym c.in-Some-numbered.ensures.some.1 ∙ (c.in_default.ensures.some ∙ e)))
    go (head.New n) rest h e =
        let there = c.in_default.ensures.some ∙ e in
        let same = one_value _ _ (c.in-Some-numbered.ensures.every n (behind_name (head.New n) ++ rest) h there) in
        completes_every (head.New c.in-Some-numbered.number) (head.New n) c.numbered-2.new.self rest c.new.result c.new.new.input c.new.ensures (ap (λ z. head.New z) same) (tail_same _ _ _ _ (sym c.in-Some-numbered.ensures.some.1 ∙ there))
    go (head.Init n) rest h e = absurd h
    go (head.Dealloc n) rest h e = absurd h
    go (head.Len n) rest h e = absurd h
    go (head.Item n) rest h e = absurd (names_differ (function_name (function.New c.in-Some-numbered.number)) (function_name (function_of (head.Item n))) _ _ refl (sym c.in-Some-numbered.ensures.some.1 ∙ (c.in_default.ensures.some ∙ e)))
    go (head.Has n) rest h e = absurd h
    go (head.Getter f) rest h e = absurd (names_differ (function_name (function.New c.in-Some-numbered.number)) (function_name (function_of (head.Getter f))) _ _ refl (sym c.in-Some-numbered.ensures.some.1 ∙ (c.in_default.ensures.some ∙ e)))
    go (head.Setter f) rest h e = absurd h
    go head.Body rest h e = absurd h
    go (head.Initializer name) rest h e = absurd h

pub returns-in_err-number-clause-every : goal.returns-in_err-number-clause-every
returns-in_err-number-clause-every c = λ x rest form e. absurd (go x rest form e)
  where
    go : (x : CHead) (rest : List CToken) → IsObjectHead x → c.args.input.now ≡ function_token (function_of x) ∷ (behind_name x ++ rest) → ⊥
    go (head.Plain n kind ps) rest h e = h
    go (head.Overridable n kind ps) rest h e = h
    go (head.Wrapper n) rest h e = cc (c.in_default.ensures.every n (behind_name (head.Wrapper n) ++ rest) h (e))
    go (head.New n) rest h e = cc (c.in_default-numbered.ensures.every n (behind_name (head.New n) ++ rest) h (c.in_default.ensures.some ∙ e))
    go (head.Init n) rest h e = h
    go (head.Dealloc n) rest h e = h
    go (head.Len n) rest h e = h
    go (head.Item n) rest h e = cc (c.in_default-numbered-2.ensures.every n (behind_name (head.Item n) ++ rest) h (c.in_default-numbered.ensures.some ∙ (c.in_default.ensures.some ∙ e)))
    go (head.Has n) rest h e = h
    go (head.Getter f) rest h e = cc (c.in_err-number.ensures.every f (behind_name (head.Getter f) ++ rest) h (c.in_default-numbered-2.ensures.some ∙ (c.in_default-numbered.ensures.some ∙ (c.in_default.ensures.some ∙ e))))
    go (head.Setter f) rest h e = h
    go head.Body rest h e = h
    go (head.Initializer name) rest h e = h
