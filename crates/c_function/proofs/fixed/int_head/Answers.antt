use Rattle.std.proofs.Common.{◌≡◌, ◌++◌, ◌∷◌, List, Some, refl, sym, ap, ◌∙◌}
use Rattle.c_token.specs.CTokens.{CToken}
use Rattle.c_tree.specs.declared.item.CHead.{CHead}
use Rattle.c_tree.specs.declared.item.CHead.TheVariants as head
use Rattle.c_tree.specs.declared.name.FunctionName.TheVariants as function
use Rattle.c_tree.specs.Items.{function_token}
use Rattle.c_tree.specs.Names.{function_name}
use Rattle.c_function.specs.Heads.{behind_name, function_of, IsIntHead}
use Rattle.c_function.proofs.HeadRows.{completes_every, names_differ, tail_same}
use Rattle.c_function.proofs.Rows.{one_value}
use Rattle.c_function.proofs.fixed.int_head.Goals as goal

pub returns-in-Some-clause-every : goal.returns-in-Some-clause-every
returns-in-Some-clause-every c = λ x rest form e. go x rest form e
  where
    go : (x : CHead) (rest : List CToken) → IsIntHead x → c.args.input.now ≡ function_token (function_of x) ∷ (behind_name x ++ rest) → c.init.result ≡ Some x
    go (head.Plain n kind ps) rest h e = absurd h
    go (head.Overridable n kind ps) rest h e = absurd h
    go (head.Wrapper n) rest h e = absurd h
    go (head.New n) rest h e = absurd h
    go (head.Init n) rest h e =
        let there = e in
        let same = one_value _ _ (c.in-Some.ensures.every n (behind_name (head.Init n) ++ rest) h there) in
        completes_every (head.Init c.in-Some.number) (head.Init n) c.numbered.new.self rest c.init.result c.init.new.input c.init.ensures (ap (λ z. head.Init z) same) (tail_same _ _ _ _ (sym c.in-Some.ensures.some.1 ∙ there))
    go (head.Dealloc n) rest h e = absurd h
    go (head.Len n) rest h e = absurd h
    go (head.Item n) rest h e = absurd h
    go (head.Has n) rest h e = absurd (names_differ (function_name (function.Init c.in-Some.number)) (function_name (function_of (head.Has n))) _ _ refl (sym c.in-Some.ensures.some.1 ∙ (e)))
    go (head.Getter f) rest h e = absurd h
    go (head.Setter f) rest h e = absurd (names_differ (function_name (function.Init c.in-Some.number)) (function_name (function_of (head.Setter f))) _ _ refl (sym c.in-Some.ensures.some.1 ∙ (e)))
    go head.Body rest h e = absurd (names_differ (function_name (function.Init c.in-Some.number)) (function_name (function_of head.Body)) _ _ refl (sym c.in-Some.ensures.some.1 ∙ (e)))
    go (head.Initializer name) rest h e = absurd h

pub returns-in-Some-numbered-clause-every : goal.returns-in-Some-numbered-clause-every
returns-in-Some-numbered-clause-every c = λ x rest form e. go x rest form e
  where
    go : (x : CHead) (rest : List CToken) → IsIntHead x → c.args.input.now ≡ function_token (function_of x) ∷ (behind_name x ++ rest) → c.has.result ≡ Some x
    go (head.Plain n kind ps) rest h e = absurd h
    go (head.Overridable n kind ps) rest h e = absurd h
    go (head.Wrapper n) rest h e = absurd h
    go (head.New n) rest h e = absurd h
    go (head.Init n) rest h e = absurd (names_differ (function_name (function.Has c.in-Some-numbered.number)) (function_name (function_of (head.Init n))) _ _ refl (sym c.in-Some-numbered.ensures.some.1 ∙ (c.in_default.ensures.some ∙ e)))
    go (head.Dealloc n) rest h e = absurd h
    go (head.Len n) rest h e = absurd h
    go (head.Item n) rest h e = absurd h
    go (head.Has n) rest h e =
        let there = c.in_default.ensures.some ∙ e in
        let same = one_value _ _ (c.in-Some-numbered.ensures.every n (behind_name (head.Has n) ++ rest) h there) in
        completes_every (head.Has c.in-Some-numbered.number) (head.Has n) c.numbered-2.new.self rest c.has.result c.has.new.input c.has.ensures (ap (λ z. head.Has z) same) (tail_same _ _ _ _ (sym c.in-Some-numbered.ensures.some.1 ∙ there))
    go (head.Getter f) rest h e = absurd h
    go (head.Setter f) rest h e = absurd (names_differ (function_name (function.Has c.in-Some-numbered.number)) (function_name (function_of (head.Setter f))) _ _ refl (sym c.in-Some-numbered.ensures.some.1 ∙ (c.in_default.ensures.some ∙ e)))
    go head.Body rest h e = absurd (names_differ (function_name (function.Has c.in-Some-numbered.number)) (function_name (function_of head.Body)) _ _ refl (sym c.in-Some-numbered.ensures.some.1 ∙ (c.in_default.ensures.some ∙ e)))
    go (head.Initializer name) rest h e = absurd h

pub returns-in-Some-field-clause-every : goal.returns-in-Some-field-clause-every
returns-in-Some-field-clause-every c = λ x rest form e. go x rest form e
  where
    go : (x : CHead) (rest : List CToken) → IsIntHead x → c.args.input.now ≡ function_token (function_of x) ∷ (behind_name x ++ rest) → c.setter.result ≡ Some x
    go (head.Plain n kind ps) rest h e = absurd h
    go (head.Overridable n kind ps) rest h e = absurd h
    go (head.Wrapper n) rest h e = absurd h
    go (head.New n) rest h e = absurd h
    go (head.Init n) rest h e = absurd (names_differ (function_name (function.Setter c.in-Some-field.number)) (function_name (function_of (head.Init n))) _ _ refl (sym c.in-Some-field.ensures.some.1 ∙ (c.in_default-numbered.ensures.some ∙ (c.in_default.ensures.some ∙ e))))
    go (head.Dealloc n) rest h e = absurd h
    go (head.Len n) rest h e = absurd h
    go (head.Item n) rest h e = absurd h
    go (head.Has n) rest h e = absurd (names_differ (function_name (function.Setter c.in-Some-field.number)) (function_name (function_of (head.Has n))) _ _ refl (sym c.in-Some-field.ensures.some.1 ∙ (c.in_default-numbered.ensures.some ∙ (c.in_default.ensures.some ∙ e))))
    go (head.Getter f) rest h e = absurd h
    go (head.Setter f) rest h e =
        let there = c.in_default-numbered.ensures.some ∙ (c.in_default.ensures.some ∙ e) in
        let same = one_value _ _ (c.in-Some-field.ensures.every f (behind_name (head.Setter f) ++ rest) h there) in
        completes_every (head.Setter c.in-Some-field.number) (head.Setter f) c.field.new.input rest c.setter.result c.setter.new.input c.setter.ensures (ap (λ z. head.Setter z) same) (tail_same _ _ _ _ (sym c.in-Some-field.ensures.some.1 ∙ there))
    go head.Body rest h e = absurd (names_differ (function_name (function.Setter c.in-Some-field.number)) (function_name (function_of head.Body)) _ _ refl (sym c.in-Some-field.ensures.some.1 ∙ (c.in_default-numbered.ensures.some ∙ (c.in_default.ensures.some ∙ e))))
    go (head.Initializer name) rest h e = absurd h
