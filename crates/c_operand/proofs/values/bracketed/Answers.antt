use Rattle.std.proofs.Common.{◌≡◌, ◌++◌, List, Some, refl, ap, ◌∙◌}
use Rattle.std.specs.Prelude.{slice_get}
use Rattle.c_token.specs.CTokens.{CToken, sign, word}
use Rattle.c_tree.specs.declared.value.CValue.{CValue}
use Rattle.c_tree.specs.declared.value.CValue.TheVariants as value
use Rattle.c_tree.specs.Values.{value_spelling}
use Rattle.c_operand.specs.Values.{IsBracketed}
use Rattle.c_operand.proofs.Opens.{class_second, negative_second, not_false, two_signs}
use Rattle.c_operand.proofs.values.bracketed.Goals as goal

pub returns-in_err-found-clause-every : goal.returns-in_err-found-clause-every
returns-in_err-found-clause-every c = λ v rest form e. absurd (go v rest form e)
  where
    go : (v : CValue) (rest : List CToken) → IsBracketed v → c.args.input.now ≡ value_spelling v ++ rest → ⊥
    go (value.Literal l) rest h e = cc (c.in_err-found.ensures.every l rest h.0 e)
    go (value.ClassObject n) rest h e =
        two_signs c.args.input.now 1 (word "PyObject") (sign "-") refl (ap (λ (t : List CToken). slice_get t 1) e ∙ class_second n rest) (c.sees.ensures.0 c.if-sees.true)
    go (value.Variable x) rest h e = h
    go (value.Argument j) rest h e = h
    go value.Null rest h e = h
    go value.NoneObject rest h e = h
    go value.TrueObject rest h e = h
    go value.FalseObject rest h e = h
    go (value.Exception x) rest h e = h
    go (value.TypeAddress n) rest h e = h
    go value.Definition rest h e = h

pub returns-then-sees-clause-every : goal.returns-then-sees-clause-every
returns-then-sees-clause-every c = λ v rest form e. go v rest form e
  where
    go : (v : CValue) (rest : List CToken) → IsBracketed v → c.args.input.now ≡ value_spelling v ++ rest → Some (value.Literal c.in_ok-found.found) ≡ Some v
    go (value.Literal l) rest h e = let same : Some c.in_ok-found.found ≡ Some l = c.in_ok-found.ensures.every l rest h.0 e in cc
    go (value.ClassObject n) rest h e =
        absurd (two_signs c.args.input.now 1 (word "PyObject") (sign "-") refl (ap (λ (t : List CToken). slice_get t 1) e ∙ class_second n rest) (c.sees.ensures.0 c.if-sees.true))
    go (value.Variable x) rest h e = absurd h
    go (value.Argument j) rest h e = absurd h
    go value.Null rest h e = absurd h
    go value.NoneObject rest h e = absurd h
    go value.TrueObject rest h e = absurd h
    go value.FalseObject rest h e = absurd h
    go (value.Exception x) rest h e = absurd h
    go (value.TypeAddress n) rest h e = absurd h
    go value.Definition rest h e = absurd h

pub returns-clause-every : goal.returns-clause-every
returns-clause-every c = λ v rest form e. go v rest form e
  where
    go : (v : CValue) (rest : List CToken) → IsBracketed v → c.args.input.now ≡ value_spelling v ++ rest → c.class_object.result ≡ Some v
    go (value.Literal l) rest h e = absurd (not_false c.if-sees.false (c.sees.ensures.1 (ap (λ (t : List CToken). slice_get t 1) e ∙ negative_second l rest h)))
    go (value.ClassObject n) rest h e = c.class_object.ensures.every (value.ClassObject n) rest h e
    go (value.Variable x) rest h e = absurd h
    go (value.Argument j) rest h e = absurd h
    go value.Null rest h e = absurd h
    go value.NoneObject rest h e = absurd h
    go value.TrueObject rest h e = absurd h
    go value.FalseObject rest h e = absurd h
    go (value.Exception x) rest h e = absurd h
    go (value.TypeAddress n) rest h e = absurd h
    go value.Definition rest h e = absurd h
