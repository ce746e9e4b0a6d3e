use Rattle.std.proofs.Common.{◌≡◌, ◌++◌, ◌∷◌, ℕ, List, Some, ◌⊎◌, inl, inr, sym, ap, ◌∙◌}
use Rattle.std.specs.Prelude.{◌≢◌, slice_get}
use Rattle.c_token.specs.CTokens.{CToken, Word, sign}
use Rattle.c_tree.specs.declared.value.CValue.{CValue}
use Rattle.c_tree.specs.declared.value.CValue.TheVariants as value
use Rattle.c_tree.specs.Values.{value_spelling}
use Rattle.c_input.specs.Addresses.{IsStored}
use Rattle.c_operand.specs.Values.{IsObject}
use Rattle.c_operand.proofs.Opens.{front_word, no_number, number_only, object_is, object_value, object_words, same_front, stored_no_object, worded_first, BeginsWith}
use Rattle.c_operand.proofs.values.worded.Goals as goal

pub returns-in_err-word-clause-every : goal.returns-in_err-word-clause-every
returns-in_err-word-clause-every c = λ v rest form apart e.
    let f = worded_first v form in
    absurd (c.in_err-word.ensures.every f.letters (f.more ++ rest) (e ∙ ap (λ (t : List CToken). t ++ rest) f.is))

pub returns-in_err-found-clause-every : goal.returns-in_err-found-clause-every
returns-in_err-found-clause-every c = λ v rest form apart e.
    let f = front_word v rest c.args.input.now c.in_ok-word.word.now form e c.in_ok-word.ensures.some in
    let l = number_only v c.in_ok-word.word.now form f (sym c.begins_number.ensures ∙ c.if-begins_number.true) in
    absurd (cc (c.in_err-found.ensures.every l.literal rest l.form (e ∙ ap (λ z. value_spelling z ++ rest) l.is)))

pub returns-then-begins_number-clause-every : goal.returns-then-begins_number-clause-every
returns-then-begins_number-clause-every c = λ v rest form apart e.
    let f = front_word v rest c.args.input.now c.in_ok-word.word.now form e c.in_ok-word.ensures.some in
    let l = number_only v c.in_ok-word.word.now form f (sym c.begins_number.ensures ∙ c.if-begins_number.true) in
    let same : Some c.in_ok-found.found ≡ Some l.literal = c.in_ok-found.ensures.every l.literal rest l.form (e ∙ ap (λ z. value_spelling z ++ rest) l.is) in
    let is : v ≡ value.Literal l.literal = l.is in
    cc

pub returns-in_err-word-2-clause-every : goal.returns-in_err-word-2-clause-every
returns-in_err-word-2-clause-every c = λ v rest form apart e.
    let f = worded_first v form in
    absurd (c.in_err-word-2.ensures.every f.letters (f.more ++ rest) (e ∙ ap (λ (t : List CToken). t ++ rest) f.is))

pub returns-in-Some-clause-some : goal.returns-in-Some-clause-some
returns-in-Some-clause-some c =
    let h = c.in-Some.ensures.some in
    let name : c.in_ok-word-2.field-0.now ≡ c.in_ok-word.word.now = same_front c.args.input.now c.word.new.self c.in_ok-word-2.field-0.now c.in_ok-word.word.now c.in_ok-word-2.ensures.some c.in_ok-word.ensures.some in
    let spelled = object_words c.in-Some.found h.0 in (
      object_value c.in-Some.found h.0,
      c.in_ok-word-2.ensures.some ∙ (ap (λ (w : List ℕ). Word w ∷ c.word.new.self) (name ∙ sym h.1) ∙ ap (λ (t : List CToken). t ++ c.word.new.self) (sym spelled)),
    )

pub returns-in-Some-clause-every : goal.returns-in-Some-clause-every
returns-in-Some-clause-every c = λ v rest form apart e.
    let f = front_word v rest c.args.input.now c.in_ok-word.word.now form e c.in_ok-word.ensures.some in
    go v f (no_number v c.in_ok-word.word.now form f (sym c.begins_number.ensures ∙ c.if-begins_number.false))
  where
    go : (v : CValue) → BeginsWith v c.in_ok-word.word.now → IsObject v ⊎ IsStored v → Some c.in-Some.found ≡ Some v
    go v f (inl h) = c.in-Some.ensures.every v h (object_is v c.in_ok-word.word.now h f)
    go v f (inr h) = absurd (stored_no_object v c.in-Some.found c.in_ok-word.word.now h f c.in-Some.ensures.some.0 c.in-Some.ensures.some.1)

pub returns-clause-every : goal.returns-clause-every
returns-clause-every c = λ v rest form apart e.
    let f = front_word v rest c.args.input.now c.in_ok-word.word.now form e c.in_ok-word.ensures.some in
    go v rest apart e f (no_number v c.in_ok-word.word.now form f (sym c.begins_number.ensures ∙ c.if-begins_number.false))
  where
    go : (v : CValue) (rest : List CToken) → slice_get rest 0 ≢ Some (sign "[") → c.args.input.now ≡ value_spelling v ++ rest → BeginsWith v c.in_ok-word.word.now → IsObject v ⊎ IsStored v → c.stored.result ≡ Some v
    go v rest apart e f (inl h) = absurd (cc (c.in_default.ensures.every v h (object_is v c.in_ok-word.word.now h f)))
    go v rest apart e f (inr h) = c.stored.ensures.every v rest h apart e
