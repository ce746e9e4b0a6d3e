use Rattle.std.proofs.Common.{◌≡◌, ◌≢◌, ◌++◌, List, ℕ, Some, ap, sym, ◌∙◌}
use Rattle.std.specs.Prelude.{codes}
use Rattle.std.proofs.lemmas.Bool.Decides.{Decides-eqb}
use Rattle.std.proofs.lemmas.Slice.Eq.{slice_eq-Decides}
use Rattle.c_tree.specs.declared.name.FunctionName.{FunctionName}
use Rattle.c_tree.specs.declared.name.FunctionName.TheVariants as function
use Rattle.c_tree.specs.Names.{function_name}
use Rattle.c_tree.specs.Forms.{IsFunctionName}
use Rattle.c_word.proofs.Once.{function_once, equal, not_equal}
use Rattle.c_word.proofs.functions.compiled.Goals as goal

pub returns-in-Some-clause-some : goal.returns-in-Some-clause-some
returns-in-Some-clause-some c = (c.in-Some.ensures.some.0, c.in-Some.ensures.some.1)

pub returns-in-Some-clause-every : goal.returns-in-Some-clause-every
returns-in-Some-clause-every c = λ f form e other.
    ap Some (function_once (function.Plain c.in-Some.number) f c.in-Some.ensures.some.0 form (c.in-Some.ensures.some.1 ∙ sym e))

pub returns-in-Some-numbered-clause-some : goal.returns-in-Some-numbered-clause-some
returns-in-Some-numbered-clause-some c = (c.in-Some-numbered.ensures.some.0, c.in-Some-numbered.ensures.some.1)

pub returns-in-Some-numbered-clause-every : goal.returns-in-Some-numbered-clause-every
returns-in-Some-numbered-clause-every c = λ f form e other.
    ap Some (function_once (function.Wrapper c.in-Some-numbered.number) f c.in-Some-numbered.ensures.some.0 form (c.in-Some-numbered.ensures.some.1 ∙ sym e))

pub returns-in-Some-numbered-2-clause-some : goal.returns-in-Some-numbered-2-clause-some
returns-in-Some-numbered-2-clause-some c = (c.in-Some-numbered-2.ensures.some.0, c.in-Some-numbered-2.ensures.some.1)

pub returns-in-Some-numbered-2-clause-every : goal.returns-in-Some-numbered-2-clause-every
returns-in-Some-numbered-2-clause-every c = λ f form e other.
    ap Some (function_once (function.Overridable c.in-Some-numbered-2.number) f c.in-Some-numbered-2.ensures.some.0 form (c.in-Some-numbered-2.ensures.some.1 ∙ sym e))

pub returns-in-Some-numbered-3-clause-some : goal.returns-in-Some-numbered-3-clause-some
returns-in-Some-numbered-3-clause-some c = (c.in-Some-numbered-3.ensures.some.0, c.in-Some-numbered-3.ensures.some.1)

pub returns-in-Some-numbered-3-clause-every : goal.returns-in-Some-numbered-3-clause-every
returns-in-Some-numbered-3-clause-every c = λ f form e other.
    ap Some (function_once (function.New c.in-Some-numbered-3.number) f c.in-Some-numbered-3.ensures.some.0 form (c.in-Some-numbered-3.ensures.some.1 ∙ sym e))

pub returns-in-Some-numbered-4-clause-some : goal.returns-in-Some-numbered-4-clause-some
returns-in-Some-numbered-4-clause-some c = (c.in-Some-numbered-4.ensures.some.0, c.in-Some-numbered-4.ensures.some.1)

pub returns-in-Some-numbered-4-clause-every : goal.returns-in-Some-numbered-4-clause-every
returns-in-Some-numbered-4-clause-every c = λ f form e other.
    ap Some (function_once (function.Init c.in-Some-numbered-4.number) f c.in-Some-numbered-4.ensures.some.0 form (c.in-Some-numbered-4.ensures.some.1 ∙ sym e))

pub returns-in-Some-numbered-5-clause-some : goal.returns-in-Some-numbered-5-clause-some
returns-in-Some-numbered-5-clause-some c = (c.in-Some-numbered-5.ensures.some.0, c.in-Some-numbered-5.ensures.some.1)

pub returns-in-Some-numbered-5-clause-every : goal.returns-in-Some-numbered-5-clause-every
returns-in-Some-numbered-5-clause-every c = λ f form e other.
    ap Some (function_once (function.Dealloc c.in-Some-numbered-5.number) f c.in-Some-numbered-5.ensures.some.0 form (c.in-Some-numbered-5.ensures.some.1 ∙ sym e))

pub returns-in-Some-numbered-6-clause-some : goal.returns-in-Some-numbered-6-clause-some
returns-in-Some-numbered-6-clause-some c = (c.in-Some-numbered-6.ensures.some.0, c.in-Some-numbered-6.ensures.some.1)

pub returns-in-Some-numbered-6-clause-every : goal.returns-in-Some-numbered-6-clause-every
returns-in-Some-numbered-6-clause-every c = λ f form e other.
    ap Some (function_once (function.Len c.in-Some-numbered-6.number) f c.in-Some-numbered-6.ensures.some.0 form (c.in-Some-numbered-6.ensures.some.1 ∙ sym e))

pub returns-in-Some-numbered-7-clause-some : goal.returns-in-Some-numbered-7-clause-some
returns-in-Some-numbered-7-clause-some c = (c.in-Some-numbered-7.ensures.some.0, c.in-Some-numbered-7.ensures.some.1)

pub returns-in-Some-numbered-7-clause-every : goal.returns-in-Some-numbered-7-clause-every
returns-in-Some-numbered-7-clause-every c = λ f form e other.
    ap Some (function_once (function.Item c.in-Some-numbered-7.number) f c.in-Some-numbered-7.ensures.some.0 form (c.in-Some-numbered-7.ensures.some.1 ∙ sym e))

pub returns-in-Some-numbered-8-clause-some : goal.returns-in-Some-numbered-8-clause-some
returns-in-Some-numbered-8-clause-some c = (c.in-Some-numbered-8.ensures.some.0, c.in-Some-numbered-8.ensures.some.1)

pub returns-in-Some-numbered-8-clause-every : goal.returns-in-Some-numbered-8-clause-every
returns-in-Some-numbered-8-clause-every c = λ f form e other.
    ap Some (function_once (function.Has c.in-Some-numbered-8.number) f c.in-Some-numbered-8.ensures.some.0 form (c.in-Some-numbered-8.ensures.some.1 ∙ sym e))

pub returns-in-Some-of_field-clause-some : goal.returns-in-Some-of_field-clause-some
returns-in-Some-of_field-clause-some c = (c.in-Some-of_field.ensures.some.0, c.in-Some-of_field.ensures.some.1)

pub returns-in-Some-of_field-clause-every : goal.returns-in-Some-of_field-clause-every
returns-in-Some-of_field-clause-every c = λ f form e other.
    ap Some (function_once (function.Getter c.in-Some-of_field.number) f c.in-Some-of_field.ensures.some.0 form (c.in-Some-of_field.ensures.some.1 ∙ sym e))

pub returns-in-Some-of_field-2-clause-some : goal.returns-in-Some-of_field-2-clause-some
returns-in-Some-of_field-2-clause-some c = (c.in-Some-of_field-2.ensures.some.0, c.in-Some-of_field-2.ensures.some.1)

pub returns-in-Some-of_field-2-clause-every : goal.returns-in-Some-of_field-2-clause-every
returns-in-Some-of_field-2-clause-every c = λ f form e other.
    ap Some (function_once (function.Setter c.in-Some-of_field-2.number) f c.in-Some-of_field-2.ensures.some.0 form (c.in-Some-of_field-2.ensures.some.1 ∙ sym e))

pub returns-then-eq-clause-every : goal.returns-then-eq-clause-every
returns-then-eq-clause-every c = λ f form e other.
    ap Some (function_once function.Body f tt form (sym c.as_slice.ensures ∙ (equal _ _ _ (slice_eq-Decides Decides-eqb _ _ _ c.eq.ensures) c.if-eq.true ∙ sym e)))

none : (c : goal.Else-eq) → (f : FunctionName) → IsFunctionName f → function_name f ≡ c.args.bytes.now → ((name : List ℕ) → c.args.bytes.now ≢ codes "PyInit_" ++ name) → ⊥
none c (function.Plain n) h e other = c.in_default.not-Some n (c.numbered.ensures.every n h e)
none c (function.Wrapper n) h e other = c.in_default-numbered.not-Some n (c.numbered-2.ensures.every n h e)
none c (function.Overridable n) h e other = c.in_default-numbered-2.not-Some n (c.numbered-3.ensures.every n h e)
none c (function.New n) h e other = c.in_default-numbered-3.not-Some n (c.numbered-4.ensures.every n h e)
none c (function.Init n) h e other = c.in_default-numbered-4.not-Some n (c.numbered-5.ensures.every n h e)
none c (function.Dealloc n) h e other = c.in_default-numbered-5.not-Some n (c.numbered-6.ensures.every n h e)
none c (function.Len n) h e other = c.in_default-numbered-6.not-Some n (c.numbered-7.ensures.every n h e)
none c (function.Item n) h e other = c.in_default-numbered-7.not-Some n (c.numbered-8.ensures.every n h e)
none c (function.Has n) h e other = c.in_default-numbered-8.not-Some n (c.numbered-9.ensures.every n h e)
none c (function.Getter n) h e other = c.in_default-of_field.not-Some n (c.of_field.ensures.every n h e)
none c (function.Setter n) h e other = c.in_default-of_field-2.not-Some n (c.of_field-2.ensures.every n h e)
none c function.Body h e other = not_equal _ _ _ _ (slice_eq-Decides Decides-eqb _ _ _ c.eq.ensures) c.if-eq.false c.as_slice.ensures e
none c (function.Initializer name) h e other = other name (sym e)

pub returns-clause-every : goal.returns-clause-every
returns-clause-every c = λ f form e other. absurd (none c f form e other)
