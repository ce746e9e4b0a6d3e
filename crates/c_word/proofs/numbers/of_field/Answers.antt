use Rattle.std.proofs.Common.{◌∙◌, sym, decimal, arith}
use Rattle.c_word.specs.Numbers.{two_numbers}
use Rattle.c_word.proofs.Halves.{decimal_digits}
use Rattle.c_word.proofs.Parts.{field_parts, field_same}
use Rattle.c_word.proofs.numbers.of_field.Goals as goal

pub returns-in_err-module-clause-every : goal.returns-in_err-module-clause-every
returns-in_err-module-clause-every c = λ f fits e.
    let rest = field_parts c.args.letters.now c.in_ok-behind.field-0.now f.class.module f.class.index f.field (e ∙ c.in_ok-behind.ensures) in
    absurd (c.in_err-module.ensures.every (decimal f.class.module) (two_numbers f.class.index f.field) (decimal_digits f.class.module (omega (arith, fits.0.0))) rest)

pub returns-in_err-module-2-clause-every : goal.returns-in_err-module-2-clause-every
returns-in_err-module-2-clause-every c = λ f fits e.
    let rest = field_parts c.args.letters.now c.in_ok-behind.field-0.now f.class.module f.class.index f.field (e ∙ c.in_ok-behind.ensures) in
    let parts = c.in_ok-module.ensures.every (decimal f.class.module) (two_numbers f.class.index f.field) (decimal_digits f.class.module (omega (arith, fits.0.0))) rest in
    absurd (cc (c.in_err-module-2.ensures.every f.class.module fits.0.0 (sym parts.0)))

pub returns-in_err-index-clause-every : goal.returns-in_err-index-clause-every
returns-in_err-index-clause-every c = λ f fits e.
    let rest = field_parts c.args.letters.now c.in_ok-behind.field-0.now f.class.module f.class.index f.field (e ∙ c.in_ok-behind.ensures) in
    let parts = c.in_ok-module.ensures.every (decimal f.class.module) (two_numbers f.class.index f.field) (decimal_digits f.class.module (omega (arith, fits.0.0))) rest in
    absurd (cc (c.in_err-index.ensures.every f.class.index f.field fits.0.1 fits.1 (sym parts.1)))

pub returns-clause-every : goal.returns-clause-every
returns-clause-every c = λ f fits e.
    let rest = field_parts c.args.letters.now c.in_ok-behind.field-0.now f.class.module f.class.index f.field (e ∙ c.in_ok-behind.ensures) in
    let parts = c.in_ok-module.ensures.every (decimal f.class.module) (two_numbers f.class.index f.field) (decimal_digits f.class.module (omega (arith, fits.0.0))) rest in
    field_same c.in_ok-module-2.module f.class.module (c.in_ok-index.index, c.in_ok-index.field) (f.class.index, f.field)
    (c.in_ok-module-2.ensures.every f.class.module fits.0.0 (sym parts.0))
    (c.in_ok-index.ensures.every f.class.index f.field fits.0.1 fits.1 (sym parts.1))
