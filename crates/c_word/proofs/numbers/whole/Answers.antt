use Rattle.std.proofs.Common.{◌≡◌, Some, true, decimal, ap, sym, ◌∙◌, subst}
use Rattle.std.proofs.lemmas.Bool.Decides.{Decides-eqb}
use Rattle.std.proofs.lemmas.Fmt.{parse-decimal, IsAscii-decimal}
use Rattle.std.proofs.lemmas.Slice.Eq.{slice_eq-Decides}
use Rattle.std.proofs.lemmas.Str.{IsUtf8-from_ascii}
use Rattle.std.specs.Str.{IsUtf8}
use Rattle.c_word.proofs.numbers.whole.Goals as goal

pub returns-in_default-clause-every : goal.returns-in_default-clause-every
returns-in_default-clause-every c = λ n fits e.
    absurd (c.in_default.ensures.cases.0 (subst IsUtf8 e (IsUtf8-from_ascii (decimal n) (IsAscii-decimal n fits))))

pub returns-in_default-parse-clause-every : goal.returns-in_default-parse-clause-every
returns-in_default-parse-clause-every c = λ n fits e.
    let same : c.in-Ok.text.now ≡ decimal n = c.in-Ok.ensures.cases.0 ∙ sym e in
    absurd (cc (parse-decimal 64 n _ _ fits fits same c.parse.ensures.value.0))

pub returns-then-eq-clause-every : goal.returns-then-eq-clause-every
returns-then-eq-clause-every c = λ n fits e.
    let same : c.in-Ok.text.now ≡ decimal n = c.in-Ok.ensures.cases.0 ∙ sym e in
    let number : c.in-Ok-parse.number ≡ n = cc (parse-decimal 64 n _ _ fits fits same c.parse.ensures.value.0) in
    ap Some number

pub returns-else-eq-clause-every : goal.returns-else-eq-clause-every
returns-else-eq-clause-every c = λ n fits e.
    let same : c.in-Ok.text.now ≡ decimal n = c.in-Ok.ensures.cases.0 ∙ sym e in
    let number : c.in-Ok-parse.number ≡ n = cc (parse-decimal 64 n _ _ fits fits same c.parse.ensures.value.0) in
    let printed : c.as_bytes.result.now ≡ c.args.bytes.now = c.as_bytes.ensures.value ∙ (c.format.ensures.text ∙ (ap decimal number ∙ e)) in
    let equal : c.eq.result ≡ true = (slice_eq-Decides Decides-eqb _ _ _ c.eq.ensures).1 printed in
    absurd (cc)
