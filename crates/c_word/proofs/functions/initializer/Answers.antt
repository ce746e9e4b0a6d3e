use Rattle.std.proofs.Common.{◌≡◌, true, false, rules, ap, sym, ◌∙◌}
use Rattle.std.proofs.lemmas.Bool.{false≢true}
use Rattle.c_tree.specs.declared.name.FunctionName.TheVariants as function
use Rattle.c_word.specs.Numbers.{is_identifier}
use Rattle.c_word.proofs.Once.{identifier_is, identifier_test}
use Rattle.c_word.proofs.functions.initializer.Goals as goal

pub returns-then-not-is_identifier : goal.returns-then-not-is_identifier
returns-then-not-is_identifier c = λ h.
    let test : is_identifier c.args.name.now ≡ true = identifier_test c.args.name.now h in
    let no : c.is_identifier.result ≡ false = search rules in
    absurd (false≢true (sym no ∙ (c.is_identifier.ensures ∙ test)))

pub returns : goal.returns
returns c =
    let yes : c.is_identifier.result ≡ true = search rules in
    (ap function.Initializer c.in_ok-copied.ensures, identifier_is c.args.name.now (sym c.is_identifier.ensures ∙ yes))
