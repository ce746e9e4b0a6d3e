use Rattle.std.proofs.Common.{◌≡◌, true, false, rules, ap, sym, ◌∙◌}
use Rattle.std.proofs.lemmas.Bool.{false≢true}
use Rattle.c_tree.specs.declared.statement.Callee.TheVariants as callee
use Rattle.c_word.specs.Keywords.{IsPlain}
use Rattle.c_word.specs.Numbers.{is_identifier}
use Rattle.c_word.proofs.Once.{identifier_is, identifier_test}
use Rattle.c_word.proofs.functions.plain.Goals as goal

pub returns-then-not-is_identifier : goal.returns-then-not-is_identifier
returns-then-not-is_identifier c = λ h.
    let test : is_identifier c.args.bytes.now ≡ true = identifier_test c.args.bytes.now h.identifier in
    let no : c.is_identifier.result ≡ false = search rules in
    absurd (false≢true (sym no ∙ (c.is_identifier.ensures ∙ test)))

pub returns-then-is_keyword : goal.returns-then-is_keyword
returns-then-is_keyword c = λ h. absurd (false≢true (sym h.word ∙ (sym c.is_keyword.ensures ∙ c.if-is_keyword.true)))

pub returns : goal.returns
returns c =
    let yes : c.is_identifier.result ≡ true = search rules in
    let plain : IsPlain c.args.bytes.now = record {
      identifier = identifier_is c.args.bytes.now (sym c.is_identifier.ensures ∙ yes);
      word = sym c.is_keyword.ensures ∙ c.if-is_keyword.false;
    } in
    (ap callee.Named c.in_ok-copied.ensures, plain)
