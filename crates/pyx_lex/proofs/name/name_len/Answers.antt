use Rattle.std.proofs.Common.{rules, not, ◌∙◌}
use Rattle.std.proofs.lemmas.Fn.{always_returns_same}
use Rattle.std.proofs.lemmas.List.{take_all}
use Rattle.unicode_ident.specs.Ident.{is_xid_continue}
use Rattle.pyx_lex.proofs.Fronts.{whole_passes, front_passes}
use Rattle.pyx_lex.proofs.name.name_len.Goals as goal

pub returns-in-Some-clause-name : goal.returns-in-Some-clause-name
returns-in-Some-clause-name c =
    let h = c.in-Some.ensures.cases in
    let found = h.1 (λ d. not (is_xid_continue d)) (always_returns_same _ _ _ (λ a r f' called. search rules)) in
    front_passes is_xid_continue c.args.text.now c.in-Some.at h.0 found.1.0 c.utf8.text h.3 found.0 found.1.1 found.1.2

pub returns-in-None-clause-name : goal.returns-in-None-clause-name
returns-in-None-clause-name c =
    let h = c.in-None.ensures.cases in
    let none = h (λ d. not (is_xid_continue d)) (always_returns_same _ _ _ (λ a r f' called. search rules)) in
    take_all _ _ (search rules) ∙ whole_passes is_xid_continue c.args.text.now c.utf8.text none
