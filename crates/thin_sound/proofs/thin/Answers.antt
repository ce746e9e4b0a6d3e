use Rattle.std.proofs.Common.{sym, subst, List, All}
use Rattle.std.proofs.lemmas.List.Elements.{All-from_recursion}
use Rattle.thin_state.specs.CReading.{IsFileInForm}
use Rattle.thin_state.specs.declared.CFile.{CFile}
use Rattle.thin_code.specs.ThinC.{thin_files}
use Rattle.cy_mean.specs.Source.{thin_set}
use Rattle.cy_mean.specs.Sound.{IsSound}
use Rattle.thin_sound.proofs.InForm.{thin_in_form}
use Rattle.thin_sound.proofs.ThinSound.Theorem.{sound}
use Rattle.thin_sound.proofs.thin.Goals as goal

pub returns-in_ok-compile-in-Some-clause-in_form : goal.returns-in_ok-compile-in-Some-clause-in_form
returns-in_ok-compile-in-Some-clause-in_form c = λ identifier.
    let name = c.args.name.now in
    let function = c.in-Some.function in
    let found = rw c.in-Some.is at c.in_ok-function.ensures.found in
    let in_form = All-from_recursion IsFileInForm (thin_files name function) (thin_in_form name function identifier found.0) in
    subst (λ (files : List CFile). All IsFileInForm files) (sym c.in_ok-compile-in-Some.ensures) in_form

pub returns-in_ok-compile-in-Some-clause-sound : goal.returns-in_ok-compile-in-Some-clause-sound
returns-in_ok-compile-in-Some-clause-sound c =
    let name = c.args.name.now in
    let function = c.in-Some.function in
    let found = rw c.in-Some.is at c.in_ok-function.ensures.found in
    let means = sound name function found.0 in
    (function, found.0, found.1, subst (λ (files : List CFile). IsSound (thin_set name function) files) (sym c.in_ok-compile-in-Some.ensures) means)
