use Rattle.std.proofs.Common.{◌≡◌, ℕ, List, ◌∙◌, sym, subst}
use Rattle.cy_io.specs.Counts.{Rose}
use Rattle.thin_source.specs.Thin.{thin_text}
use Rattle.cyc_top.specs.Command.{IsBuild, module_of}
use Rattle.cyc_top.specs.Build.{IsBuilt, IsSoundlyBuilt, IsPartlyBuilt, IsAtMostHeader, Tells}
use Rattle.cyc_top.proofs.top.cyc.Goals as goal

-- words name one file at most
same_word : (words : List (List ℕ)) (a b : List ℕ) → IsBuild words a → IsBuild words b → a ≡ b
same_word words a b first second = let e = sym first.words_are ∙ second.words_are in cc

pub returns-in-Some-clause-done : goal.returns-in-Some-clause-done
returns-in-Some-clause-done g c = λ word is_build e.
    let old = g.F.Files.told c.args.files.now in
    let new = g.F.Files.told c.build.new.files in
    let found = c.in-Some.ensures.found in
    let named = subst (λ (m : List ℕ). IsBuilt c.in-Some.command.word.now m old new) found.1 (c.build.ensures.done e) in
    subst (λ (w : List ℕ). IsBuilt w (module_of w) old new) (same_word _ _ _ found.0 is_build) named

pub returns-in-Some-clause-means_its_source : goal.returns-in-Some-clause-means_its_source
returns-in-Some-clause-means_its_source g c = λ word is_build e.
    let old = g.F.Files.told c.args.files.now in
    let new = g.F.Files.told c.build.new.files in
    let found = c.in-Some.ensures.found in
    let named = subst (λ (m : List ℕ). IsSoundlyBuilt c.in-Some.command.word.now m old new) found.1 (c.build.ensures.means_its_source e) in
    subst (λ (w : List ℕ). IsSoundlyBuilt w (module_of w) old new) (same_word _ _ _ found.0 is_build) named

pub returns-in-Some-clause-write_fault : goal.returns-in-Some-clause-write_fault
returns-in-Some-clause-write_fault g c = λ word is_build e.
    let old = g.F.Files.told c.args.files.now in
    let new = g.F.Files.told c.build.new.files in
    let found = c.in-Some.ensures.found in
    let named = subst (λ (m : List ℕ). IsPartlyBuilt c.in-Some.command.word.now m old new) found.1 (c.build.ensures.write_fault e) in
    subst (λ (w : List ℕ). IsPartlyBuilt w (module_of w) old new) (same_word _ _ _ found.0 is_build) named

pub returns-in-Some-clause-memory : goal.returns-in-Some-clause-memory
returns-in-Some-clause-memory g c = λ word is_build e.
    let old = g.F.Files.told c.args.files.now in
    let new = g.F.Files.told c.build.new.files in
    let found = c.in-Some.ensures.found in
    subst (λ (w : List ℕ). IsAtMostHeader w old new) (same_word _ _ _ found.0 is_build) (c.build.ensures.memory e)

pub returns-in-Some-clause-complete : goal.returns-in-Some-clause-complete
returns-in-Some-clause-complete g c = λ word thin is_build is_thin tells reads writes.
    let same = sym (same_word _ _ _ c.in-Some.ensures.found.0 is_build) in
    let old = c.args.files.now in
    let new = c.build.new.files in
    let told = subst (λ (w : List ℕ). Tells (g.F.Files.told old) w (thin_text thin)) same tells in
    let kept = subst (λ (w : List ℕ). ¬ Rose (g.F.Files.read_faults old w) (g.F.Files.read_faults new w)) same reads in
    c.build.ensures.complete thin is_thin told kept writes
