use Rattle.std.proofs.Common.{◌≡◌, ℕ, List, [], ◌∷◌, ◌++◌, codes, arith, refl, sym, subst}
use Rattle.thin_source.specs.Thin.{IsParameterList, joined}
use Rattle.thin_source.proofs.Names.{refused, Contains-moved, IsRead, IsRead-none, IsRead-push, continues_comma, admits_comma, last_is, list_is}
use Rattle.thin_source.proofs.read_parameters.Goals as goal
use Rattle.thin_source.proofs.read_parameters.Goals.{then-len-ge-MOST_PARAMETERS-via-then-len-ge-MOST_PARAMETERS, then-len-ge-MOST_PARAMETERS-via-else-len-ge-MOST_PARAMETERS+then-not-is_new_parameter}

pub loop-name-init : goal.loop-name-init
loop-name-init c = rw c.new-names.ensures (IsRead-none c.args.text.now)

pub returns-then-len-ge-MOST_PARAMETERS-clause-only :
    goal.returns-then-len-ge-MOST_PARAMETERS-clause-only
returns-then-len-ge-MOST_PARAMETERS-clause-only c =
    λ names rest list e.
    let on = continues_comma names c.loop-name.names c.loop-name.rest.now rest c.in-Some.name.now c.in-Some.after.now list c.in-Some.ensures.found.0 c.in-Some.ensures.found.1 (c.loop-name.invariant.only names rest list e) in
    let admitted = admits_comma names c.loop-name.names c.in-Some.after.now rest c.in-Some.name.now list on in
    elim c.then-len-ge-MOST_PARAMETERS.branch [ then-len-ge-MOST_PARAMETERS-via-then-len-ge-MOST_PARAMETERS w ↦ omega (arith, admitted.room) | then-len-ge-MOST_PARAMETERS-via-else-len-ge-MOST_PARAMETERS+then-not-is_new_parameter w ↦ refused w.is_new_parameter.result w.as_slice.result.now c.loop-name.names c.in-Some.name.now c.in-Some.name.now w.if-not-is_new_parameter.true w.is_new_parameter.ensures.1 w.as_slice.ensures refl admitted.no_number admitted.new ]

pub loop-name-preserved : goal.loop-name-preserved
loop-name-preserved c =
    let pushed = c.in_ok-push.ensures.ok in
    let item = c.in_ok-copied.ensures in
    let new = c.is_new_parameter.ensures.0 c.if-not-is_new_parameter.false in
    let same : c.push.new.self ≡ c.loop-name.names ++ c.in-Some.name.now ∷ [] = cc in
    let P : List (List ℕ) → Type 0 = λ l. IsRead c.args.text.now c.in-Some.after.now l in
    subst P (sym same) (IsRead-push c.args.text.now c.loop-name.rest.now c.loop-name.names c.in-Some.name.now c.in-Some.after.now c.loop-name.invariant c.in-Some.ensures.found.0 c.in-Some.ensures.found.1 (omega arith) new.0 (λ h. new.1 (Contains-moved c.as_slice.result.now c.loop-name.names c.in-Some.name.now c.in-Some.name.now c.as_slice.ensures refl h)))

pub returns-in_default-name_before-clause-only : goal.returns-in_default-name_before-clause-only
returns-in_default-name_before-clause-only c =
    λ names rest list e.
    let last = last_is names c.loop-name.names c.args.text.now c.loop-name.rest.now rest c.loop-name.invariant list e c.in_default.ensures.only in
    c.in_default-name_before.ensures.only last.next rest last.parameter.name_is last.rest_is

pub returns-then-not-is_new_parameter-2-clause-only :
    goal.returns-then-not-is_new_parameter-2-clause-only
returns-then-not-is_new_parameter-2-clause-only c =
    λ names rest list e.
    let last = last_is names c.loop-name.names c.args.text.now c.loop-name.rest.now rest c.loop-name.invariant list e c.in_default.ensures.only in
    let s = c.in-Some-name_before.ensures.only last.next rest last.parameter.name_is last.rest_is in
    refused c.is_new_parameter-2.result c.as_slice-2.result.now c.loop-name.names c.in-Some-name_before.name.now last.next c.if-not-is_new_parameter-2.true c.is_new_parameter-2.ensures.1 c.as_slice-2.ensures s.0 last.parameter.no_number last.new

pub returns-clause-found : goal.returns-clause-found
returns-clause-found c =
    let pushed = c.in_ok-push-2.ensures.ok in
    let item = c.in_ok-copied-2.ensures in
    let new = c.is_new_parameter-2.ensures.0 c.if-not-is_new_parameter-2.false in
    let same : c.push-2.new.self ≡ c.loop-name.names ++ c.in-Some-name_before.name.now ∷ [] = cc in
    let P : List (List ℕ) → Type 0 = λ l. IsParameterList l × (c.args.text.now ≡ joined l ++ (codes "): return " ++ c.in-Some-name_before.after.now)) in
    subst P (sym same) (list_is c.args.text.now c.loop-name.rest.now c.loop-name.names c.in-Some-name_before.name.now c.in-Some-name_before.after.now c.loop-name.invariant c.in-Some-name_before.ensures.found.0 c.in-Some-name_before.ensures.found.1 new.0 (λ h. new.1 (Contains-moved c.as_slice-2.result.now c.loop-name.names c.in-Some-name_before.name.now c.in-Some-name_before.name.now c.as_slice-2.ensures refl h)))

pub returns-clause-only : goal.returns-clause-only
returns-clause-only c =
    λ names rest list e.
    let last = last_is names c.loop-name.names c.args.text.now c.loop-name.rest.now rest c.loop-name.invariant list e c.in_default.ensures.only in
    let s = c.in-Some-name_before.ensures.only last.next rest last.parameter.name_is last.rest_is in
    let pushed = c.in_ok-push-2.ensures.ok in
    let item = c.in_ok-copied-2.ensures in
    let next : c.in-Some-name_before.name.now ≡ last.next = s.0 in
    let whole : names ≡ c.loop-name.names ++ last.next ∷ [] = last.names_are in
    (cc, s.1)
