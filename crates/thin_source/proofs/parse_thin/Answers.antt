use Rattle.std.proofs.Common.{◌++◌, codes, refl, sym, ◌∙◌}
use Rattle.std.proofs.lemmas.Bool.{false≢true}
use Rattle.thin_source.specs.Thin.{joined}
use Rattle.thin_source.proofs.Names.{thin_text-is, parameters_are, IsName-parameter, Contains-moved, thin_is}
use Rattle.thin_source.proofs.parse_thin.Goals as goal
use Rattle.thin_source.proofs.parse_thin.Goals.{then-not-holds-via-then-not-holds, then-not-holds-via-else-not-holds+then-not-holds-2}

pub returns-in_default-clause-not_found : goal.returns-in_default-clause-not_found
returns-in_default-clause-not_found c =
    λ _ thin h e. c.in_default.ensures.only thin.name (joined thin.parameters ++ (codes "): return " ++ (thin.left ++ (codes " + " ++ (thin.right ++ codes "\n"))))) h.name (e ∙ thin_text-is thin)

pub returns-in_default-2-clause-not_found : goal.returns-in_default-2-clause-not_found
returns-in_default-2-clause-not_found c =
    λ _ thin h e.
    let tail = thin.left ++ (codes " + " ++ (thin.right ++ codes "\n")) in
    let head = c.in-Some.ensures.only thin.name (joined thin.parameters ++ (codes "): return " ++ tail)) h.name (e ∙ thin_text-is thin) in
    rw c.in_default-2.is at (c.in_ok-parameters.ensures.only thin.parameters tail (parameters_are thin h) head.1)

pub returns-in_default-split_sum-clause-not_found :
    goal.returns-in_default-split_sum-clause-not_found
returns-in_default-split_sum-clause-not_found c =
    λ _ thin h e.
    let tail = thin.left ++ (codes " + " ++ (thin.right ++ codes "\n")) in
    let head = c.in-Some.ensures.only thin.name (joined thin.parameters ++ (codes "): return " ++ tail)) h.name (e ∙ thin_text-is thin) in
    let list = rw c.in-Some-2.is at (c.in_ok-parameters.ensures.only thin.parameters tail (parameters_are thin h) head.1) in
    c.in_default-split_sum.ensures.only thin.left thin.right (IsName-parameter thin.parameters thin.left h.parameters h.left_among) (IsName-parameter thin.parameters thin.right h.parameters h.right_among) list.1

pub returns-then-not-holds-clause-not_found : goal.returns-then-not-holds-clause-not_found
returns-then-not-holds-clause-not_found c =
    λ _ thin h e.
    let tail = thin.left ++ (codes " + " ++ (thin.right ++ codes "\n")) in
    let head = c.in-Some.ensures.only thin.name (joined thin.parameters ++ (codes "): return " ++ tail)) h.name (e ∙ thin_text-is thin) in
    let list = rw c.in-Some-2.is at (c.in_ok-parameters.ensures.only thin.parameters tail (parameters_are thin h) head.1) in
    let sum = c.in-Some-split_sum.ensures.only thin.left thin.right (IsName-parameter thin.parameters thin.left h.parameters h.left_among) (IsName-parameter thin.parameters thin.right h.parameters h.right_among) list.1 in
    elim c.then-not-holds.branch [ then-not-holds-via-then-not-holds w ↦ false≢true (sym w.if-not-holds.true ∙ c.holds.ensures.1 (Contains-moved c.as_slice.result.now thin.parameters c.in-Some-split_sum.left.now thin.left (c.as_slice.ensures ∙ list.0) sum.0 h.left_among)) | then-not-holds-via-else-not-holds+then-not-holds-2 w ↦ false≢true (sym w.if-not-holds-2.true ∙ w.holds-else-not-holds.ensures.1 (Contains-moved w.as_slice-else-not-holds.result.now thin.parameters c.in-Some-split_sum.right.now thin.right (w.as_slice-else-not-holds.ensures ∙ list.0) sum.1 h.right_among)) ]

pub returns-clause-found : goal.returns-clause-found
returns-clause-found c =
    let found = rw c.in-Some-2.is at c.in_ok-parameters.ensures.found in
    let names = c.in-Some-2.parameters in
    let has_left = c.holds.ensures.0 c.if-not-holds.false in
    let has_right = c.holds-else-not-holds.ensures.0 c.if-not-holds-2.false in
    let left = c.in-Some-split_sum.left.now in
    let right = c.in-Some-split_sum.right.now in
    thin_is _ c.args.bytes.now c.in-Some.name.now c.in-Some.rest.now left right c.in-Some-2.rest.now names c.in_ok-copied.ensures (cc) c.in_ok-copied-2.ensures c.in_ok-copied-3.ensures c.in-Some.ensures.found.0 found.0 (Contains-moved names c.as_slice.result.now left left (sym c.as_slice.ensures) refl has_left) (Contains-moved names c.as_slice-else-not-holds.result.now right right (sym c.as_slice-else-not-holds.ensures) refl has_right) c.in-Some.ensures.found.1 found.1 c.in-Some-split_sum.ensures.found
