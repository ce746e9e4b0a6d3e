use Rattle.std.proofs.Common.{◌≡◌, ◌+◌, ◌<◌, length, arith, sym, refl, subst}
use Rattle.std.proofs.lemmas.Bool.Decides.{nat_tests}
use Rattle.pyx_lex.specs.Laid.{TabFits}
use Rattle.pyx_lex.specs.Layout.{start_place}
use Rattle.pyx_lex.proofs.Boundaries.{IsCut, piece_cut}
use Rattle.pyx_lex.proofs.Forward.{goes_next, goes_wrong, ends_broken, ends, tab_fits, depth_within}
use Rattle.pyx_lex.proofs.pass.put_tokens.Goals as goal
use Rattle.pyx_lex.proofs.pass.put_tokens.Goals.{In_ok-piece, In_ok-found}

some_left : (c : In_ok-piece) → 0 < length c.loop-rest.rest.now
some_left c = grind (arith, nat_tests)

piece_is_cut : (c : In_ok-piece) → IsCut c.loop-rest.rest.now c.in_ok-piece.piece
piece_is_cut c =
    subst (IsCut c.loop-rest.rest.now) (sym c.in_ok-piece.ensures)
    (piece_cut c.args.broken c.loop-rest.after_name c.loop-rest.rest.now c.loop-rest.invariant.0 (some_left c))

pub loop-rest-init : goal.loop-rest-init
loop-rest-init c = (
  c.utf8.text,
  refl,
  omega (arith, c.in_ok-lines.ensures.depth),
  record { place = start_place; here = c.in_ok-lines.ensures; same = refl },
)

pub take-requires-clause-within : goal.take-requires-clause-within
take-requires-clause-within c =
    let cut = piece_is_cut (goal.at.take-requires-clause-within c).In_ok-piece in
    omega (arith, cut.0.0, c.loop-rest.invariant.1, c.requires)

pub take-requires-clause-tab : goal.take-requires-clause-tab
take-requires-clause-tab c =
    subst (λ p. TabFits p.shape c.loop-rest.at) (sym c.in_ok-piece.ensures)
    (tab_fits c.args.broken c.loop-rest.after_name c.loop-rest.rest.now c.loop-rest.at (c.args.start + length c.args.text.now) (omega (arith, c.loop-rest.invariant.1)) c.requires)

pub range_from-rest-requires : goal.range_from-rest-requires
range_from-rest-requires c = λ pos. (piece_is_cut (goal.at.range_from-rest-requires c).In_ok-piece).0

pub returns-in-Some : goal.returns-in-Some
returns-in-Some c =
    let step = (goal.at.returns-in-Some c).In_ok-piece in
    goes_wrong _ _ _ c.loop-rest.at c.loop-rest.rest.now c.loop-rest.lines _ _ _ c.in_ok-piece.piece c.in-Some.breach
    (some_left step) c.in_ok-piece.ensures (piece_is_cut step).1
    (λ place here. rw c.in-Some.is at (c.in_ok-found.ensures place here)) c.loop-rest.invariant.3

pub loop-rest-smaller : goal.loop-rest-smaller
loop-rest-smaller c =
    let cut = piece_is_cut (goal.at.loop-rest-smaller c).In_ok-piece in
    omega (arith, cut.0.0, cut.1, c.range_from-rest.ensures.len)

pub loop-rest-preserved : goal.loop-rest-preserved
loop-rest-preserved c =
    let step = (goal.at.loop-rest-preserved c).In_ok-piece in
    let cut = piece_is_cut step in
    let goes = c.loop-rest.invariant.3 in (
      c.range_from-rest.utf8,
      omega (arith, cut.0.0, c.range_from-rest.ensures.len, c.loop-rest.invariant.1),
      depth_within c.loop-rest.lines c.take.new.self _ _ c.in_ok-piece.piece c.loop-rest.at goes.place goes.here c.loop-rest.invariant.2 cut.1
          (rw c.in-None.is at (c.in_ok-found.ensures goes.place goes.here)),
      goes_next _ _ _ _ c.loop-rest.at c.loop-rest.rest.now _ c.loop-rest.lines _ _ _ _ c.in_ok-piece.piece c.is_name-after_name.ensures c.range_from-rest.ensures.value
          (some_left step) c.in_ok-piece.ensures cut.1 (λ place here. rw c.in-None.is at (c.in_ok-found.ensures place here)) goes,
    )

pub returns-then-broken : goal.returns-then-broken
returns-then-broken c =
    let none : length c.loop-rest.rest.now ≡ 0 = grind (arith, nat_tests) in
    ends_broken _ _ _ _ c.loop-rest.rest.now _ _ _ _ c.if-broken.true none (omega (arith, c.loop-rest.invariant.1)) c.loop-rest.invariant.3

pub returns : goal.returns
returns c =
    let none : length c.loop-rest.rest.now ≡ 0 = grind (arith, nat_tests) in
    ends _ _ _ _ c.loop-rest.rest.now _ _ _ _ c.if-broken.false none (omega (arith, c.loop-rest.invariant.1)) c.in_ok-finish.ensures c.loop-rest.invariant.3
