use Rattle.std.proofs.Common.{◌≡◌, ℕ, suc, ◌++◌, take, ap, sym, ◌∙◌, arith}
use Rattle.std.specs.Option.{option_map}
use Rattle.cy_tree.specs.Nodes.{children}
use Rattle.cy_tree.specs.Seen.{seen}
use Rattle.cy_tree.proofs.Linking.{child_smaller, is_within}
use Rattle.type_uses.specs.Uses.{all_of}
use Rattle.type_uses.specs.Shown.{all_shown}
use Rattle.type_uses.proofs.Levels.{all-had, one-more, had}
use Rattle.type_uses.proofs.walk.+note_uses.Goals as goal

pub note_uses-requires : goal.note_uses-requires
note_uses-requires t c =
    (omega (arith, c.decreases, child_smaller (seen c.args.node) c.loop-child.place (seen c.in-Some.child) (sym c.child.ensures ∙ ap (option_map seen) c.in-Some.is)), tt)

pub loop-child-smaller : goal.loop-child-smaller
loop-child-smaller t c =
    omega (arith, c.in_ok-place.ensures, is_within (children (seen c.args.node)) c.loop-child.place (seen c.in-Some.child) (sym c.child.ensures ∙ ap (option_map seen) c.in-Some.is))

pub loop-child-preserved : goal.loop-child-preserved
loop-child-preserved t c =
    let ts = children (seen c.args.node) in
    let start = all_shown c.note_own.new.out.items in
    let at = sym c.child.ensures ∙ ap (option_map seen) c.in-Some.is in
    let next : suc c.loop-child.place ≡ c.in_ok-place.place = omega (arith, c.in_ok-place.ensures) in (
      omega (arith, c.in_ok-place.ensures, is_within ts c.loop-child.place (seen c.in-Some.child) at),
      one-more start (all_shown c.loop-child.out.items) (all_shown c.note_uses.new.out.items) ts c.loop-child.place (seen c.in-Some.child)
          at c.loop-child.invariant.1 c.in_ok-note_uses.ensures
          ∙ ap (λ (n : ℕ). start ++ all_of (had (take n ts))) next,
    )

pub returns : goal.returns
returns t c =
    all-had (all_shown c.args.out.now.items) (all_shown c.note_own.new.out.items) (all_shown c.loop-child.out.items) (seen c.args.node) c.loop-child.place
    (sym c.child.ensures ∙ ap (option_map seen) c.in_default.is) c.in_ok-note_own.ensures c.loop-child.invariant.1
