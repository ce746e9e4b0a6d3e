use Rattle.std.proofs.Common.{◌≡◌, ℕ, List, [], ◌∷◌, ◌++◌, Option, Some, None, slice_get, ap, sym, ◌∙◌, arith, length, length-append}
use Rattle.std.specs.Option.{option_map}
use Rattle.cy_tree.specs.Nodes.{children}
use Rattle.cy_tree.specs.Seen.{seen}
use Rattle.cy_tree.specs.declared.file.Link.{Link}
use Rattle.cy_tree.proofs.Linking.{linked_on, place_within, all_links, child_smaller, is_within}
use Rattle.cy_tree.proofs.file.+link_inside.Goals as goal

pub link_inside-requires : goal.link_inside-requires
link_inside-requires t c =
    (omega (arith, c.decreases, child_smaller (seen c.args.node) c.loop-child.place (seen c.in-Some.child) (sym c.child.ensures ∙ ap (option_map seen) c.in-Some.is)), tt)

abbrev pushed : ℕ → ℕ → Link
pushed outer place = record { outer = outer; place = place }

pub overflow_add-place : goal.overflow_add-place
overflow_add-place t c =
    let inv = c.loop-child.invariant in
    let place = place_within (length c.args.links.now.items) (seen c.args.node) c.loop-child.place inv.0 inv.2 in
    omega (arith, place, ap length inv.1, length-append c.args.links.now.items inv.0, ap length c.in_ok-push.ensures.items, length-append c.loop-child.links.items (pushed c.len-outer.result c.loop-child.place ∷ []), c.push.new.self.ok.0, c.push.new.self.ok.1, c.push.new.self.small)

pub loop-child-smaller : goal.loop-child-smaller
loop-child-smaller t c =
    omega (arith, is_within (children (seen c.args.node)) c.loop-child.place (seen c.in-Some.child) (sym c.child.ensures ∙ ap (option_map seen) c.in-Some.is))

pub loop-child-preserved : goal.loop-child-preserved
loop-child-preserved t c =
    let inv = c.loop-child.invariant in
    let below = c.in_ok-link_inside.ensures in
    linked_on c.args.links.now.items c.loop-child.links.items c.push.new.self.items c.link_inside.new.links.items inv.0 below.0
    (seen c.args.node) (seen c.in-Some.child) c.len-outer.result c.loop-child.place
    inv.1 c.in_ok-push.ensures.items below.1 (c.len-outer.ensures ∙ c.args.links.now.ok.0) inv.2
    (sym c.child.ensures ∙ ap (option_map seen) c.in-Some.is) below.2

pub returns : goal.returns
returns t c =
    let inv = c.loop-child.invariant in
    (inv.0, inv.1, all_links (length c.args.links.now.items) (seen c.args.node) c.loop-child.place inv.0 inv.2 (sym c.child.ensures ∙ ap (option_map seen) c.in_default.is))
