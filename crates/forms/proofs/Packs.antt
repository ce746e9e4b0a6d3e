-- The worked example is read exactly. Its conditions on sets are seen token by token.
use Rattle.std.proofs.Common.{◌≡◌, true, false, [], refl}
use Rattle.forms.specs.declared.Sample.{Sample}
use Rattle.forms.specs.declared.Sample.TheVariants.{Item, Comma, Open, Close}
use Rattle.forms.specs.Forms.{Set, none, either, kept, one, both, nothing}
use Rattle.forms.specs.Readers.{read_one, read_both, read_nothing}
use Rattle.forms.specs.Lists.{Row, push, first, second, itself, trail_upto, read_trail_upto}
use Rattle.forms.specs.Exact.{Exact}
use Rattle.forms.specs.Example.{is_item, is_comma, is_open, is_close, third, items, pack, read_items, read_pack, PacksAreRead}
use Rattle.forms.proofs.OneLaws.{one_exact, nothing_exact}
use Rattle.forms.proofs.BothLaws.{both_exact}
use Rattle.forms.proofs.OrLaws.{or_exact}
use Rattle.forms.proofs.GuardLaws.{exact_sets}
use Rattle.forms.proofs.TrailLaws.{trail_upto_exact}
use Rattle.forms.proofs.Answering.{answers}

token : (b : Set Sample) (x : Sample) → b x ≡ true → Exact Sample Sample (one b itself) (read_one b itself) false b none
token b x h = one_exact Sample Sample b itself x h

abbrev goes : Set Sample
goes = either is_comma (either is_item none)

same_item : (x : Sample) → either is_item (kept false is_comma) x ≡ is_item x
same_item = elim [ Item ↦ refl | Comma ↦ refl | Open ↦ refl | Close ↦ refl ]

items_exact : Exact Sample (Row Sample) items read_items true (either is_item none) (either (either goes none) (kept true is_item))
unfolding items read_items
items_exact =
    let more = trail_upto_exact Sample Sample is_comma Comma refl (one is_item itself) (read_one is_item itself) is_item none (token is_item Item refl) (λ x h. refl) 1 third in
    let some = exact_sets Sample (Row Sample) (both push (one is_item itself) (trail_upto 1 is_comma third (one is_item itself)))
    (read_both push (read_one is_item itself) (read_trail_upto 1 is_comma is_item third (read_one is_item itself))) false (either is_item (kept false is_comma)) (either goes (kept true none)) is_item goes same_item (λ x h. rw h refl)
    (both_exact Sample Sample (Row Sample) (Row Sample) push (one is_item itself) (trail_upto 1 is_comma third (one is_item itself)) (read_one is_item itself) (read_trail_upto 1 is_comma is_item third (read_one is_item itself))
    false true is_item is_comma none goes (token is_item Item refl) more (λ x h. refl)) in
    or_exact Sample (Row Sample) (both push (one is_item itself) (trail_upto 1 is_comma third (one is_item itself))) (nothing ([], false))
    (read_both push (read_one is_item itself) (read_trail_upto 1 is_comma is_item third (read_one is_item itself))) (read_nothing ([], false)) true is_item none goes none some (nothing_exact Sample (Row Sample) ([], false)) (λ x h. cc)

closes : (x : Sample) → is_close x ≡ true → either (either goes none) (kept true is_item) x ≡ false
closes = elim [ Item ↦ λ h. cc | Comma ↦ λ h. cc | Open ↦ λ h. cc | Close ↦ λ h. refl ]

pack_exact : Exact Sample (Row Sample) pack read_pack false (either is_open (kept false (either (either is_item none) (kept true is_close)))) (either (either none (kept false (either (either goes none) (kept true is_item)))) (kept false none))
unfolding pack read_pack
pack_exact =
    let inside = both_exact Sample (Row Sample) Sample (Row Sample) first items (one is_close itself) read_items (read_one is_close itself) true false (either is_item none) is_close (either (either goes none) (kept true is_item)) none
    items_exact (token is_close Close refl) closes in
    both_exact Sample Sample (Row Sample) (Row Sample) second (one is_open itself) (both first items (one is_close itself)) (read_one is_open itself) (read_both first read_items (read_one is_close itself)) false false
    is_open (either (either is_item none) (kept true is_close)) none (either none (kept false (either (either goes none) (kept true is_item)))) (token is_open Open refl) inside (λ x h. refl)

pub packs_are_read : PacksAreRead
packs_are_read ts = answers Sample (Row Sample) pack read_pack false _ _ pack_exact ts
