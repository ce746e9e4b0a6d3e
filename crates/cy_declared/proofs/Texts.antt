-- The name at a place of a map.
use Rattle.std.proofs.Common.{◌≡◌, ℕ, List, slice_get, ◌∙◌, ap}
use Rattle.std.specs.Option.{option_map}
use Rattle.std.specs.declared.vec.Vec.{Vec}
use Rattle.std.proofs.lemmas.Option.{slice_get-map}
use Rattle.cy_tree.specs.declared.set.NameKind.{NameKind}
use Rattle.name_table.specs.Entries.{Entry, texts}
use Rattle.name_table.specs.Shown.{shown}

pub text-at : {Z : Type 0} (es : List (Vec ℕ Z × NameKind)) (i : ℕ)
    → slice_get (texts (shown es)) i ≡ option_map (λ (e : Entry). e.0) (option_map (λ (e : Vec ℕ Z × NameKind). (e.0.items, e.1)) (slice_get es i))
text-at es i =
    slice_get-map (λ (e : Entry). e.0) (shown es) i
    ∙ ap (option_map (λ (e : Entry). e.0)) (slice_get-map (λ (e : Vec ℕ _ × NameKind). (e.0.items, e.1)) es i)
