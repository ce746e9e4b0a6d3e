-- ASCII is in each normalization form.
use Rattle.std.proofs.Common.{◌≡◌, ℕ, List, true}
use Rattle.std.specs.Prelude.{chars}
use Rattle.std.specs.Str.{IsAscii}
use Rattle.std.proofs.lemmas.Str.{chars-IsAscii}
use Rattle.std.proofs.lemmas.List.{get_or_default}
use Rattle.unicode_normalization.specs.Forms.{is_in_form, Nfkc}
use Rattle.unicode_normalization.proofs.FormsLemmas.{normalize-ascii, is_in_form_from}

pub kept_ascii : (name : List ℕ) → IsAscii name → is_in_form Nfkc (chars name) ≡ true
kept_ascii name ascii = rw (chars-IsAscii name ascii) (is_in_form_from Nfkc name (normalize-ascii Nfkc name (λ k d lt. rw (get_or_default name k d 0 lt) (ascii k))))
