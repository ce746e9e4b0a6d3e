-- Where bytes stop being UTF-8 is one place, and UTF-8 has none.
use Rattle.std.proofs.Common.{◌≡◌, ◌<◌, ℕ, List, length, sym, ◌∙◌, arith}
use Rattle.std.proofs.lemmas.Str.{utf8_valid_len-IsValidUpTo, utf8_valid_len-IsUtf8}
use Rattle.cy_base.specs.Utf8.{IsUtf8, BreaksAt}

pub BreaksAt-once : (bytes : List ℕ) (m n : ℕ) → BreaksAt bytes m → BreaksAt bytes n → m ≡ n
BreaksAt-once bytes m n p q = sym (utf8_valid_len-IsValidUpTo bytes m p) ∙ utf8_valid_len-IsValidUpTo bytes n q

pub BreaksAt-not : (bytes : List ℕ) (n : ℕ) → IsUtf8 bytes → BreaksAt bytes n → ⊥
BreaksAt-not bytes n u p =
    let whole : length bytes ≡ n = sym (utf8_valid_len-IsUtf8 bytes u) ∙ utf8_valid_len-IsValidUpTo bytes n p in
    let short : n < length bytes = p.short in
    omega arith
