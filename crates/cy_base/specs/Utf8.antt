-- Well-formed UTF-8 (The Unicode Standard, section 3.9; RFC 3629), in std's words.
use Rattle.std.specs.Prelude.{ℕ, List}
use Rattle.std.specs.Str.{IsValidUpTo}
-- there are Unicode scalar values cs, none of them a surrogate, of which these are the bytes, one value
-- after the other in one to four bytes each: `encode_utf8_all cs ≡ bytes`
pub use Rattle.std.specs.Str.{IsUtf8}

-- the first n bytes are UTF-8, no longer front of the bytes is, and more bytes follow: the bytes aren't
-- UTF-8, and n is the length of the longest front that is
abbrev pub BreaksAt : List ℕ → ℕ → Type 0
BreaksAt bytes n = IsValidUpTo bytes n
