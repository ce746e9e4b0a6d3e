-- A text has no more tokens than bytes and one, and no more items than tokens.
use Rattle.std.proofs.Common.{ℕ, suc, ◌+◌, ◌≤◌, List, [], ◌∷◌, ◌++◌, length, arith, length-append}
use Rattle.std.specs.Prelude.{Bool, true, false, if◌then◌else◌, nat_eq, is_none, unwrap_or}
use Rattle.c_token.specs.CTokens.{CToken, CLine, Fresh, Text, Hash, Include, Directive, ByteKind, LineFeed, Blank, WordByte, Quote, Alone, Joining, Neither, Mode, Between, InWord, InSign, InQuotes, AfterBackslash, InHeader, Step, Word, Sign, Other, after, begin, ends, gives, goes_on, kind_of, is_word_byte, is_long_sign, quoted, sign, step, tokens_from, c_tokens}
use Rattle.c_token.specs.Cutting.{ItemPlace, item_start, items_from, c_items, place_after, role_of, with_token}

-- how many tokens have begun
abbrev begun : Mode → ℕ
begun (Between line) = 0
begun (InWord line bytes) = 1
begun (InSign line bytes) = 1
begun (InQuotes line quote bytes) = 1
begun (AfterBackslash line quote bytes) = 1
begun (InHeader bytes) = 1

abbrev Fits : ℕ → Step → Type 0
Fits n s = length s.given + begun s.next ≤ n

fits_if : (n : ℕ) (t : Bool) (x y : Step) → Fits n x → Fits n y → Fits n (if t then x else y)
fits_if n true x y h k = h
fits_if n false x y h k = k

begin_fits : (kind : ByteKind) (line : CLine) (b : ℕ) → Fits 1 (begin kind line b)
begin_fits LineFeed Fresh b = omega arith
begin_fits LineFeed Text b = omega arith
begin_fits LineFeed Hash b = omega arith
begin_fits LineFeed Include b = omega arith
begin_fits LineFeed Directive b = omega arith
begin_fits Blank line b = omega arith
begin_fits WordByte line b = omega arith
begin_fits Quote line b = omega arith
begin_fits Alone line b = omega arith
begin_fits Joining Fresh b = fits_if 1 (nat_eq b 35) (gives (sign "#") (Between Hash)) (goes_on (InSign Fresh (b ∷ []))) (omega arith) (omega arith)
begin_fits Joining Text b = omega arith
begin_fits Joining Hash b = omega arith
begin_fits Joining Include b = fits_if 1 (nat_eq b 60) (goes_on (InHeader [])) (goes_on (InSign Include (b ∷ []))) (omega arith) (omega arith)
begin_fits Joining Directive b = omega arith
begin_fits Neither line b = omega arith

ends_fits : (token : CToken) (line : CLine) (b : ℕ) → Fits 2 (ends token line b)
ends_fits token line b = let h = begin_fits (kind_of b) (after line token) b in omega arith

step_fits : (mode : Mode) (b : ℕ) → Fits (suc (begun mode)) (step mode b)
step_fits (Between line) b = begin_fits (kind_of b) line b
step_fits (InWord line bytes) b = fits_if 2 (is_word_byte b) (goes_on (InWord line (bytes ++ b ∷ []))) (ends (Word bytes) line b) (omega arith) (ends_fits (Word bytes) line b)
step_fits (InSign line bytes) b = fits_if 2 (is_long_sign (bytes ++ b ∷ [])) (goes_on (InSign line (bytes ++ b ∷ []))) (ends (Sign bytes) line b) (omega arith) (ends_fits (Sign bytes) line b)
step_fits (InQuotes line quote bytes) b =
    fits_if 2 (nat_eq b 10) (ends (Other quote) line b) _ (ends_fits (Other quote) line b)
    (fits_if 2 (nat_eq b 92) (goes_on (AfterBackslash line quote (bytes ++ b ∷ []))) _ (omega arith)
    (fits_if 2 (nat_eq b quote) (gives (quoted quote bytes) (Between (after line (quoted quote bytes)))) (goes_on (InQuotes line quote (bytes ++ b ∷ []))) (omega arith) (omega arith)))
step_fits (AfterBackslash line quote bytes) b = fits_if 2 (nat_eq b 10) (ends (Other quote) line b) (goes_on (InQuotes line quote (bytes ++ b ∷ []))) (ends_fits (Other quote) line b) (omega arith)
step_fits (InHeader bytes) b =
    fits_if 2 (nat_eq b 10) (ends (Other 60) Directive b) _ (ends_fits (Other 60) Directive b)
    (fits_if 2 (nat_eq b 62) _ (goes_on (InHeader (bytes ++ b ∷ []))) (omega arith) (omega arith))

few_from : (mode : Mode) (bytes : List ℕ) → length (tokens_from mode bytes) ≤ begun mode + length bytes + 1
unfolding tokens_from
few_from mode [] = let h = step_fits mode 10 in omega arith
few_from mode (b ∷ bytes) =
    let h = step_fits mode b in
    let k = few_from (step mode b).next bytes in
    let n = length-append (step mode b).given (tokens_from (step mode b).next bytes) in
    omega arith

pub few_tokens : (bytes : List ℕ) → length (c_tokens bytes) ≤ suc (length bytes)
unfolding c_tokens
few_tokens bytes = let h = few_from (Between Fresh) bytes in omega arith

one_more : (t : Bool) (token : CToken) (items : List (List CToken)) → length (with_token t token items) ≤ suc (length items)
one_more true token items = omega arith
one_more false token [] = omega arith
one_more false token (first ∷ more) = omega arith

items_few : (place : ItemPlace) (tokens : List CToken) → length (items_from place tokens) ≤ length tokens
unfolding items_from
items_few place [] = omega arith
items_few place (token ∷ tokens) =
    let next = place_after (role_of token) place in
    let h = one_more (is_none next) token (items_from (unwrap_or next item_start) tokens) in
    let k = items_few (unwrap_or next item_start) tokens in
    omega arith

-- a text of fewer than 2^32 bytes has at most so many items
pub few_items : (bytes : List ℕ) → length (c_items (c_tokens bytes)) ≤ suc (length bytes)
unfolding c_items
few_items bytes = let h = items_few item_start (c_tokens bytes) in let k = few_tokens bytes in omega arith
