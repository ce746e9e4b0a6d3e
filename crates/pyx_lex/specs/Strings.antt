-- String literals and their escapes (Python language reference, section 2.4.1).
use Prim.Native.Nat.{ℕ, zero, suc}
use Rattle.std.specs.Prelude.{List, [], ◌∷◌, ◌++◌, Bool, true, false, not, ◌&&◌, ◌||◌, ◌==◌, ◌+◌, ◌-◌, ◌*◌, if◌then◌else◌, slice_index, length, take, drop, fold, chars, encode_utf8_all, Option, Some, None, option_to_list}
use Rattle.std.specs.List.{list_all}
use Rattle.std.specs.Option.{option_map}
use Rattle.std.specs.Char.{is_digit, digit_value}
use Rattle.std.specs.Str.{all_scalars}
use Rattle.pyx_lex.specs.declared.escape.Part.{Part}
use Rattle.pyx_lex.specs.declared.string.Opening.{Opening}

abbrev pub is_quote : ℕ → Bool
is_quote b = b == 39 || b == 34

-- the prefixes `r R u U`
abbrev pub is_prefix : ℕ → Bool
is_prefix b = (b == 114 || b == 82) || (b == 117 || b == 85)

-- a quote, or a prefix and a quote
abbrev pub begins_string : List ℕ → Bool
begins_string text = is_quote (slice_index text 0) || (is_prefix (slice_index text 0) && is_quote (slice_index text 1))

abbrev pub prefix_of : List ℕ → ℕ
prefix_of text = if is_quote (slice_index text 0) then 0 else 1

-- three quotes of one kind
abbrev pub are_three : ℕ → List ℕ → Bool
are_three quote text = slice_index text 0 == quote && (slice_index text 1 == quote && slice_index text 2 == quote)

-- How a text that begins with a string opens it: whether it is raw, its quote, whether the form is the triple one, and
-- the bytes of prefix and quotes. Three quotes always open a triple form.
abbrev pub opening_at : List ℕ → Opening
opening_at text =
    let quote = slice_index text (prefix_of text) in
    let triple = are_three quote (drop (prefix_of text) text) in
    record {
      raw = slice_index text 0 == 114 || slice_index text 0 == 82;
      quote = quote;
      triple = triple;
      len = prefix_of text + (if triple then 3 else 1);
    }

abbrev pub closing_len : Opening → ℕ
closing_len opening = if opening.triple then 3 else 1

-- the quotes that close the string
abbrev pub closes : Opening → List ℕ → Bool
closes opening text =
    if opening.triple then are_three opening.quote text else slice_index text 0 == opening.quote

-- the closing quotes, or a line end in a form that holds none
abbrev pub stops : Opening → List ℕ → Bool
stops opening text = closes opening text || (not opening.triple && slice_index text 0 == 10)

-- In a string that isn't raw a backslash takes the byte behind it along, unless it is taken along itself.
abbrev pub takes_next : Opening → Bool → ℕ → Bool
takes_next opening taken b = not taken && (not opening.raw && b == 92)

-- How many bytes stand behind the opening quotes before what stops the string, or before the text's end. A byte that a
-- backslash takes along stops nothing.
abbrev pub inside_len : Opening → Bool → List ℕ → ℕ
inside_len opening taken [] = 0
inside_len opening taken (b ∷ rest) =
    if not taken && stops opening (b ∷ rest) then 0 else 1 + inside_len opening (takes_next opening taken b) rest

abbrev pub inside_of : List ℕ → List ℕ
inside_of text =
    let behind = drop (opening_at text).len text in take (inside_len (opening_at text) false behind) behind

-- what stands behind the inside of the string: the closing quotes, a line end, or nothing
abbrev pub behind_inside : List ℕ → List ℕ
behind_inside text =
    let behind = drop (opening_at text).len text in drop (inside_len (opening_at text) false behind) behind

-- a string that the text ends in
abbrev pub is_open : List ℕ → Bool
is_open text = length (behind_inside text) == 0

abbrev pub is_closed : List ℕ → Bool
is_closed text = not (is_open text) && closes (opening_at text) (behind_inside text)

-- the bytes of the literal, as far as it goes where it isn't closed
abbrev pub string_len : List ℕ → ℕ
string_len text =
    (opening_at text).len + length (inside_of text) + (if is_closed text then closing_len (opening_at text) else 0)

-- ---- escapes, over characters

-- the character that one letter behind a backslash stands for
abbrev pub letter_escape : ℕ → Option ℕ
letter_escape c =
    if c == 92 || (c == 39 || c == 34) then Some c else
    if c == 97 then Some 7 else
    if c == 98 then Some 8 else
    if c == 102 then Some 12 else
    if c == 110 then Some 10 else
    if c == 114 then Some 13 else
    if c == 116 then Some 9 else
    if c == 118 then Some 11 else None

-- how many hexadecimal digits `x`, `u` and `U` want, and 0 for any other
abbrev pub wanted_digits : ℕ → ℕ
wanted_digits c = if c == 120 then 2 else if c == 117 then 4 else if c == 85 then 8 else 0

abbrev pub hex_value : List ℕ → ℕ
hex_value digits = fold (λ n c. n * 16 + digit_value c) 0 digits

-- n hexadecimal digits that are the code of a character: no surrogate, and at most 0x10FFFF
abbrev pub is_code : ℕ → List ℕ → Bool
is_code n digits =
    (length digits == n && list_all (λ c. is_digit c 16) digits) && all_scalars (hex_value digits ∷ [])

-- A part of an inside is a character, or an escape: the character that it stands for, if any, and how many it takes.
abbrev pub part : Option ℕ → ℕ → Part
part gives taken = record { gives = gives; taken = taken }

abbrev pub part_of : Option ℕ → ℕ → Option Part
part_of None taken = None
part_of (Some c) taken = Some (part (Some c) taken)

-- the code of a character in n hexadecimal digits
abbrev pub code_at : ℕ → List ℕ → Option ℕ
code_at n cs = if is_code n (take n cs) then Some (hex_value (take n cs)) else None

-- A backslash before LF gives nothing; any other escape is none.
abbrev pub escape_at : ℕ → List ℕ → Option Part
escape_at c cs =
    if c == 10 then Some (part None 2) else
    if wanted_digits c == 0 then part_of (letter_escape c) 2 else part_of (code_at (wanted_digits c) cs) (2 + wanted_digits c)

abbrev pub behind_backslash : List ℕ → Option Part
behind_backslash [] = None
behind_backslash (c ∷ cs) = escape_at c cs

-- the part that characters begin with
abbrev pub part_at : List ℕ → Option Part
part_at [] = None
part_at (c ∷ cs) = if c == 92 then behind_backslash cs else Some (part (Some c) 1)

abbrev pub put_before : List ℕ → Option (List ℕ) → Option (List ℕ)
put_before front None = None
put_before front (Some more) = Some (front ++ more)

-- what a part stands for, before what the characters behind it stand for
abbrev pub put_part : Option Part → (ℕ → Option (List ℕ)) → Option (List ℕ)
put_part None rest = None
put_part (Some part) rest = put_before (option_to_list part.gives) (rest part.taken)

-- What the characters of an inside stand for. The characters of a part, beyond its first, begin none: so many of them
-- are still to be passed.
unfoldable pub unescaped : ℕ → List ℕ → Option (List ℕ)
unescaped passed [] = Some []
unescaped (suc passed) (c ∷ cs) = unescaped passed cs
unescaped zero (c ∷ cs) = put_part (part_at (c ∷ cs)) (λ taken. unescaped (taken - 1) cs)

-- the text that the inside of a string stands for, in UTF-8
abbrev pub inside_value : Bool → List ℕ → Option (List ℕ)
inside_value true inside = Some inside
inside_value false inside = option_map encode_utf8_all (unescaped 0 (chars inside))

-- The text that a string stands for. There is none where it isn't closed, has another escape, or has a surrogate.
unfoldable pub string_value : List ℕ → Option (List ℕ)
string_value text = if is_closed text then inside_value (opening_at text).raw (inside_of text) else None
