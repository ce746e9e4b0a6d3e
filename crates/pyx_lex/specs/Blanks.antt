-- What stands between tokens: blanks, comments and the ends of lines (Python language reference, section 2.1).
use Prim.Native.Nat.{ℕ}
use Rattle.std.specs.Prelude.{List, [], ◌∷◌, Bool, not, ◌&&◌, ◌||◌, ◌==◌, ◌+◌, nat_eq, if◌then◌else◌, slice_index, codes, take, drop, bytes_eq}
use Rattle.std.specs.List.{prefix_len, count_by, position, filter, starts_with}
use Rattle.pyx_lex.specs.declared.piece.Indentation.{Indentation}

-- spaces and tabs separate tokens
abbrev pub is_blank : ℕ → Bool
is_blank b = b == 32 || b == 9

-- the run of blanks that a text begins with
abbrev pub blanks : List ℕ → List ℕ
blanks text = take (prefix_len is_blank text) text

-- a width is counted in spaces
abbrev pub indentation : List ℕ → Indentation
indentation run = record { spaces = count_by (λ b. b == 32) run; tab = position (λ b. b == 9) run }

-- A line ends with LF or CR LF: how many bytes a line end at the front of a text takes, and 0 where none is there.
abbrev pub line_end_len : List ℕ → ℕ
line_end_len text =
    if slice_index text 0 == 10 then 1 else
    if slice_index text 0 == 13 && slice_index text 1 == 10 then 2 else 0

abbrev pub is_line_end : List ℕ → Bool
is_line_end text = not (line_end_len text == 0)

-- how many bytes stand before the line's end, or the text's
abbrev pub line_len : List ℕ → ℕ
line_len [] = 0
line_len (b ∷ rest) = if is_line_end (b ∷ rest) then 0 else 1 + line_len rest

-- a text without its spaces
abbrev pub without_spaces : List ℕ → List ℕ
without_spaces text = filter (λ b. not (b == 32)) text

-- `language_level=3` or `language_level=3str`
abbrev pub is_language_level : List ℕ → Bool
is_language_level text = bytes_eq text (codes "language_level=3") || bytes_eq text (codes "language_level=3str")

-- A comment sets a directive where it begins `# cython:` (Cython documentation, 'Compiler directives').
abbrev pub is_directive : List ℕ → Bool
is_directive comment = starts_with nat_eq comment (codes "# cython:")

-- the language level alone may be set, spaces aside
abbrev pub is_refused_directive : List ℕ → Bool
is_refused_directive comment = is_directive comment && not (is_language_level (without_spaces (drop 9 comment)))
