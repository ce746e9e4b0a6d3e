-- The tokens of a whole file end with END, which stands nowhere else.
use Rattle.std.proofs.Common.{◌≡◌, ℕ, zero, suc, ◌+◌, ◌-◌, ◌≤◌, cond, ltb, eqb, Bool, true, false, ◌&&◌, ◌||◌, List, [], ◌∷◌, ◌++◌, length, take, drop, get_or, refl, sym, ap, ◌∙◌, subst, append_assoc, Option, Some, None}
use Rattle.std.specs.List.{list_any}
use Rattle.std.specs.Char.{is_ascii_digit}
use Rattle.pyx_lex.specs.declared.lines.Line.{Line}
use Rattle.pyx_lex.specs.declared.lines.Line.TheVariants.{Fresh, Indented, Begun}
use Rattle.pyx_lex.specs.declared.piece.Fault.TheVariants as fault
use Rattle.pyx_lex.specs.declared.piece.Indentation.{Indentation}
use Rattle.pyx_lex.specs.declared.piece.Piece.{Piece}
use Rattle.pyx_lex.specs.declared.piece.Shape.{Shape}
use Rattle.pyx_lex.specs.declared.piece.Shape.TheVariants.{Blanks, Comment, LineEnd, Join, Spelled, Faulty, Stray, Cut}
use Rattle.pyx_lex.specs.declared.token.Token.{Token}
use Rattle.pyx_lex.specs.declared.token.TokenKind.TheVariants.{Name, Word, Int, Newline, Indent, End}
use Rattle.pyx_lex.specs.Blanks.{is_blank, is_line_end, line_len, is_refused_directive}
use Rattle.pyx_lex.specs.Layout.{Item, Comes, Found, token, found, gives, Place, Given, none, start_place, tab_items, cut_items, dedents, level_items, line_items, before_token, rule_of, is_before_tokens, ended_line, given_by, given_at, last_newline, items_at_end, items_from}
use Rattle.pyx_lex.specs.Levels.{is_wider, is_open, open_above}
use Rattle.pyx_lex.specs.Names.{begins_name, name_at, is_reserved, is_wrong_name}
use Rattle.pyx_lex.specs.Numbers.{could_go_on, number_value, is_wrong_number}
use Rattle.pyx_lex.specs.Pieces.{piece_at, pieces_from, is_name, blanks_piece, backslash_piece, comment_piece, number_piece, number_shape, name_piece, name_shape, string_piece, string_shape, sign_piece}
use Rattle.pyx_lex.specs.Signs.{sign_len}
use Rattle.pyx_lex.specs.Strings
use Rattle.pyx_lex.specs.Strings.{begins_string, string_value}
use Rattle.pyx_lex.specs.Tokens.{tokens_among, breaches_among, items, items_of_text, mark_len, is_broken, valid_text, limit, tokens, breaches, is_end, EndsOnce}
use Rattle.pyx_lex.specs.declared.lines.Breach.{Breach}
use Rattle.pyx_lex.proofs.Order.{breaches_append, short_file}

-- END is among tokens
abbrev has_end : List Token → Bool
has_end ts = list_any (λ t. is_end t.kind) ts

has_end_append : (xs ys : List Token) → has_end xs ≡ false → has_end ys ≡ false → has_end (xs ++ ys) ≡ false
has_end_append [] ys h k = k
has_end_append (x ∷ xs) ys h k = go (is_end x.kind) h (has_end_append xs ys)
  where
    go : (t : Bool) → (t || has_end xs) ≡ false → (has_end xs ≡ false → has_end ys ≡ false → has_end (xs ++ ys) ≡ false) → (t || has_end (xs ++ ys)) ≡ false
    go true h more = absurd (cc)
    go false h more = more h k

tokens_append : (xs ys : List Item) → tokens_among (xs ++ ys) ≡ tokens_among xs ++ tokens_among ys
tokens_append [] ys = refl
tokens_append (Comes t ∷ xs) ys = ap (λ ts. t ∷ ts) (tokens_append xs ys)
tokens_append (Found b ∷ xs) ys = tokens_append xs ys

none_in : (xs ys : List Item) → has_end (tokens_among xs) ≡ false → has_end (tokens_among ys) ≡ false → has_end (tokens_among (xs ++ ys)) ≡ false
none_in xs ys h k = ap has_end (tokens_append xs ys) ∙ has_end_append (tokens_among xs) (tokens_among ys) h k

no_dedents : (n at : ℕ) → has_end (tokens_among (dedents n at)) ≡ false
no_dedents zero at = refl
no_dedents (suc n) at = no_dedents n at

-- ---- what a piece gives

abbrev NotEnd : Shape → Type 0
NotEnd (Spelled kind) = is_end kind ≡ false
NotEnd _ = Unit {0}

no_level : (width : ℕ) (widths : List ℕ) (at : ℕ) → has_end (tokens_among (level_items width widths at)) ≡ false
no_level width widths at = go (is_wider width widths) (is_open width widths)
  where
    go : (t u : Bool) → has_end (tokens_among (cond t (token Indent at at ∷ []) (cond u (dedents (open_above width widths) at) (found 3 at ∷ [])))) ≡ false
    go true u = refl
    go false true = no_dedents (open_above width widths) at
    go false false = refl

no_line : (indentation : Indentation) (widths : List ℕ) (at : ℕ) → has_end (tokens_among (line_items indentation widths at)) ≡ false
no_line indentation widths at = go indentation.tab
  where
    go : (tab : Option ℕ) → has_end (tokens_among (tab_items tab ++ level_items indentation.spaces widths at)) ≡ false
    go None = no_level indentation.spaces widths at
    go (Some t) = no_level indentation.spaces widths at

no_before : (line : Line) (place : Place) (at : ℕ) → has_end (tokens_among (before_token line place at).items) ≡ false
no_before Fresh place at = no_line none place.widths at
no_before (Indented indentation) place at = no_line indentation place.widths at
no_before Begun place at = refl

no_shape : (shape : Shape) (place : Place) (at end : ℕ) → NotEnd shape → has_end (tokens_among (given_by shape place at end).items) ≡ false
no_shape (Blanks indentation) place at end h = refl
no_shape (Comment refused) place at end h = go (refused && is_before_tokens place.widths)
  where
    go : (t : Bool) → has_end (tokens_among (cond t (found 8 at ∷ []) [])) ≡ false
    go true = refl
    go false = refl
no_shape LineEnd place at end h = go place.line
  where
    go : (line : Line) → has_end (tokens_among (ended_line line place at end).items) ≡ false
    go Fresh = refl
    go (Indented i) = refl
    go Begun = elim (ltb 0 place.depth) as (λ t. has_end (tokens_among (cond t (gives [] place) (gives (token Newline at end ∷ []) (record { widths = place.widths; line = Fresh; depth = 0 }))).items) ≡ false) [ true ↦ refl | false ↦ refl ]
no_shape Join place at end h = refl
no_shape (Spelled kind) place at end h =
    none_in (before_token place.line place at).items (token kind at end ∷ []) (no_before place.line place at) (ap (λ t. t || false) h)
no_shape (Faulty f) place at end h =
    none_in (before_token place.line place at).items (found (rule_of f) at ∷ []) (no_before place.line place at) refl
no_shape Stray place at end h = refl
no_shape Cut place at end h = go place.line
  where
    tab : (o : Option ℕ) → has_end (tokens_among (tab_items o)) ≡ false
    tab None = refl
    tab (Some t) = refl

    go : (line : Line) → has_end (tokens_among (cut_items line)) ≡ false
    go Fresh = refl
    go (Indented i) = tab i.tab
    go Begun = refl

-- ---- no piece is END

piece_pick : (t : Bool) (x y : Piece) → NotEnd x.shape → NotEnd y.shape → NotEnd (cond t x y).shape
piece_pick true x y p q = p
piece_pick false x y p q = q

shape_pick : (t : Bool) (x y : Shape) → NotEnd x → NotEnd y → NotEnd (cond t x y)
shape_pick true x y p q = p
shape_pick false x y p q = q

string_not_end : (after_name : Bool) (value : Option (List ℕ)) → NotEnd (string_shape after_name value)
string_not_end true value = tt
string_not_end false None = tt
string_not_end false (Some value) = refl

number_not_end : (text : List ℕ) → NotEnd (number_shape text)
unfolding number_shape
number_not_end text = shape_pick (is_wrong_number text) (Faulty fault.Int) (Spelled (Int (number_value text))) tt refl

name_not_end : (name : List ℕ) → NotEnd (name_shape name)
unfolding name_shape
name_not_end name =
    shape_pick (is_reserved name) (Spelled (Word name)) _ refl
    (shape_pick (is_wrong_name name) (Faulty fault.Name) (Spelled (Name name)) tt refl)

piece_not_end : (broken after_name : Bool) (text : List ℕ) → NotEnd (piece_at broken after_name text).shape
unfolding piece_at blanks_piece backslash_piece comment_piece number_piece name_piece string_piece sign_piece
piece_not_end broken after_name text =
    piece_pick (is_blank (get_or text 0 0)) _ _ tt
    (piece_pick (is_line_end text) _ _ tt
    (piece_pick (eqb (get_or text 0 0) 92) _ _ (piece_pick (is_line_end (drop 1 text)) _ _ tt tt)
    (piece_pick (eqb (get_or text 0 0) 35) _ _ (shape_pick (broken && eqb (length text) (line_len text)) Cut (Comment (is_refused_directive (take (line_len text) text))) tt tt)
    (piece_pick (begins_string text) _ _ (shape_pick (broken && Strings.is_open text) Cut (string_shape after_name (string_value text)) tt (string_not_end after_name (string_value text)))
    (piece_pick (is_ascii_digit (get_or text 0 0)) _ _ (shape_pick (broken && could_go_on text) Cut (number_shape text) tt (number_not_end text))
    (piece_pick (begins_name text) _ _ (shape_pick (broken && eqb (length text) (length (name_at text))) Cut (name_shape (name_at text)) tt (name_not_end (name_at text)))
    (piece_pick (eqb (sign_len text) 0) _ _ tt refl)))))))

-- ---- the whole

put_front : (given ts : List Token) → has_end given ≡ false → EndsOnce ts → EndsOnce (given ++ ts)
put_front given ts none ends = record {
  front = given ++ ends.front;
  at = ends.at;
  parts = ap (λ xs. given ++ xs) ends.parts ∙ sym (append_assoc given ends.front _);
  only = has_end_append given ends.front none ends.only;
}

end_ends : (place : Place) (end : ℕ) → EndsOnce (tokens_among (items_at_end false place end))
unfolding items_at_end
end_ends place end = record {
  front = tokens_among (last_newline place.line end ++ dedents (open_above 0 place.widths) end);
  at = end;
  parts =
      ap tokens_among (sym (append_assoc (last_newline place.line end) (dedents (open_above 0 place.widths) end) (token End end end ∷ [])))
      ∙ tokens_append (last_newline place.line end ++ dedents (open_above 0 place.widths) end) (token End end end ∷ []);
  only = none_in (last_newline place.line end) (dedents (open_above 0 place.widths) end) (newline place.line) (no_dedents (open_above 0 place.widths) end);
}
  where
    newline : (line : Line) → has_end (tokens_among (last_newline line end)) ≡ false
    newline Fresh = refl
    newline (Indented i) = refl
    newline Begun = refl

pieces_end : (after_name : Bool) (end : ℕ) (text : List ℕ) (k at : ℕ) (place : Place)
    → EndsOnce (tokens_among (items_from false end place (pieces_from false after_name k at text)))
unfolding items_from pieces_from given_at
pieces_end after_name end [] k at place = end_ends place end
pieces_end after_name end (b ∷ rest) (suc k) at place = pieces_end after_name end rest k (at + 1) place
pieces_end after_name end (b ∷ rest) zero at place =
    let p : Piece = piece_at false after_name (b ∷ rest) in
    let given : Given = given_by p.shape place at (at + p.len) in
    let more : List Item = items_from false end given.next (pieces_from false (is_name p.shape) (p.len - 1) (at + 1) rest) in
    let rest_ends : EndsOnce (tokens_among more) = pieces_end (is_name p.shape) end rest (p.len - 1) (at + 1) given.next in
    subst EndsOnce (sym (tokens_append given.items more))
    (put_front (tokens_among given.items) (tokens_among more) (no_shape p.shape place at (at + p.len) (piece_not_end false after_name (b ∷ rest))) rest_ends)

-- a text that isn't broken
text_ends : (text : List ℕ) → EndsOnce (tokens_among (items_of_text false text))
unfolding items_of_text
text_ends text = pieces_end false (length text) (drop (mark_len text) text) 0 (mark_len text) start_place

-- ---- a broken text has a breach

last_part : (xs ys : List Breach) → xs ++ ys ≡ [] → ys ≡ []
last_part [] ys h = h
last_part (x ∷ xs) ys h = absurd (cc)

pieces_break : (after_name : Bool) (end : ℕ) (text : List ℕ) (k at : ℕ) (place : Place)
    → breaches_among (items_from true end place (pieces_from true after_name k at text)) ≡ [] → ⊥
unfolding items_from pieces_from given_at items_at_end
pieces_break after_name end [] k at place h = cc
pieces_break after_name end (b ∷ rest) (suc k) at place h = pieces_break after_name end rest k (at + 1) place h
pieces_break after_name end (b ∷ rest) zero at place h =
    let p : Piece = piece_at true after_name (b ∷ rest) in
    let given : Given = given_by p.shape place at (at + p.len) in
    let more : List Item = items_from true end given.next (pieces_from true (is_name p.shape) (p.len - 1) (at + 1) rest) in
    pieces_break (is_name p.shape) end rest (p.len - 1) (at + 1) given.next
    (last_part (breaches_among given.items) (breaches_among more) (sym (breaches_append given.items more) ∙ h))

text_breaks : (text : List ℕ) → breaches_among (items_of_text true text) ≡ [] → ⊥
unfolding items_of_text
text_breaks text h = pieces_break false (length text) (drop (mark_len text) text) 0 (mark_len text) start_place h

text_ends_once : (broken : Bool) (text : List ℕ) → breaches_among (items_of_text broken text) ≡ [] → EndsOnce (tokens_among (items_of_text broken text))
text_ends_once true text h = absurd (text_breaks text h)
text_ends_once false text h = text_ends text

-- a file without a breach
pub file_ends : (bytes : List ℕ) → length bytes ≤ limit → breaches bytes ≡ [] → EndsOnce (tokens bytes)
file_ends bytes le none =
    let short : items bytes ≡ items_of_text (is_broken bytes) (valid_text bytes) = short_file bytes le in
    subst (λ (xs : List Item). EndsOnce (tokens_among xs)) (sym short)
    (text_ends_once (is_broken bytes) (valid_text bytes) (sym (ap breaches_among short) ∙ none))
