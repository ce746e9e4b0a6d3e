-- Items read in parts.
use Rattle.std.proofs.Common.{◌≡◌, ℕ, ◌+◌, ◌-◌, ◌≤◌, arith, cond, ltb, replicate, Bool, true, false, List, [], ◌∷◌, ◌++◌, refl, sym, ap, ◌∙◌, append_assoc, Option, Some, None, Result, Ok, Err}
use Rattle.pyx_lex.specs.declared.lines.Breach.{Breach}
use Rattle.pyx_lex.specs.declared.lines.Line.{Line}
use Rattle.pyx_lex.specs.declared.lines.Line.TheVariants.{Fresh, Indented, Begun}
use Rattle.pyx_lex.specs.declared.lines.Lines.{Lines}
use Rattle.pyx_lex.specs.declared.piece.Indentation.{Indentation}
use Rattle.pyx_lex.specs.declared.token.Token.{Token}
use Rattle.pyx_lex.specs.Laid.{IsAt, with_front, read, Puts, Takes}
use Rattle.pyx_lex.specs.declared.piece.Shape.{Shape}
use Rattle.pyx_lex.specs.declared.piece.Shape.TheVariants.{Blanks, Comment, LineEnd, Join, Spelled, Faulty, Stray, Cut}
use Rattle.pyx_lex.specs.declared.token.TokenKind.{TokenKind}
use Rattle.pyx_lex.specs.declared.token.TokenKind.TheVariants.{Name, Word, Int, Str, Sign, Newline, Indent, Dedent, End}
use Rattle.pyx_lex.specs.Levels.{open_above}
use Rattle.pyx_lex.specs.Pieces.{Placed}
use Rattle.pyx_lex.specs.Signs.{is_opening, is_closing}
use Rattle.pyx_lex.proofs.OpenWidths.{read_replicate}
use Rattle.pyx_lex.specs.Layout.{Item, Comes, Found, token, gives, Place, begins_line, level_items, before_token, dedents, last_newline, items_at_end, depth_behind, ended_line, given_by, given_at}

abbrev then : Result (List Token) Breach → Result (List Token) Breach → Result (List Token) Breach
then (Ok ts) more = with_front ts more
then (Err b) more = Err b

front_then : (t : Token) (r more : Result (List Token) Breach) → with_front (t ∷ []) (then r more) ≡ then (with_front (t ∷ []) r) more
front_then t (Ok ts) (Ok us) = refl
front_then t (Ok ts) (Err b) = refl
front_then t (Err b) more = refl

read_append : (xs ys : List Item) → read (xs ++ ys) ≡ then (read xs) (read ys)
read_append [] ys = go (read ys)
  where
    go : (r : Result (List Token) Breach) → r ≡ with_front [] r
    go (Ok ts) = refl
    go (Err b) = refl
read_append (Comes t ∷ xs) ys = ap (with_front (t ∷ [])) (read_append xs ys) ∙ front_then t (read xs) (read ys)
read_append (Found b ∷ xs) ys = refl

-- what was read of the front decides
pub read_err : (xs ys : List Item) (b : Breach) → read xs ≡ Err b → read (xs ++ ys) ≡ Err b
read_err xs ys b h = read_append xs ys ∙ ap (λ r. then r (read ys)) h

pub read_more : (old mid : List Token) (xs ys : List Item) → with_front old (read xs) ≡ Ok mid → with_front old (read (xs ++ ys)) ≡ with_front mid (read ys)
read_more old mid xs ys h = ap (with_front old) (read_append xs ys) ∙ go (read xs) h (read ys)
  where
    go : (r : Result (List Token) Breach) → with_front old r ≡ Ok mid → (more : Result (List Token) Breach) → with_front old (then r more) ≡ with_front mid more
    go (Ok ts) h (Ok us) = let e : old ++ ts ≡ mid = cc in ap Ok (sym (append_assoc old ts us) ∙ ap (λ x. x ++ us) e)
    go (Ok ts) h (Err b) = refl
    go (Err b) h more = absurd (cc)

pub read_found : (old mid : List Token) (xs ys : List Item) (b : Breach) → with_front old (read xs) ≡ Ok mid → read (xs ++ Found b ∷ ys) ≡ Err b
read_found old mid xs ys b h = read_append xs (Found b ∷ ys) ∙ go (read xs) h
  where
    go : (r : Result (List Token) Breach) → with_front old r ≡ Ok mid → then r (Err b) ≡ Err b
    go (Ok ts) h = refl
    go (Err c) h = absurd (cc)

-- the beginning of a line without a tab
pub begin_takes : (broken : Option Breach) (old new : List Token) (lines : Lines) (indentation : Indentation) (place : Place) (at : ℕ)
    → indentation.tab ≡ None → Puts broken old new (level_items indentation.spaces place.widths at)
    → IsAt lines (begins_line indentation place at).next → Takes broken old new lines (begins_line indentation place at)
begin_takes None old new lines indentation place at none puts here = (rw none puts, here)
begin_takes (Some b) old new lines indentation place at none puts here = rw none puts

-- before a token the depth stays
pub before_depth : (line : Line) (place : Place) (at : ℕ) → (before_token line place at).next.depth ≡ place.depth
before_depth Fresh place at = refl
before_depth (Indented indentation) place at = refl
before_depth Begun place at = refl

-- the end of a file
pub end_puts : (old mid new : List Token) (place : Place) (end count : ℕ) → Puts None old mid (last_newline place.line end)
    → count ≡ open_above 0 place.widths
    → new ≡ (mid ++ replicate count (record { kind = Dedent; span = record { start = end; end = end } })) ++ record { kind = End; span = record { start = end; end = end } } ∷ []
    → Puts None old new (items_at_end false place end)
unfolding items_at_end
end_puts old mid new place end count puts counted put =
    let dedent : Token = record { kind = Dedent; span = record { start = end; end = end } } in
    read_more old mid (last_newline place.line end) _ puts
    ∙ (read_more mid (mid ++ replicate (open_above 0 place.widths) dedent) (dedents (open_above 0 place.widths) end) _ (ap (with_front mid) (read_replicate (open_above 0 place.widths) dedent))
    ∙ ap Ok (ap (λ n. (mid ++ replicate n dedent) ++ record { kind = End; span = record { start = end; end = end } } ∷ []) (sym counted) ∙ sym put))

pub front_err : (old : List Token) (r : Result (List Token) Breach) (b : Breach) → with_front old r ≡ Err b → r ≡ Err b
front_err old (Ok ts) b h = absurd (cc)
front_err old (Err c) b h = h

-- a piece goes at most one bracket deeper
next_deeper : (kind : TokenKind) (depth : ℕ) → depth_behind kind depth ≤ depth + 1
next_deeper (Sign sign) depth = go (is_opening sign) (is_closing sign)
  where
    go : (t u : Bool) → cond t (depth + 1) (cond u (depth - 1) depth) ≤ depth + 1
    go true u = omega arith
    go false true = omega arith
    go false false = omega arith
next_deeper (Name text) depth = omega arith
next_deeper (Word text) depth = omega arith
next_deeper (Int value) depth = omega arith
next_deeper (Str text) depth = omega arith
next_deeper Newline depth = omega arith
next_deeper Indent depth = omega arith
next_deeper Dedent depth = omega arith
next_deeper End depth = omega arith

pub deeper : (here : Placed) (place : Place) → (given_at here place).next.depth ≤ place.depth + 1
unfolding given_at
deeper here place = go here.piece.shape here.start (here.start + here.piece.len)
  where
    ended : (line : Line) (start end : ℕ) → (ended_line line place start end).next.depth ≤ place.depth + 1
    ended Fresh start end = omega arith
    ended (Indented indentation) start end = omega arith
    ended Begun start end = elim (ltb 0 place.depth) as (λ t. (cond t (gives [] place) (gives (token Newline start end ∷ []) (record { widths = place.widths; line = Fresh; depth = 0 }))).next.depth ≤ place.depth + 1) [ true ↦ omega arith | false ↦ omega arith ]

    go : (shape : Shape) (start end : ℕ) → (given_by shape place start end).next.depth ≤ place.depth + 1
    go (Blanks indentation) start end = omega arith
    go (Comment refused) start end = omega arith
    go LineEnd start end = ended place.line start end
    go Join start end = omega arith
    go (Spelled kind) start end = omega (arith, next_deeper kind (before_token place.line place start).next.depth, before_depth place.line place start)
    go (Faulty fault) start end = omega (arith, before_depth place.line place start)
    go Stray start end = omega arith
    go Cut start end = omega arith
