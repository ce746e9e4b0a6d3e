-- How the characters of an inside are read part by part.
use Rattle.std.proofs.Common.{◌≡◌, ℕ, zero, suc, ◌+◌, ◌-◌, ◌<◌, ◌≤◌, Bool, true, false, eqb, List, [], ◌∷◌, ◌++◌, length, take, drop, refl, sym, ap, ◌∙◌, arith, append_assoc, append-nil, Option, Some, None}
use Rattle.std.specs.Prelude.{encode_utf8_all, chars, option_to_list}
use Rattle.std.specs.Option.{option_map}
use Rattle.std.specs.Str.{IsUtf8, NonePass, NoCharPasses}
use Rattle.std.proofs.lemmas.Str.{encodes-append, chars_from_encodes}
use Rattle.std.proofs.lemmas.List.{drop-drop, length-drop, drop_all, take_all}
use Rattle.pyx_lex.specs.declared.escape.Part.{Part}
use Rattle.pyx_lex.specs.Strings.{part_at, put_before, put_part, unescaped, inside_value}

-- characters that are still to be passed are passed
passed : (k : ℕ) (cs : List ℕ) → unescaped k cs ≡ unescaped 0 (drop k cs)
unfolding unescaped
passed zero [] = refl
passed (suc k) [] = refl
passed zero (c ∷ cs) = refl
passed (suc k) (c ∷ cs) = passed k cs

-- a part at the front
pub front_part : (cs : List ℕ) (p : Part) → 0 < length cs → part_at cs ≡ Some p → 0 < p.taken
    → unescaped 0 cs ≡ put_before (option_to_list p.gives) (unescaped 0 (drop p.taken cs))
unfolding unescaped
front_part [] p some at pos = absurd (omega arith)
front_part (c ∷ cs) p some at pos =
    let e : p.taken ≡ suc (p.taken - 1) = omega arith in
    ap (λ o. put_part o (λ taken. unescaped (taken - 1) cs)) at
    ∙ ap (put_before (option_to_list p.gives)) (passed (p.taken - 1) cs ∙ ap (λ n. unescaped 0 (drop n (c ∷ cs))) (sym e))

pub no_part : (cs : List ℕ) → 0 < length cs → part_at cs ≡ None → unescaped 0 cs ≡ None
unfolding unescaped
no_part [] some at = absurd (omega arith)
no_part (c ∷ cs) some at = ap (λ o. put_part o (λ taken. unescaped (taken - 1) cs)) at

pub nothing_left : unescaped 0 [] ≡ Some []
unfolding unescaped
nothing_left = refl

pub put_on : (front more : List ℕ) (rest : Option (List ℕ))
    → option_map (λ cs. front ++ encode_utf8_all cs) (put_before more rest)
    ≡ option_map (λ cs. (front ++ encode_utf8_all more) ++ encode_utf8_all cs) rest
put_on front more None = refl
put_on front more (Some cs) = ap Some (ap (λ t. front ++ t) (encodes-append more cs) ∙ sym (append_assoc front (encode_utf8_all more) (encode_utf8_all cs)))

abbrev left : List ℕ → ℕ → List ℕ → Option (List ℕ)
left cs at front = option_map (λ ds. front ++ encode_utf8_all ds) (unescaped 0 (drop at cs))

-- the slice from a place on
pub rest_whole : (at : ℕ) (cs : List ℕ) → take (length cs - at) (drop at cs) ≡ drop at cs
rest_whole at cs = take_all _ _ (omega (arith, length-drop at cs))

-- one part is read
pub one_more : (cs : List ℕ) (at : ℕ) (p : Part) (old new : List ℕ) (whole : Option (List ℕ)) → at < length cs
    → part_at (take (length cs - at) (drop at cs)) ≡ Some p → 0 < p.taken → new ≡ old ++ encode_utf8_all (option_to_list p.gives)
    → left cs at old ≡ whole → left cs (at + p.taken) new ≡ whole
one_more cs at p old new whole lt here pos grown kept =
    let some : 0 < length (drop at cs) = omega (arith, length-drop at cs) in
    let front = front_part (drop at cs) p some (sym (ap part_at (rest_whole at cs)) ∙ here) pos in
    let same : drop p.taken (drop at cs) ≡ drop (at + p.taken) cs = drop-drop p.taken at cs in
    ap (λ t. left cs (at + p.taken) t) grown
    ∙ (sym (put_on old (option_to_list p.gives) (unescaped 0 (drop (at + p.taken) cs)))
    ∙ (ap (λ r. option_map (λ ds. old ++ encode_utf8_all ds) (put_before (option_to_list p.gives) (unescaped 0 r))) (sym same)
    ∙ (ap (option_map (λ ds. old ++ encode_utf8_all ds)) (sym front) ∙ kept)))

-- all is read
pub all_read : (cs : List ℕ) (at : ℕ) (old : List ℕ) (whole : Option (List ℕ)) → length cs ≤ at → left cs at old ≡ whole → Some old ≡ whole
all_read cs at old whole le kept =
    ap Some (sym (append-nil old))
    ∙ (sym (ap (λ r. option_map (λ ds. old ++ encode_utf8_all ds) r) (ap (unescaped 0) (drop_all at cs le) ∙ nothing_left)) ∙ kept)

-- what stands at a place is no part
pub none_read : (cs : List ℕ) (at : ℕ) (old : List ℕ) (whole : Option (List ℕ)) → at < length cs
    → part_at (take (length cs - at) (drop at cs)) ≡ None
    → left cs at old ≡ whole → None ≡ whole
none_read cs at old whole lt here kept =
    let some : 0 < length (drop at cs) = omega (arith, length-drop at cs) in
    sym (ap (option_map (λ ds. old ++ encode_utf8_all ds)) (no_part (drop at cs) some (sym (ap part_at (rest_whole at cs)) ∙ here))) ∙ kept

-- from nothing
pub from_start : (cs : List ℕ) → left cs 0 [] ≡ option_map encode_utf8_all (unescaped 0 cs)
from_start cs = refl

plain_chars : (cs : List ℕ) → NonePass (λ d. eqb d 92) cs → unescaped 0 cs ≡ Some cs
unfolding unescaped
plain_chars [] none = refl
plain_chars (c ∷ cs) none = rw (none.0) (ap (put_before (c ∷ [])) (plain_chars cs none.1))

-- an inside without a backslash stands for itself
pub plain_inside : (raw : Bool) (inside : List ℕ) → IsUtf8 inside → NoCharPasses (λ d. eqb d 92) inside → inside_value raw inside ≡ Some inside
plain_inside true inside utf8 none = refl
plain_inside false inside utf8 none =
    let e : none.0 ≡ chars inside = chars_from_encodes none.0 inside utf8 none.1 in
    ap (option_map encode_utf8_all) (ap (unescaped 0) (sym e) ∙ plain_chars none.0 none.2) ∙ ap Some none.1
