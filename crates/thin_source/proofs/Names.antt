-- Names, lists of them and the run of bytes that a text begins with.
use Rattle.std.proofs.Common.{◌≡◌, ◌≢◌, ℕ, ◌+◌, ◌<◌, ◌≤◌, Bool, true, false, List, [], ◌∷◌, ◌++◌, length, map, get_or, codes, All, Contains, Bor, refl, sym, ap, ◌∙◌, subst, arith}
use Rattle.std.proofs.Common.{⊎_elim}
use Rattle.std.proofs.lemmas.Bool.{false≢true, cases_lt}
use Rattle.std.proofs.lemmas.List.{append_assoc, append_cancel_left, get_or_append_left, get_or-map, length-map, get_or_default, get_or_at, length_push, get_or_push, length-append}
use Rattle.std.proofs.lemmas.List.Elements.{All-nil, All-head, All-tail, All-contains, All-push, Contains-append_right}
use Rattle.cy_mean.specs.declared.ThinFunction.{ThinFunction}
use Rattle.thin_source.specs.Thin.{thin_text, IsThin, is_name_byte, IsName, IsParameterName, IsParameterList, IsDistinct, joined, number_words}

-- the test holds of each byte
abbrev pub Runs : (ℕ → Bool) → List ℕ → Type 0
Runs p xs = All (λ b. p b ≡ true) xs

-- a run of bytes and what follows it are one split of a text
pub run_unique : (p : ℕ → Bool) (m n x y : List ℕ) → Runs p m → Runs p n → p (get_or x 0 0) ≡ false → p (get_or y 0 0) ≡ false → m ++ x ≡ n ++ y → (m ≡ n) × (x ≡ y)
run_unique p [] [] x y hm hn sx sy e = (refl, e)
run_unique p [] (b ∷ n) x y hm hn sx sy e =
    absurd (false≢true (sym sx ∙ (ap (λ (l : List ℕ). p (get_or l 0 0)) e ∙ All-head (λ c. p c ≡ true) b n hn)))
run_unique p (a ∷ m) [] x y hm hn sx sy e =
    absurd (false≢true (sym sy ∙ (sym (ap (λ (l : List ℕ). p (get_or l 0 0)) e) ∙ All-head (λ c. p c ≡ true) a m hm)))
run_unique p (a ∷ m) (b ∷ n) x y hm hn sx sy e =
    let tails : m ++ x ≡ n ++ y = cc in
    let heads : a ≡ b = cc in
    let rest = run_unique p m n x y (All-tail (λ c. p c ≡ true) a m hm) (All-tail (λ c. p c ≡ true) b n hn) sx sy tails in
    let fronts : m ≡ n = rest.0 in
    (cc, rest.1)

-- a mark that stops a name, with anything behind it
pub mark_stops : (mark rest : List ℕ) → 0 < length mark → is_name_byte (get_or mark 0 0) ≡ false → is_name_byte (get_or (mark ++ rest) 0 0) ≡ false
mark_stops mark rest h s = ap is_name_byte (get_or_append_left mark rest 0 0 h) ∙ s

-- a word that stands at a place of a table
pub word_found : (ws : List (Bor (List ℕ))) (x : List ℕ) (i : ℕ) (d : Bor (List ℕ)) → i < length ws → (get_or ws i d).now ≡ x → Contains (map (λ w. w.now) ws) x
word_found ws x i d h e = (i, omega (arith, length-map ws (λ w. w.now)), get_or-map (λ w. w.now) ws i d x h ∙ e)

-- a word that stands at no place below the next
pub word_more : (ws : List (Bor (List ℕ))) (x : List ℕ) (i : ℕ) (d : Bor (List ℕ)) → i < length ws → ((get_or ws i d).now ≢ x) → get_or (map (λ w. w.now) ws) i x ≢ x
word_more ws x i d h other e = other (sym (get_or-map (λ w. w.now) ws i d x h) ∙ e)

-- the one split of a text into a name, a mark that stops it and a rest
pub split_only : (text front after mark name rest : List ℕ) → text ≡ front ++ after → Runs is_name_byte front → is_name_byte (get_or after 0 0) ≡ false → 0 < length mark → is_name_byte (get_or mark 0 0) ≡ false → IsName name → text ≡ name ++ (mark ++ rest) → (front ≡ name) × (after ≡ mark ++ rest)
split_only text front after mark name rest whole run stop long stops named e =
    run_unique is_name_byte front name after (mark ++ rest) run named.bytes stop (mark_stops mark rest long stops) (sym whole ∙ e)

-- the names, each with a comma and a space behind it
abbrev pub lead : List (List ℕ) → List ℕ
lead [] = []
lead (name ∷ names) = name ++ (codes ", " ++ lead names)

pub lead_push : (names : List (List ℕ)) (name : List ℕ) → lead (names ++ name ∷ []) ≡ lead names ++ (name ++ codes ", ")
lead_push [] name = refl
lead_push (n ∷ names) name =
    ap (λ (x : List ℕ). n ++ (codes ", " ++ x)) (lead_push names name) ∙ sym (append_assoc n (codes ", " ++ lead names) (name ++ codes ", "))

pub joined_push : (names : List (List ℕ)) (name : List ℕ) → joined (names ++ name ∷ []) ≡ lead names ++ name
joined_push [] name = refl
joined_push (n ∷ []) name = sym (append_assoc n (codes ", ") name)
joined_push (n ∷ m ∷ names) name =
    ap (λ (x : List ℕ). n ++ (codes ", " ++ x)) (joined_push (m ∷ names) name) ∙ sym (append_assoc n (codes ", " ++ lead (m ∷ names)) name)

-- the list goes on behind these names, with what is left of the text
pub record Continues (whole names : List (List ℕ)) (rest end : List ℕ) : Type 0 where
  pub next : List ℕ
  pub more : List (List ℕ)
  pub names_are : whole ≡ names ++ (next ∷ more)
  pub rest_is : rest ≡ joined (next ∷ more) ++ (codes "): return " ++ end)

-- these names are read from the text, and what is left begins with the next
pub record IsRead (text rest : List ℕ) (names : List (List ℕ)) : Type 0 where
  pub parameters : All IsParameterName names
  pub distinct : IsDistinct names
  pub few : length names < 32
  pub text_is : text ≡ lead names ++ rest
  pub only : (whole : List (List ℕ)) (end : List ℕ) → IsParameterList whole → text ≡ joined whole ++ (codes "): return " ++ end) → Continues whole names rest end

continues_none : (whole : List (List ℕ)) (text end : List ℕ) → 1 ≤ length whole → text ≡ joined whole ++ (codes "): return " ++ end) → Continues whole [] text end
continues_none [] text end h e = absurd (omega arith)
continues_none (n ∷ ns) text end h e = record { next = n; more = ns; names_are = refl; rest_is = e }

pub IsRead-none : (text : List ℕ) → IsRead text text []
IsRead-none text = record {
  parameters = All-nil IsParameterName;
  distinct = λ i j low high e. absurd (omega arith);
  few = omega arith;
  text_is = refl;
  only = λ whole end list e. continues_none whole text end list.some e;
}

-- a name that stands in a list of parameters
pub Contains-at : (whole names more : List (List ℕ)) (next : List ℕ) → whole ≡ names ++ (next ∷ more) → Contains whole next
Contains-at whole names more next e =
    let P : List (List ℕ) → Type 0 = λ l. Contains l next in
    subst P (sym e) (Contains-append_right names (next ∷ more) next (0, omega arith, refl))

pub parameter_at : (whole names more : List (List ℕ)) (next : List ℕ) → IsParameterList whole → whole ≡ names ++ (next ∷ more) → IsParameterName next
parameter_at whole names more next list e =
    All-contains IsParameterName whole next list.parameters (Contains-at whole names more next e)

-- a parameter is none of those before it
pub new_at : (whole names more : List (List ℕ)) (next : List ℕ) → IsParameterList whole → whole ≡ names ++ (next ∷ more) → ¬ Contains names next
new_at whole names more next list e held =
    let n = length names in
    let P : List (List ℕ) → Type 0 = λ l. (IsDistinct l → ⊥) in
    subst P (sym e) (λ distinct. distinct held.0 n held.1
    (omega (arith, length-append names (next ∷ more)))
    (get_or_append_left names (next ∷ more) [] held.0 held.1 ∙ (get_or_default names held.0 [] next held.1 ∙ (held.2 ∙ sym (get_or_at names next more [] n refl)))))
    list.distinct

comma_or_close : (x y : List ℕ) → codes ", " ++ x ≡ codes "): return " ++ y → ⊥
comma_or_close x y e =
    let first : List ℕ → ℕ = λ l. get_or l 0 0 in
    let same : first (codes ", ") ≡ first (codes "): return ") = ap first e in
    omega (arith, same)

comma_cases : (whole names : List (List ℕ)) (rest end name after next : List ℕ) (more : List (List ℕ)) → IsName name → IsName next → rest ≡ name ++ (codes ", " ++ after) → whole ≡ names ++ (next ∷ more) → rest ≡ joined (next ∷ more) ++ (codes "): return " ++ end) → Continues whole (names ++ name ∷ []) after end
comma_cases whole names rest end name after next [] named next_named e are left =
    let s = run_unique is_name_byte name next (codes ", " ++ after) (codes "): return " ++ end) named.bytes next_named.bytes refl refl (sym e ∙ left) in
    absurd (comma_or_close after end s.1)
comma_cases whole names rest end name after next (m ∷ ms) named next_named e are left =
    let tail = codes "): return " ++ end in
    let s = run_unique is_name_byte name next (codes ", " ++ after) (codes ", " ++ (joined (m ∷ ms) ++ tail)) named.bytes next_named.bytes refl refl (sym e ∙ (left ∙ append_assoc next (codes ", " ++ joined (m ∷ ms)) tail)) in
    record {
      next = m;
      more = ms;
      names_are = are ∙ (ap (λ (n : List ℕ). names ++ (n ∷ m ∷ ms)) (sym s.0) ∙ sym (append_assoc names (name ∷ []) (m ∷ ms)));
      rest_is = append_cancel_left (codes ", ") after (joined (m ∷ ms) ++ tail) s.1;
    }

-- a name and a comma are read
pub continues_comma : (whole names : List (List ℕ)) (rest end name after : List ℕ) → IsParameterList whole → IsName name → rest ≡ name ++ (codes ", " ++ after) → Continues whole names rest end → Continues whole (names ++ name ∷ []) after end
continues_comma whole names rest end name after list named e h =
    comma_cases whole names rest end name after h.next h.more named (parameter_at whole names h.more h.next list h.names_are).name_is e h.names_are h.rest_is

-- what a list that goes on behind a name says of it
pub record Admits (names : List (List ℕ)) (name : List ℕ) : Type 0 where
  pub room : length names + 1 < 32
  pub no_number : ¬ Contains number_words name
  pub new : ¬ Contains names name

pub admits_comma : (whole names : List (List ℕ)) (after end name : List ℕ) → IsParameterList whole → Continues whole (names ++ name ∷ []) after end → Admits names name
admits_comma whole names after end name list h =
    let more = h.next ∷ h.more in
    let e : whole ≡ names ++ (name ∷ more) = h.names_are ∙ append_assoc names (name ∷ []) more in
    record {
      room = omega (arith, ap length e, length-append names (name ∷ more), list.few);
      no_number = (parameter_at whole names more name list e).no_number;
      new = new_at whole names more name list e;
    }

pub IsDistinct-push : (names : List (List ℕ)) (name : List ℕ) → IsDistinct names → ¬ Contains names name → IsDistinct (names ++ name ∷ [])
IsDistinct-push names name distinct new i j low high e =
    let size = length_push names name in
    let lower : i < length names = omega (arith, size) in
    let at_i = get_or_append_left names (name ∷ []) [] i lower in
    ⊎_elim (λ inner. distinct i j low inner (sym at_i ∙ (e ∙ get_or_append_left names (name ∷ []) [] j inner)))
    (λ outer. new (i, lower, get_or_default names i name [] lower ∙ (sym at_i ∙ (e ∙ get_or_push names name [] j (omega (arith, size))))))
    (cases_lt j (length names))

-- one more name and the comma behind it are read
pub IsRead-push : (text rest : List ℕ) (names : List (List ℕ)) (name after : List ℕ) → IsRead text rest names → IsName name → rest ≡ name ++ (codes ", " ++ after) → length names + 1 < 32 → ¬ Contains number_words name → ¬ Contains names name → IsRead text after (names ++ name ∷ [])
IsRead-push text rest names name after read named e room no_number new = record {
  parameters = All-push IsParameterName names name read.parameters (record { name_is = named; no_number = no_number });
  distinct = IsDistinct-push names name read.distinct new;
  few = omega (arith, length_push names name);
  text_is = read.text_is ∙ (ap (λ (x : List ℕ). lead names ++ x) (e ∙ sym (append_assoc name (codes ", ") after)) ∙ (sym (append_assoc (lead names) (name ++ codes ", ") after) ∙ ap (λ (x : List ℕ). x ++ after) (sym (lead_push names name))));
  only = λ whole end list t. continues_comma whole names rest end name after list named e (read.only whole end list t);
}

-- the last name: no comma follows
pub record IsLast (whole names : List (List ℕ)) (rest end : List ℕ) : Type 0 where
  pub next : List ℕ
  pub names_are : whole ≡ names ++ next ∷ []
  pub parameter : IsParameterName next
  pub new : ¬ Contains names next
  pub rest_is : rest ≡ next ++ (codes "): return " ++ end)

last_cases : (whole names : List (List ℕ)) (rest end next : List ℕ) (more : List (List ℕ)) → ((name after : List ℕ) → IsName name → rest ≡ name ++ (codes ", " ++ after) → ⊥) → IsParameterName next → ¬ Contains names next → whole ≡ names ++ (next ∷ more) → rest ≡ joined (next ∷ more) ++ (codes "): return " ++ end) → IsLast whole names rest end
last_cases whole names rest end next [] none parameter new are left = record { next = next; names_are = are; parameter = parameter; new = new; rest_is = left }
last_cases whole names rest end next (m ∷ ms) none parameter new are left =
    absurd (none next (joined (m ∷ ms) ++ (codes "): return " ++ end)) parameter.name_is (left ∙ append_assoc next (codes ", " ++ joined (m ∷ ms)) (codes "): return " ++ end)))

pub last_is : (whole names : List (List ℕ)) (text rest end : List ℕ) → IsRead text rest names → IsParameterList whole → text ≡ joined whole ++ (codes "): return " ++ end) → ((name after : List ℕ) → IsName name → rest ≡ name ++ (codes ", " ++ after) → ⊥) → IsLast whole names rest end
last_is whole names text rest end read list t none =
    let h = read.only whole end list t in
    last_cases whole names rest end h.next h.more none (parameter_at whole names h.more h.next list h.names_are) (new_at whole names h.more h.next list h.names_are) h.names_are h.rest_is

-- the last name and what closes the list are read
pub list_is : (text rest : List ℕ) (names : List (List ℕ)) (name after : List ℕ) → IsRead text rest names → IsName name → rest ≡ name ++ (codes "): return " ++ after) → ¬ Contains number_words name → ¬ Contains names name → IsParameterList (names ++ name ∷ []) × (text ≡ joined (names ++ name ∷ []) ++ (codes "): return " ++ after))
list_is text rest names name after read named e no_number new =
    let size = length_push names name in (
      record {
        parameters = All-push IsParameterName names name read.parameters (record { name_is = named; no_number = no_number });
        distinct = IsDistinct-push names name read.distinct new;
        some = omega (arith, size);
        few = omega (arith, size, read.few);
      },
      read.text_is ∙ (ap (λ (x : List ℕ). lead names ++ x) e ∙ (sym (append_assoc (lead names) name (codes "): return " ++ after)) ∙ ap (λ (x : List ℕ). x ++ (codes "): return " ++ after)) (sym (joined_push names name)))),
    )

pub thin_text-is : (thin : ThinFunction) → thin_text thin ≡ codes "def " ++ (thin.name ++ (codes "(" ++ (joined thin.parameters ++ (codes "): return " ++ (thin.left ++ (codes " + " ++ (thin.right ++ codes "\n")))))))
thin_text-is thin = simp append_assoc

pub parameters_are : (thin : ThinFunction) → IsThin thin → IsParameterList thin.parameters
parameters_are thin h = record { parameters = h.parameters; distinct = h.distinct; some = h.some; few = h.few }

pub IsName-parameter : (names : List (List ℕ)) (name : List ℕ) → All IsParameterName names → Contains names name → IsName name
IsName-parameter names name h held = (All-contains IsParameterName names name h held).name_is

pub Contains-moved : (xs ys : List (List ℕ)) (x y : List ℕ) → xs ≡ ys → x ≡ y → Contains ys y → Contains xs x
Contains-moved xs ys x y e d h =
    let P : List (List ℕ) → Type 0 = λ l. Contains l y in
    let Q : List ℕ → Type 0 = λ n. Contains xs n in
    subst Q (sym d) (subst P (sym e) h)

-- a name that was refused is no parameter behind these names
pub refused : (answer : Bool) (read names : List (List ℕ)) (name next : List ℕ) → answer ≡ false → ((¬ Contains number_words name) × (¬ Contains read name) → answer ≡ true) → read ≡ names → name ≡ next → ¬ Contains number_words next → ¬ Contains names next → ⊥
refused answer read names name next was says e d no_number new =
    false≢true (sym was ∙ says (λ h. no_number (Contains-moved number_words number_words next name refl (sym d) h), λ h. new (Contains-moved names read next name (sym e) (sym d) h)))

-- a thin function of parts that were read
pub thin_is : (thin : ThinFunction) (bytes name rest left right tail : List ℕ) (names : List (List ℕ)) → thin.name ≡ name → thin.parameters ≡ names → thin.left ≡ left → thin.right ≡ right → IsName name → IsParameterList names → Contains names left → Contains names right → bytes ≡ codes "def " ++ (name ++ (codes "(" ++ rest)) → rest ≡ joined names ++ (codes "): return " ++ tail) → tail ≡ left ++ (codes " + " ++ (right ++ codes "\n")) → IsThin thin × (bytes ≡ thin_text thin)
thin_is thin bytes name rest left right tail names same_name same_names same_left same_right named list has_left has_right bytes_are rest_is tail_is =
    let parameters = subst IsParameterList (sym same_names) list in
    let text : bytes ≡ codes "def " ++ (thin.name ++ (codes "(" ++ (joined thin.parameters ++ (codes "): return " ++ (thin.left ++ (codes " + " ++ (thin.right ++ codes "\n"))))))) = cc in (
      record {
        name = subst IsName (sym same_name) named;
        parameters = parameters.parameters;
        distinct = parameters.distinct;
        some = parameters.some;
        few = parameters.few;
        left_among = Contains-moved thin.parameters names thin.left left same_names same_left has_left;
        right_among = Contains-moved thin.parameters names thin.right right same_names same_right has_right;
      },
      text ∙ sym (thin_text-is thin),
    )
