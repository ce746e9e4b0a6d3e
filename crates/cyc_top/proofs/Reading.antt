-- What a read of a file says of a thin text.
use Rattle.std.proofs.Common.{◌≡◌, ◌≢◌, ℕ, ◌*◌, ◌<◌, ◌≤◌, ◌++◌, List, [], ◌∷◌, suc, Option, Some, None, length, take, ap, sym, ◌∙◌, arith, length-append, codes}
use Rattle.std.proofs.lemmas.List.Elements.{All-contains}
use Rattle.std.specs.Prelude.{MatchOption, All, Contains, IfSome, IsSomeAnd}
use Rattle.std.proofs.lemmas.List.{take_all, length-take}
use Rattle.cy_io.specs.Told.{FileMap}
use Rattle.cy_mean.specs.declared.ThinFunction.{ThinFunction}
use Rattle.thin_source.specs.Thin.{IsThin, IsParameterName, joined, thin_text}
use Rattle.cyc_top.specs.Build.{Spells, Tells, IsUnthin}

abbrev pub limit : ℕ
limit = 4194305

-- a text that is shorter than what was asked for is the whole file
whole : (file text : List ℕ) (n : ℕ) → take n file ≡ text → length text < n → file ≡ text
whole file text n e short =
    let within : length file < n = omega (arith, length-take n file, ap length e) in
    sym (take_all n file (omega arith)) ∙ e

tail : (name : List ℕ) (names : List (List ℕ)) → All IsParameterName (name ∷ names) → All IsParameterName names
tail name names h = λ k d within. h (suc k) d (omega arith)

length-joined : (names : List (List ℕ)) → All IsParameterName names → length (joined names) ≤ 257 * length names
length-joined [] h = omega arith
length-joined (name ∷ []) h = omega (arith, (h 0 [] (omega arith)).name_is.short)
length-joined (name ∷ next ∷ names) h =
    omega (arith, (h 0 [] (omega arith)).name_is.short, length-joined (next ∷ names) (tail name (next ∷ names) h), length-append name (codes ", " ++ joined (next ∷ names)))

among : (names : List (List ℕ)) (name : List ℕ) → All IsParameterName names → Contains names name → length name ≤ 255
among names name h c = (All-contains IsParameterName names name h c).name_is.short

-- a thin text is far below the limit
pub thin-short : (thin : ThinFunction) → IsThin thin → length (thin_text thin) < limit
thin-short thin h =
    let parameters = length-joined thin.parameters h.parameters in
    let few = h.few in
    let name = h.name.short in
    let left = among thin.parameters thin.left h.parameters h.left_among in
    let right = among thin.parameters thin.right h.parameters h.right_among in
    simp length-append (omega arith)

told_file : (file : Option (List ℕ)) (bytes : List ℕ) (thin : ThinFunction) → IsThin thin → IsSomeAnd file (λ f. bytes ≡ take limit f) → bytes ≡ thin_text thin → file ≡ Some (thin_text thin)
told_file None bytes thin h r e = absurd r
told_file (Some f) bytes thin h r e = ap Some (whole f (thin_text thin) limit (sym r ∙ e) (thin-short thin h))

-- a file whose front is thin is thin
pub Spells-read : (told : Option FileMap) (word bytes : List ℕ) (thin : ThinFunction) → IsThin thin → IfSome told (λ files. IsSomeAnd (files word) (λ file. bytes ≡ take limit file)) → bytes ≡ thin_text thin → Spells told word (thin_text thin)
Spells-read None word bytes thin h r e = tt
Spells-read (Some files) word bytes thin h r e = told_file (files word) bytes thin h r e

unthin_file : (file : Option (List ℕ)) (bytes : List ℕ) → IsSomeAnd file (λ f. bytes ≡ take limit f) → ((thin : ThinFunction) → IsThin thin → bytes ≢ thin_text thin) → IsSomeAnd file (λ text. (thin : ThinFunction) → IsThin thin → text ≢ thin_text thin)
unthin_file None bytes r unlike = r
unthin_file (Some f) bytes r unlike =
    λ thin h e. unlike thin h (r ∙ take_all limit f (omega (arith, thin-short thin h, ap length e)) ∙ e)

-- a file whose front isn't thin isn't
pub IsUnthin-read : (told : Option FileMap) (word bytes : List ℕ) → IfSome told (λ files. IsSomeAnd (files word) (λ file. bytes ≡ take limit file)) → ((thin : ThinFunction) → IsThin thin → bytes ≢ thin_text thin) → IsUnthin told word
IsUnthin-read None word bytes r unlike = tt
IsUnthin-read (Some files) word bytes r unlike = unthin_file (files word) bytes r unlike

thin_front : (file : Option (List ℕ)) (bytes : List ℕ) (thin : ThinFunction) → IsThin thin → IsSomeAnd file (λ f. bytes ≡ take limit f) → file ≡ Some (thin_text thin) → bytes ≡ thin_text thin
thin_front None bytes thin h r e = absurd r
thin_front (Some f) bytes thin h r e =
    let same : f ≡ thin_text thin = cc in
    r ∙ take_all limit f (omega (arith, thin-short thin h, ap length same)) ∙ same

-- what was read of a thin file is all of it
pub read_thin : (told : Option FileMap) (word bytes : List ℕ) (thin : ThinFunction) → IsThin thin → IfSome told (λ files. IsSomeAnd (files word) (λ file. bytes ≡ take limit file)) → Tells told word (thin_text thin) → bytes ≡ thin_text thin
read_thin None word bytes thin h r t = absurd t
read_thin (Some files) word bytes thin h r t = thin_front (files word) bytes thin h r t

-- a file that is told and there isn't told and absent
pub told_absent : (told : Option FileMap) (word text : List ℕ) (P : Type 0) → Tells told word text → MatchOption told P (λ files. files word ≡ None) → ⊥
told_absent None word text P t m = t
told_absent (Some files) word text P t m = let e : Some text ≡ None = sym t ∙ m in cc
