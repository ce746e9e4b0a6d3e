-- From what was read, made and written to what a build leaves.
use Rattle.std.proofs.Common.{◌≡◌, ℕ, List, Option, take, inl, inr, ◌∙◌}
use Rattle.std.specs.Prelude.{IfSome, IsSomeAnd}
use Rattle.cy_io.specs.Told.{FileMap, BothTold}
use Rattle.cy_mean.specs.declared.ThinFunction.{ThinFunction}
use Rattle.thin_source.specs.Thin.{IsThin, thin_text}
use Rattle.cyc_top.specs.Build.{c_name, header_text, module_text, AreWritten, ArePartlyWritten, IsAsBeforeOrHeader, IsBuilt, IsPartlyBuilt, IsAtMostHeader}
use Rattle.cyc_top.proofs.Reading.{limit, Spells-read}

-- what was read is the front of the file, where files are told
abbrev pub IsFront : Option FileMap → List ℕ → List ℕ → Type 0
IsFront told word bytes = IfSome told (λ files. IsSomeAnd (files word) (λ file. bytes ≡ take limit file))

-- the outputs that were made of the bytes
abbrev pub AreMade : List ℕ → List ℕ → List ℕ → List ℕ → List ℕ → Type 0
AreMade bytes module_name header name text =
    (thin : ThinFunction) × IsThin thin × (bytes ≡ thin_text thin) × (header ≡ header_text thin) × (name ≡ c_name module_name) × (text ≡ module_text module_name thin)

pub built : (a b c : Option FileMap) (word module_name bytes header name text : List ℕ) → b ≡ a → IsFront a word bytes → AreMade bytes module_name header name text → BothTold b c (AreWritten header name text) → IsBuilt word module_name a c
built a b c word module_name bytes header name text same front made written =
    (made.0, made.1, Spells-read a word bytes made.0 made.1 front made.2, rw (← made.3, ← made.4, ← made.5, ← same) written)

pub partly_built : (a b c : Option FileMap) (word module_name bytes header name text : List ℕ) → b ≡ a → IsFront a word bytes → AreMade bytes module_name header name text → BothTold b c (ArePartlyWritten header name) → IsPartlyBuilt word module_name a c
partly_built a b c word module_name bytes header name text same front made written =
    (made.0, made.1, Spells-read a word bytes made.0 made.1 front made.2, rw (← made.3, ← made.4, ← same) written)

pub at_most_header : (a b c : Option FileMap) (word module_name bytes header name text : List ℕ) → b ≡ a → IsFront a word bytes → AreMade bytes module_name header name text → IsAsBeforeOrHeader header b c → IsAtMostHeader word a c
at_most_header a b c word module_name bytes header name text same front made (inl e) = inl (e ∙ same)
at_most_header a b c word module_name bytes header name text same front made (inr written) =
    inr (made.0, made.1, Spells-read a word bytes made.0 made.1 front made.2, rw (← made.3, ← same) written)
