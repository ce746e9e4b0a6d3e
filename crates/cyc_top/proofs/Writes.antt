-- Two writes, one after the other.
use Rattle.std.proofs.Common.{◌≢◌, ℕ, List, Option, Some, None, ◌∙◌, sym, inr}
use Rattle.cy_io.specs.Told.{FileMap, BothTold, SameElsewhere, IsWritten}
use Rattle.cyc_top.specs.Build.{header_name, AreWritten, IsHalfWritten, ArePartlyWritten}

both : (header name text : List ℕ) (a b c : FileMap) → name ≢ header_name → IsWritten header_name header a b → IsWritten name text b c → AreWritten header name text a c
both header name text a b c apart first second = record {
  header_is = second.1 header_name (λ e. apart (sym e)) ∙ first.0;
  module_is = second.0;
  others = λ other no_header no_name. second.1 other no_name ∙ first.1 other no_header;
}

half : (header name : List ℕ) (a b c : FileMap) → name ≢ header_name → IsWritten header_name header a b → SameElsewhere name b c → IsHalfWritten header name a c
half header name a b c apart first second = record {
  header_is = second header_name (λ e. apart (sym e)) ∙ first.0;
  others = λ other no_header no_name. second other no_name ∙ first.1 other no_header;
}

-- both writes are done
pub AreWritten-twice : (a b c : Option FileMap) (header name text : List ℕ) → name ≢ header_name → BothTold a b (IsWritten header_name header) → BothTold b c (IsWritten name text) → BothTold a c (AreWritten header name text)
AreWritten-twice None None None header name text apart first second = tt
AreWritten-twice None None (Some c) header name text apart first second = second
AreWritten-twice None (Some b) c header name text apart first second = absurd first
AreWritten-twice (Some a) None c header name text apart first second = absurd first
AreWritten-twice (Some a) (Some b) None header name text apart first second = second
AreWritten-twice (Some a) (Some b) (Some c) header name text apart first second =
    both header name text a b c apart first second

-- the second fails
pub ArePartlyWritten-second : (a b c : Option FileMap) (header name : List ℕ) → name ≢ header_name → BothTold a b (IsWritten header_name header) → BothTold b c (SameElsewhere name) → BothTold a c (ArePartlyWritten header name)
ArePartlyWritten-second None None None header name apart first second = tt
ArePartlyWritten-second None None (Some c) header name apart first second = second
ArePartlyWritten-second None (Some b) c header name apart first second = absurd first
ArePartlyWritten-second (Some a) None c header name apart first second = absurd first
ArePartlyWritten-second (Some a) (Some b) None header name apart first second = second
ArePartlyWritten-second (Some a) (Some b) (Some c) header name apart first second =
    inr (half header name a b c apart first second)
