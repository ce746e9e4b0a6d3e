-- What stands behind `static`, where it stands.
use Rattle.std.proofs.Common.{◌≡◌, Bool, true, false, List, [], ◌++◌, refl}
use Rattle.c_token.specs.CTokens.{CToken}
use Rattle.c_tree.specs.Items.{static_or}

pub static_join : (is_static : Bool) (tokens : List CToken) → static_or is_static [] ++ tokens ≡ static_or is_static tokens
static_join true tokens = refl
static_join false tokens = refl
