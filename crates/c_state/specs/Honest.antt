-- Scripts that name no instance after an entry that destroys it, whether or not that takes effect. The project's own.
use Rattle.std.specs.Prelude.{ℕ, Bool, true, false, not, ◌&&◌, ◌||◌, nat_eq, IsTrue, List, [], ◌∷◌}
use Rattle.api_model.specs.declared.object.Obj.{Obj}
use Rattle.api_model.specs.declared.object.Obj.TheVariants as obj
use Rattle.api_model.specs.declared.entry.Entry.{Entry}
use Rattle.api_model.specs.declared.entry.Entry.TheVariants as entry

abbrev pub is_inst : ℕ → Obj → Bool
is_inst k (obj.Inst j) = nat_eq k j
is_inst k _ = false

abbrev pub any_inst : ℕ → List Obj → Bool
any_inst k [] = false
any_inst k (o ∷ os) = is_inst k o || any_inst k os

-- whether an entry names the instance
abbrev pub names_inst : ℕ → Entry → Bool
names_inst k (entry.OkNode o) = is_inst k o
names_inst k (entry.Raise o) = is_inst k o
names_inst k (entry.Enter callee os) = any_inst k os
names_inst k (entry.Get path o) = is_inst k o
names_inst k (entry.Set path o v) = is_inst k o || is_inst k v
names_inst k (entry.Unset path o) = is_inst k o
names_inst k (entry.Die j) = nat_eq k j
names_inst k _ = false

abbrev pub none_names_inst : ℕ → List Entry → Bool
none_names_inst k [] = true
none_names_inst k (e ∷ es) = not (names_inst k e) && none_names_inst k es

abbrev pub is_honest : List Entry → Bool
is_honest [] = true
is_honest (entry.Die k ∷ es) = none_names_inst k es && is_honest es
is_honest (e ∷ es) = is_honest es

-- after an entry `die k` no entry names Inst k
abbrev pub IsHonest : List Entry → Type 0
IsHonest es = IsTrue (is_honest es)
