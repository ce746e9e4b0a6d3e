-- What it is for the names of a set to be resolved. The project's own.
use Rattle.std.specs.Prelude.{◌≡◌}
use Rattle.cy_base.specs.declared.place.Refusal.{Refusal}
use Rattle.cy_tree.specs.declared.set.NamedSet.{NamedSet}
use Rattle.cy_tree.specs.declared.set.SourceSet.{SourceSet}
use Rattle.cy_scope.specs.Scopes.{scopes_of, scopes_shown}
use Rattle.name_rules.specs.Breaches.{refusals}
use Rattle.name_rules.specs.First.{IsFirst}

-- the set is the one that was given, and its scopes hold the names that each scope declares, each once, with what they mean
abbrev pub IsNamed : SourceSet → NamedSet → Type 0
IsNamed set named = (named.set ≡ set) × (scopes_shown named.scopes ≡ scopes_of set)

-- it is the first rule on names that the set breaks
abbrev pub IsFirstBreach : SourceSet → Refusal → Type 0
IsFirstBreach set refusal = IsFirst refusal (refusals set)
