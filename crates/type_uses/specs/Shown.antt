-- The type or name that a reference shows.
use Rattle.std.specs.Prelude.{List, map}
use Rattle.type_uses.specs.declared.walk.TypeUse.{TypeUse}
use Rattle.type_uses.specs.declared.walk.TypeUse.TheVariants as code
use Rattle.type_uses.specs.Uses as spec
use Rattle.type_uses.specs.Uses.{PlaceType, ResultType, Declares}

abbrev pub shown : TypeUse → spec.TypeUse
shown (code.PlaceType t) = PlaceType t.now
shown (code.ResultType t) = ResultType t.now
shown (code.Declares name kind) = Declares name.now kind.now

abbrev pub all_shown : List TypeUse → List spec.TypeUse
all_shown us = map shown us
