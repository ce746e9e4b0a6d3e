-- The mention that a reference shows.
use Rattle.std.specs.Prelude.{List, map}
use Rattle.cy_mention.specs.declared.mention.Mention.{Mention}
use Rattle.cy_mention.specs.declared.mention.Mention.TheVariants as code
use Rattle.cy_mention.specs.Mentions as spec
use Rattle.cy_mention.specs.Mentions.{Target, Bound, Declares, Globals, TypeUse}

abbrev pub shown : Mention → spec.Mention
shown (code.Target r) = Target r.now
shown (code.Bound r) = Bound r.now
shown (code.Declares r) = Declares r.now
shown (code.Globals r) = Globals r.now
shown (code.TypeUse r) = TypeUse r.now

abbrev pub all_shown : List Mention → List spec.Mention
all_shown ms = map shown ms
