-- The classes that references show.
use Rattle.std.specs.Prelude.{List, map}
use denote.Ref.{Bor}
use Rattle.cy_tree.specs.declared.decl.PxdClass.{PxdClass}

abbrev pub class_refs : List (Bor PxdClass) → List PxdClass
class_refs refs = map (λ r. r.now) refs
