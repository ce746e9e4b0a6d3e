-- The declarations that references show.
use Rattle.std.specs.Prelude.{List, map}
use Rattle.declaration_rules.specs.declared.declaration.Declaration.{Declaration}
use Rattle.declaration_rules.specs.declared.declaration.Declaration.TheVariants as code
use Rattle.declaration_rules.specs.Declarations as spec
use Rattle.declaration_rules.specs.Declarations.{Defined, Headed, Opened}

abbrev pub declaration_shown : Declaration → spec.Declaration
declaration_shown (code.Defined is_method d) = Defined is_method d.now
declaration_shown (code.Headed is_method h) = Headed is_method h.now
declaration_shown (code.Opened t) = Opened t.now

abbrev pub declarations_shown : List Declaration → List spec.Declaration
declarations_shown ds = map declaration_shown ds
