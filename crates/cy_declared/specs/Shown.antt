-- The functions, declarations and entries that references show.
use Rattle.std.specs.Prelude.{List, map}
use Rattle.std.specs.Option.{option_copied}
use Rattle.cy_mention.specs.FunctionsShown.{function_shown}
use denote.Ref.{Bor}
use Rattle.cy_tree.specs.declared.decl.PxdClass.{PxdClass}
use Rattle.cy_declared.specs.declared.member.MemberRef.{MemberRef}
use Rattle.cy_declared.specs.declared.local.TypedRef.{TypedRef}
use Rattle.cy_declared.specs.declared.owned.OwnedRef.{OwnedRef}
use Rattle.cy_declared.specs.declared.variable.DeclarationRef.{DeclarationRef}
use Rattle.cy_declared.specs.Functions.{Owned}
use Rattle.cy_declared.specs.Members.{MemberEntry}
use Rattle.cy_declared.specs.Variables.{Declaration, Typed}

abbrev pub owned_shown : OwnedRef → Owned
owned_shown o = record { owner = o.owner; function = function_shown o.function }

abbrev pub all_owned_shown : List OwnedRef → List Owned
all_owned_shown os = map owned_shown os

abbrev pub declaration_shown : DeclarationRef → Declaration
declaration_shown d = (d.name.now, option_copied d.kind)

abbrev pub declarations_shown : List DeclarationRef → List Declaration
declarations_shown ds = map declaration_shown ds

abbrev pub member_shown : MemberRef → MemberEntry
member_shown m = (m.name.now, m.member)

abbrev pub members_shown : List MemberRef → List MemberEntry
members_shown ms = map member_shown ms

abbrev pub class_refs : List (Bor PxdClass) → List PxdClass
class_refs refs = map (λ r. r.now) refs

abbrev pub typed_shown : TypedRef → Typed
typed_shown t = (t.name.now, t.kind)

abbrev pub all_typed_shown : List TypedRef → List Typed
all_typed_shown ts = map typed_shown ts
