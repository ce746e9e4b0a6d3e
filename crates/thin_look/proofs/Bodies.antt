-- The lines of a function are those of its item.
use Rattle.std.proofs.Common.{◌≡◌, ℕ, List, Option, Some, None, refl, slice_get, unwrap_or}
use Rattle.std.proofs.lemmas.List.{reverse-reverse}
use Rattle.thin_state.specs.declared.tree.CItem.{CItem}
use Rattle.thin_state.specs.declared.tree.CItem.TheVariants as item
use Rattle.thin_state.specs.declared.tree.CFile.{CFile}
use Rattle.thin_state.specs.Reads.{items_at}
use Rattle.thin_look.specs.Views.{as_function, no_function, function_at, lines_in}

lines_there : (o : Option CItem) → lines_in o ≡ (unwrap_or (as_function o) no_function).lines
lines_there None = refl
lines_there (Some (item.Function f)) = refl
lines_there (Some item.DefineClean) = refl
lines_there (Some item.IncludePython) = refl
lines_there (Some item.IncludeSet) = refl
lines_there (Some item.ViewType) = refl
lines_there (Some item.RootStruct) = refl
lines_there (Some item.FormatTest) = refl
lines_there (Some (item.Prototype t m j ts)) = refl
lines_there (Some (item.Static t p)) = refl
lines_there (Some (item.Methods rs)) = refl
lines_there (Some (item.ModuleDefinition n)) = refl

pub lines_in-is : (files : List CFile) (k i : ℕ) → lines_in (slice_get (items_at files k) i) ≡ (function_at files k i).lines
lines_in-is files k i = lines_there (slice_get (items_at files k) i)

pub ruleset lines = (lines_in-is)

pub ruleset turns = (reverse-reverse)
