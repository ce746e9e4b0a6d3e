-- Equality of names, as tests. The project's own.
use Rattle.std.specs.Prelude.{Bool, true, false, ◌&&◌, nat_eq}
use Rattle.std.specs.Str.{bytes_eq}
use Rattle.c_tree.specs.declared.name.Numbered.{Numbered}
use Rattle.c_tree.specs.declared.name.FieldNumber.{FieldNumber}
use Rattle.c_tree.specs.declared.name.FixedParameter.{FixedParameter}
use Rattle.c_tree.specs.declared.name.FixedParameter.TheVariants as fixed
use Rattle.c_tree.specs.declared.name.Place.{Place}
use Rattle.c_tree.specs.declared.name.Place.TheVariants as place
use Rattle.c_tree.specs.declared.name.Variable.{Variable}
use Rattle.c_tree.specs.declared.name.Variable.TheVariants as variable
use Rattle.c_tree.specs.declared.name.TableName.{TableName}
use Rattle.c_tree.specs.declared.name.TableName.TheVariants as table
use Rattle.c_tree.specs.declared.name.FunctionName.{FunctionName}
use Rattle.c_tree.specs.declared.name.FunctionName.TheVariants as function
use Rattle.c_value.specs.declared.value.ItemPlace.{ItemPlace}

abbrev pub same_number : Numbered → Numbered → Bool
same_number a b = nat_eq a.module b.module && nat_eq a.index b.index

abbrev pub same_field : FieldNumber → FieldNumber → Bool
same_field a b = same_number a.class b.class && nat_eq a.field b.field

abbrev pub same_item : ItemPlace → ItemPlace → Bool
same_item a b = nat_eq a.file b.file && nat_eq a.item b.item

abbrev pub same_fixed : FixedParameter → FixedParameter → Bool
same_fixed fixed.SelfObject fixed.SelfObject = true
same_fixed fixed.Arguments fixed.Arguments = true
same_fixed fixed.ArgumentCount fixed.ArgumentCount = true
same_fixed fixed.Type fixed.Type = true
same_fixed fixed.Keywords fixed.Keywords = true
same_fixed fixed.Key fixed.Key = true
same_fixed fixed.Value fixed.Value = true
same_fixed fixed.Closure fixed.Closure = true
same_fixed _ _ = false

abbrev pub same_place : Place → Place → Bool
same_place place.Module place.Module = true
same_place place.Dictionary place.Dictionary = true
same_place place.Builtins place.Builtins = true
same_place place.Ready place.Ready = true
same_place (place.Constant i) (place.Constant j) = nat_eq i j
same_place (place.Global i) (place.Global j) = nat_eq i j
same_place _ _ = false

abbrev pub same_variable : Variable → Variable → Bool
same_variable (variable.Parameter i) (variable.Parameter j) = nat_eq i j
same_variable (variable.Local i) (variable.Local j) = nat_eq i j
same_variable (variable.Temporary i) (variable.Temporary j) = nat_eq i j
same_variable variable.Returned variable.Returned = true
same_variable (variable.Fixed p) (variable.Fixed q) = same_fixed p q
same_variable (variable.Place p) (variable.Place q) = same_place p q
same_variable _ _ = false

abbrev pub same_table : TableName → TableName → Bool
same_table table.OfFile table.OfFile = true
same_table (table.OfClass a) (table.OfClass b) = same_number a b
same_table _ _ = false

abbrev pub same_function : FunctionName → FunctionName → Bool
same_function (function.Plain a) (function.Plain b) = same_number a b
same_function (function.Wrapper a) (function.Wrapper b) = same_number a b
same_function (function.Overridable a) (function.Overridable b) = same_number a b
same_function (function.New a) (function.New b) = same_number a b
same_function (function.Init a) (function.Init b) = same_number a b
same_function (function.Dealloc a) (function.Dealloc b) = same_number a b
same_function (function.Len a) (function.Len b) = same_number a b
same_function (function.Item a) (function.Item b) = same_number a b
same_function (function.Has a) (function.Has b) = same_number a b
same_function (function.Getter a) (function.Getter b) = same_field a b
same_function (function.Setter a) (function.Setter b) = same_field a b
same_function function.Body function.Body = true
same_function (function.Initializer n) (function.Initializer k) = bytes_eq n k
same_function _ _ = false
