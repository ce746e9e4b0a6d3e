-- What is said of objects alone: which are one, and which are never released. The object space is the project's own.
use Rattle.std.specs.Prelude.{ℕ, Bool, true, false, ◌&&◌, nat_eq}
use Rattle.std.specs.Str.{bytes_eq}
use Rattle.c_token.specs.declared.exception.Exception.{Exception}
use Rattle.c_token.specs.declared.exception.Exception.TheVariants as exception
use Rattle.api_model.specs.declared.object.ClassName.{ClassName}
use Rattle.api_model.specs.declared.object.Obj.{Obj}
use Rattle.api_model.specs.declared.object.Obj.TheVariants as obj

-- exception types by number
abbrev pub exception_number : Exception → ℕ
exception_number exception.BaseException = 0
exception_number exception.TypeError = 1
exception_number exception.NotImplementedError = 2
exception_number exception.OverflowError = 3
exception_number exception.ZeroDivisionError = 4
exception_number exception.ValueError = 5
exception_number exception.IndexError = 6
exception_number exception.AttributeError = 7
exception_number exception.SystemError = 8
exception_number exception.NameError = 9
exception_number exception.UnboundLocalError = 10

-- whether two dotted names are one
abbrev pub same_class : ClassName → ClassName → Bool
same_class a b = bytes_eq a.module b.module && bytes_eq a.class b.class

-- whether two objects are one
abbrev pub same_obj : Obj → Obj → Bool
same_obj (obj.Foreign k) (obj.Foreign j) = nat_eq k j
same_obj (obj.Inst k) (obj.Inst j) = nat_eq k j
same_obj (obj.View k) (obj.View j) = nat_eq k j
same_obj (obj.Class a) (obj.Class b) = same_class a b
same_obj (obj.ExceptionType a) (obj.ExceptionType b) = nat_eq (exception_number a) (exception_number b)
same_obj obj.NoneNode obj.NoneNode = true
same_obj obj.TrueNode obj.TrueNode = true
same_obj obj.FalseNode obj.FalseNode = true
same_obj _ _ = false

-- objects that are never released: None, True, False, exception types and class objects
abbrev pub is_permanent : Obj → Bool
is_permanent obj.NoneNode = true
is_permanent obj.TrueNode = true
is_permanent obj.FalseNode = true
is_permanent (obj.ExceptionType e) = true
is_permanent (obj.Class c) = true
is_permanent _ = false
