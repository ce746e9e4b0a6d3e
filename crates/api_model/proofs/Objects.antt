-- Two objects are one exactly where the test says so.
use Rattle.std.specs.Prelude.{ℕ, true, ◌≡◌, Decides, nat_eq}
use Rattle.std.specs.Str.{bytes_eq}
use Rattle.std.proofs.Common.{List, if◌then◌else◌, refl, sym, ap, ◌∙◌, subst}
use Rattle.std.proofs.lemmas.Bool.{false≢true, and_from, and_parts}
use Rattle.std.proofs.lemmas.Bool.Decides.{Decides-eqb}
use Rattle.std.proofs.lemmas.Slice.Eq.{bytes_eq-Decides}
use Rattle.c_token.specs.declared.exception.Exception.{Exception}
use Rattle.c_token.specs.declared.exception.Exception.TheVariants as exception
use Rattle.api_model.specs.declared.object.ClassName.{ClassName}
use Rattle.api_model.specs.declared.object.Obj.{Obj}
use Rattle.api_model.specs.declared.object.Obj.TheVariants as obj
use Rattle.api_model.specs.Objects.{exception_number, same_class, same_obj}

-- the exception type of a number
abbrev exception_at : ℕ → Exception
exception_at n =
    if nat_eq n 0 then exception.BaseException
    else (if nat_eq n 1 then exception.TypeError
    else (if nat_eq n 2 then exception.NotImplementedError
    else (if nat_eq n 3 then exception.OverflowError
    else (if nat_eq n 4 then exception.ZeroDivisionError
    else (if nat_eq n 5 then exception.ValueError
    else (if nat_eq n 6 then exception.IndexError
    else (if nat_eq n 7 then exception.AttributeError
    else (if nat_eq n 8 then exception.SystemError
    else (if nat_eq n 9 then exception.NameError
    else exception.UnboundLocalError)))))))))

at_number : (e : Exception) → exception_at (exception_number e) ≡ e
at_number exception.BaseException = refl
at_number exception.TypeError = refl
at_number exception.NotImplementedError = refl
at_number exception.OverflowError = refl
at_number exception.ZeroDivisionError = refl
at_number exception.ValueError = refl
at_number exception.IndexError = refl
at_number exception.AttributeError = refl
at_number exception.SystemError = refl
at_number exception.NameError = refl
at_number exception.UnboundLocalError = refl

exceptions_are_one : (a b : Exception) → exception_number a ≡ exception_number b → a ≡ b
exceptions_are_one a b h = sym (at_number a) ∙ (ap exception_at h ∙ at_number b)

numbers_are_one : (k j : ℕ) → nat_eq k j ≡ true → k ≡ j
numbers_are_one k j h = (Decides-eqb k j).0 h

bytes_are_one : (a b : List ℕ) → bytes_eq a b ≡ true → a ≡ b
bytes_are_one a b h = (bytes_eq-Decides a b).0 h

named : (a b : ClassName) → a.module ≡ b.module → a.class ≡ b.class → a ≡ b
named a b h k =
    ap (λ m. record { «module» = m; class = a.class }) h ∙ ap (λ c. record { «module» = b.module; class = c }) k

classes_are_one : (a b : ClassName) → same_class a b ≡ true → a ≡ b
classes_are_one a b h =
    let both = and_parts (bytes_eq a.module b.module) (bytes_eq a.class b.class) h in
    named a b (bytes_are_one a.module b.module both.0) (bytes_are_one a.class b.class both.1)

are_one : (x y : Obj) → same_obj x y ≡ true → x ≡ y
are_one (obj.Foreign k) (obj.Foreign j) h = ap obj.Foreign (numbers_are_one k j h)
are_one (obj.Inst k) (obj.Inst j) h = ap obj.Inst (numbers_are_one k j h)
are_one (obj.View k) (obj.View j) h = ap obj.View (numbers_are_one k j h)
are_one (obj.Class a) (obj.Class b) h = ap obj.Class (classes_are_one a b h)
are_one (obj.ExceptionType a) (obj.ExceptionType b) h =
    ap obj.ExceptionType (exceptions_are_one a b (numbers_are_one (exception_number a) (exception_number b) h))
are_one obj.NoneNode obj.NoneNode h = refl
are_one obj.TrueNode obj.TrueNode h = refl
are_one obj.FalseNode obj.FalseNode h = refl
are_one x y h = absurd (false≢true h)

same_number : (k : ℕ) → nat_eq k k ≡ true
same_number k = (Decides-eqb k k).1 refl

same_bytes : (a : List ℕ) → bytes_eq a a ≡ true
same_bytes a = (bytes_eq-Decides a a).1 refl

same_itself : (x : Obj) → same_obj x x ≡ true
same_itself (obj.Foreign k) = same_number k
same_itself (obj.Inst k) = same_number k
same_itself (obj.View k) = same_number k
same_itself (obj.Class a) = and_from (bytes_eq a.module a.module) (bytes_eq a.class a.class) (same_bytes a.module) (same_bytes a.class)
same_itself (obj.ExceptionType a) = same_number (exception_number a)
same_itself obj.NoneNode = refl
same_itself obj.TrueNode = refl
same_itself obj.FalseNode = refl

pub same_obj-Decides : (x y : Obj) → Decides (same_obj x y) (x ≡ y)
same_obj-Decides x y = (are_one x y, λ h. subst (λ z. same_obj x z ≡ true) h (same_itself x))
