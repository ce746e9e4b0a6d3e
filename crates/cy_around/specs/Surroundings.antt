-- What is known around an expression, as functions. The project's own.
use Rattle.std.specs.Prelude.{ℕ, List, Option}
use Rattle.cy_tree.specs.declared.set.NameKind.{NameKind}
use Rattle.cy_tree.specs.declared.ty.ClassId.{ClassId}
use Rattle.cy_tree.specs.declared.ty.Coercion.{Coercion}
use Rattle.cy_tree.specs.declared.ty.FnId.{FnId}
use Rattle.cy_tree.specs.declared.ty.Ty.{Ty}
use Rattle.cy_around.specs.declared.callable.Callable.{Callable}
use Rattle.cy_around.specs.declared.member.MemberSaid.{MemberSaid}

pub record Surroundings : Type 0 where
  -- what a name means in the scope of the expression
  pub kind : List ℕ → NameKind
  -- the types of the locals and of the C variables of the module, by their numbers
  pub local : ℕ → Ty
  pub variable : ℕ → Ty
  -- the functions and methods that C can call
  pub function : FnId → Option Callable
  -- the classes and C functions that a module declares to others
  pub exported : ℕ → List ℕ → Option NameKind
  -- the C fields, and the methods that C can call, of a class and its bases, the nearest first
  pub member : ClassId → List ℕ → Option MemberSaid
  -- the table of coercions
  pub coercion : Ty → Ty → Option Coercion
