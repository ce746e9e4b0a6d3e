-- The parameters of a thin function, in the sources and in the C.
use Rattle.std.proofs.Common.{◌≡◌, ℕ, zero, suc, ◌+◌, ◌<◌, Bool, true, false, not, List, [], ◌∷◌, length, map, get_or, Some, None, Contains, cond, refl, sym, ap, ◌∙◌, arith}
use Rattle.std.specs.Prelude.{nat_eq, nat_lt, unwrap_or, if◌then◌else◌}
use Rattle.std.specs.List.{position_or_len, range_with_len}
use Rattle.std.specs.Str.{bytes_eq}
use Rattle.std.proofs.lemmas.Bool.{eqb-true, lt-ltb, false≢true}
use Rattle.std.proofs.lemmas.Slice.Eq.{bytes_eq-Decides}
use Rattle.thin_state.specs.declared.space.Obj.{Obj}
use Rattle.thin_state.specs.declared.tree.Variable.TheVariants as variable
use Rattle.thin_state.specs.declared.tree.CValue.TheVariants as operand
use Rattle.thin_state.specs.declared.tree.CFile.{CFile}
use Rattle.thin_state.specs.declared.state.Kind.{Kind}
use Rattle.thin_state.specs.declared.state.Kind.TheVariants as kind
use Rattle.thin_state.specs.declared.state.Value.TheVariants as value
use Rattle.thin_state.specs.declared.state.Reading.{Reading}
use Rattle.thin_state.specs.declared.state.Cell.{Cell}
use Rattle.thin_state.specs.Objects.{same_obj}
use Rattle.thin_state.specs.State.{lookup, has, Frame, CState}
use Rattle.thin_state.specs.Reads.{some_reading, cell_reading, object_at, read, read_each, one_more_reading, any_module_variable, loans_after, parameter_kinds_of, plain_cells}
use Rattle.cy_mean.specs.Meaning.{local_of, bind_all}
use Rattle.cy_mean.proofs.Same.{nat_same, obj_same, or_left, or_right}
use Rattle.cy_mean.proofs.Statements.{object_readings, object_values, object_kinds}
use Rattle.thin_code.specs.ThinC.{numbers_below, object_parameter, number_of}

numbers-differ : (i j : ℕ) → i < j → nat_eq i j ≡ false
numbers-differ i j lt = by_test (nat_eq i j) refl
  where
    by_test : (q : Bool) → nat_eq i j ≡ q → q ≡ false
    by_test false e = refl
    by_test true e = let s : i ≡ j = eqb-true i j e in absurd (omega (arith, lt, s))

-- the cells of object parameters, numbered from k on
abbrev pub object_cells : ℕ → List Obj → List Cell
object_cells k [] = []
object_cells k (o ∷ os) =
    record { variable = variable.Parameter k; kind = kind.PyObject; value = value.Object o } ∷ object_cells (k + 1) os

-- the cells that a thin function's frame has for its parameters
abbrev pub cells_of : ℕ → List Obj → List Cell
cells_of count args =
    plain_cells (map object_parameter (numbers_below count)) (object_values args)

abbrev cells_from : ℕ → ℕ → List Obj → List Cell
cells_from k n os =
    plain_cells (map object_parameter (range_with_len k n)) (object_values os)

cells-from : (k : ℕ) (os : List Obj) → cells_from k (length os) os ≡ object_cells k os
cells-from k [] = refl
cells-from k (o ∷ os) =
    ap (λ (cells : List Cell). record { variable = variable.Parameter k; kind = kind.PyObject; value = value.Object o } ∷ cells) (cells-from (k + 1) os)

pub cells-are : (count : ℕ) (args : List Obj) → length args ≡ count → cells_of count args ≡ object_cells 0 args
cells-are count args e = ap (λ n. cells_from 0 n args) (sym e) ∙ cells-from 0 args

kinds-from : (k : ℕ) (os : List Obj) → parameter_kinds_of (map object_parameter (range_with_len k (length os))) ≡ object_kinds os
kinds-from k [] = refl
kinds-from k (o ∷ os) = ap (λ (ks : List Kind). kind.PyObject ∷ ks) (kinds-from (k + 1) os)

pub kinds-are : (count : ℕ) (args : List Obj) → length args ≡ count → parameter_kinds_of (map object_parameter (numbers_below count)) ≡ object_kinds args
kinds-are count args e =
    ap (λ n. parameter_kinds_of (map object_parameter (range_with_len 0 n))) (sym e) ∙ kinds-from 0 args

-- the place of a name among the parameters
abbrev place_of : List (List ℕ) → List ℕ → ℕ
place_of ps x = position_or_len (λ p. bytes_eq p x) ps

record Place (k : ℕ) (ps : List (List ℕ)) (args : List Obj) (x : List ℕ) : Type 0 where
  object : Obj
  below : place_of ps x < length ps
  found : local_of (bind_all ps args) x ≡ Some object
  stands : cell_reading (lookup (object_cells k args) (variable.Parameter (k + place_of ps x))) ≡ some_reading kind.PyObject (value.Object object)
  lent : has args object ≡ true

-- the first of the cells, and one of the others
first_stands : (k i : ℕ) (o : Obj) (more : List Cell) → k ≡ i → cell_reading (lookup (record { variable = variable.Parameter k; kind = kind.PyObject; value = value.Object o } ∷ more) (variable.Parameter i)) ≡ some_reading kind.PyObject (value.Object o)
first_stands k i o more e =
    let test : nat_eq k i ≡ true = ap (λ n. nat_eq k n) (sym e) ∙ nat_same k in
    ap (λ q. cell_reading (if q then Some (record { variable = variable.Parameter k; kind = kind.PyObject; value = value.Object o }) else lookup more (variable.Parameter i))) test

later_stands : (k i : ℕ) (o v : Obj) (more : List Cell) → k < i → cell_reading (lookup more (variable.Parameter i)) ≡ some_reading kind.PyObject (value.Object v) → cell_reading (lookup (record { variable = variable.Parameter k; kind = kind.PyObject; value = value.Object o } ∷ more) (variable.Parameter i)) ≡ some_reading kind.PyObject (value.Object v)
later_stands k i o v more lt h =
    ap (λ q. cell_reading (if q then Some (record { variable = variable.Parameter k; kind = kind.PyObject; value = value.Object o }) else lookup more (variable.Parameter i))) (numbers-differ k i lt)
    ∙ h

place_at : (k : ℕ) (ps : List (List ℕ)) (args : List Obj) (x : List ℕ) → length args ≡ length ps → (j : ℕ) → j < length ps → get_or ps j x ≡ x → Place k ps args x
place_at k [] args x el j lt e = absurd (omega (arith, lt))
place_at k (y ∷ ys) [] x el j lt e = absurd (omega (arith, el))
place_at k (y ∷ ys) (o ∷ os) x el j lt e =
    by_test (bytes_eq y x) refl (λ i lt2 e2. place_at (k + 1) ys os x (omega (arith, el)) i lt2 e2)
  where
    rest : ℕ
    rest = place_of ys x

    tail : (i : ℕ) → i < length (y ∷ ys) → get_or (y ∷ ys) i x ≡ x → bytes_eq y x ≡ false → ((i : ℕ) → i < length ys → get_or ys i x ≡ x → Place (k + 1) ys os x) → Place (k + 1) ys os x
    tail zero lt2 e2 t go = absurd (false≢true (sym t ∙ (bytes_eq-Decides y x).1 e2))
    tail (suc i) lt2 e2 t go = go i (omega (arith, lt2)) e2

    by_test : (q : Bool) → bytes_eq y x ≡ q → ((i : ℕ) → i < length ys → get_or ys i x ≡ x → Place (k + 1) ys os x) → Place k (y ∷ ys) (o ∷ os) x
    by_test true t go =
        let at : place_of (y ∷ ys) x ≡ 0 = ap (λ q. cond (not q) (1 + rest) 0) t in
        record {
          object = o;
          below = omega (arith, at);
          found = ap (λ q. if q then Some o else local_of (bind_all ys os) x) t;
          stands = first_stands k (k + place_of (y ∷ ys) x) o (object_cells (k + 1) os) (omega (arith, at));
          lent = or_left (same_obj o o) (has os o) (obj_same o);
        }
    by_test false t go =
        let r = tail j lt e t go in
        let at : place_of (y ∷ ys) x ≡ 1 + rest = ap (λ q. cond (not q) (1 + rest) 0) t in
        let shape : k + place_of (y ∷ ys) x ≡ (k + 1) + rest = omega (arith, at) in
        record {
          object = r.object;
          below = omega (arith, at, r.below);
          found = ap (λ q. if q then Some o else local_of (bind_all ys os) x) t ∙ r.found;
          stands = later_stands k (k + place_of (y ∷ ys) x) o r.object (object_cells (k + 1) os) (omega (arith, at)) (ap (λ n. cell_reading (lookup (object_cells (k + 1) os) (variable.Parameter n))) shape ∙ r.stands);
          lent = or_right (same_obj o r.object) (has os r.object) r.lent;
        }

-- a parameter that a name names: its argument, in the sources and in the C
pub record Argument (ps : List (List ℕ)) (args : List Obj) (x : List ℕ) : Type 0 where
  pub object : Obj
  pub found : local_of (bind_all ps args) x ≡ Some object
  pub reads : cell_reading (lookup (cells_of (length ps) args) (variable.Parameter (number_of x ps))) ≡ some_reading kind.PyObject (value.Object object)
  pub lent : has args object ≡ true

pub argument_of : (ps : List (List ℕ)) (args : List Obj) (x : List ℕ) → length args ≡ length ps → Contains ps x → Argument ps args x
argument_of ps args x el among =
    let p = place_at 0 ps args x el among.0 among.1 among.2 in
    let test : nat_lt (place_of ps x) (length ps) ≡ true = lt-ltb (place_of ps x) (length ps) p.below in
    let number : number_of x ps ≡ place_of ps x = ap (λ q. unwrap_or (cond q (Some (place_of ps x)) None) 0) test in
    let shape : number_of x ps ≡ 0 + place_of ps x = omega (arith, number) in
    record {
      object = p.object;
      found = p.found;
      reads =
          ap (λ (cells : List Cell). cell_reading (lookup cells (variable.Parameter (number_of x ps)))) (cells-are (length ps) args el)
          ∙ ap (λ n. cell_reading (lookup (object_cells 0 args) (variable.Parameter n))) shape
          ∙ p.stands;
      lent = p.lent;
    }

-- the arguments that the wrapper passes on, one by one
arguments_from : (files : List CFile) (c : CState) (f : Frame) (all : List Obj) (k : ℕ) (os : List Obj) → ((j : ℕ) → read files c f (operand.Argument j) ≡ object_at all j) → ((j : ℕ) → object_at all (k + j) ≡ object_at os j) → read_each files c f (map operand.Argument (range_with_len k (length os))) ≡ Some (object_readings os)
arguments_from files c f all k [] at from = refl
arguments_from files c f all k (o ∷ os) at from =
    let here : k ≡ k + 0 = omega arith in
    let head : read files c f (operand.Argument k) ≡ some_reading kind.PyObject (value.Object o) = at k ∙ ap (object_at all) here ∙ from 0 in
    let next : (j : ℕ) → object_at all ((k + 1) + j) ≡ object_at os j = λ j. (let s : (k + 1) + j ≡ k + suc j = omega arith in ap (object_at all) s ∙ from (suc j)) in
    let rest = arguments_from files c f all (k + 1) os at next in
    ap (λ v. one_more_reading v (read_each files c f (map operand.Argument (range_with_len (k + 1) (length os))))) head
    ∙ ap (one_more_reading (some_reading kind.PyObject (value.Object o))) rest

pub arguments_read : (files : List CFile) (c : CState) (f : Frame) (args : List Obj) (count : ℕ) → length args ≡ count → ((j : ℕ) → read files c f (operand.Argument j) ≡ object_at args j) → read_each files c f (map operand.Argument (numbers_below count)) ≡ Some (object_readings args)
arguments_read files c f args count e at =
    ap (λ n. read_each files c f (map operand.Argument (range_with_len 0 n))) (sym e)
    ∙ arguments_from files c f args 0 args at (λ j. let z : 0 + j ≡ j = omega arith in ap (object_at args) z)

no_variable_from : (k n : ℕ) (vs : List Reading) → any_module_variable (map operand.Argument (range_with_len k n)) vs ≡ false
no_variable_from k zero vs = refl
no_variable_from k (suc n) [] = refl
no_variable_from k (suc n) (v ∷ vs) = no_variable_from (k + 1) n vs

-- none of them is a module variable, and none makes a loan
pub no_variable : (count : ℕ) (vs : List Reading) → any_module_variable (map operand.Argument (numbers_below count)) vs ≡ false
no_variable count vs = no_variable_from 0 count vs

no_loan_from : (k n : ℕ) (vs : List Reading) (loans : List Obj) → loans_after (map operand.Argument (range_with_len k n)) vs loans ≡ loans
no_loan_from k zero vs loans = refl
no_loan_from k (suc n) [] loans = refl
no_loan_from k (suc n) (v ∷ vs) loans = no_loan_from (k + 1) n vs loans

pub no_loan : (count : ℕ) (vs : List Reading) (loans : List Obj) → loans_after (map operand.Argument (numbers_below count)) vs loans ≡ loans
no_loan count vs loans = no_loan_from 0 count vs loans
