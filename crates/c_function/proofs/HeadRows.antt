-- Heads of functions: how they begin, and what stands behind their names.
use Rattle.std.proofs.Common.{◌≡◌, ℕ, true, false, ◌⊎◌, inl, inr, List, [], ◌∷◌, ◌++◌, Option, Some, None, refl, sym, ap, subst, ◌∙◌}
use Rattle.std.specs.Prelude.{◌≢◌, nat_eq, codes, IfOk, Result, Ok, Err}
use Rattle.std.specs.List.{AllByRecursion}
use Rattle.std.specs.Str.{bytes_eq}
use Rattle.std.proofs.lemmas.Bool.{eq-eqb}
use Rattle.c_token.specs.CTokens.{CToken, Word, word, sign, c_tokens, tokens_from}
use Rattle.c_tree.specs.declared.item.CHead.{CHead}
use Rattle.c_tree.specs.declared.item.CHead.TheVariants as head
use Rattle.c_tree.specs.declared.item.Parameter.{Parameter}
use Rattle.c_tree.specs.declared.value.CResult.{CResult}
use Rattle.c_tree.specs.declared.value.CResult.TheVariants as given
use Rattle.c_tree.specs.declared.value.CType.{CType}
use Rattle.c_tree.specs.declared.value.CType.TheVariants as type
use Rattle.c_tree.specs.Forms.{IsHead, IsParameter}
use Rattle.c_tree.specs.Items.{function_token, head_spelling}
use Rattle.c_tree.specs.Values.{result_spelling, type_spelling}
use Rattle.c_input.specs.Reads.{Finds, ReadsEvery}
use Rattle.c_input.specs.Types.{type_tokens}
use Rattle.c_input.proofs.Spelled.{spelled}
use Rattle.c_operand.proofs.Commas.{append_assoc}
use Rattle.c_operand.proofs.Fixed.{void_spelled}
use Rattle.c_operand.proofs.Tokens.{firsts_differ}
use Rattle.c_function.specs.Heads.{behind_name, behind_static, named, plain_function, plain_head_of, Completes, IsInitializer, IsPlainHead, IsPlainName, IsStaticHead}
use Rattle.c_function.specs.Parts.{is_type_word, parameters_spelling}
use Rattle.c_function.specs.declared.heads.PlainName.{PlainName}
use Rattle.c_function.specs.declared.heads.PlainName.TheVariants as plain

-- ---- names

abbrev pub fifth : List ℕ → ℕ
fifth (a ∷ b ∷ c ∷ d ∷ e ∷ more) = e
fifth _ = 0

-- names that differ at their fifth letters
pub names_differ : (v w : List ℕ) (xs ys : List CToken) → nat_eq (fifth v) (fifth w) ≡ false → Word v ∷ xs ≡ Word w ∷ ys → ⊥
names_differ v w xs ys h e =
    let same : v ≡ w = cc in
    let yes : nat_eq (fifth v) (fifth w) ≡ true = subst (λ z. nat_eq (fifth v) (fifth z) ≡ true) same (eq-eqb (fifth v) (fifth v) refl) in
    cc

pub tail_same : (s t : CToken) (xs ys : List CToken) → s ∷ xs ≡ t ∷ ys → xs ≡ ys
tail_same s t xs ys e = cc

pub completes_every : (known x : CHead) (mid rest : List CToken) (r : Option CHead) (new : List CToken) → Completes known mid r new → known ≡ x → mid ≡ behind_name x ++ rest → r ≡ Some x
completes_every known x mid rest (Some found) new h same e = ap (λ z. Some z) (h.0 ∙ same)
completes_every known x mid rest None new h same e = absurd (h rest (e ∙ ap (λ z. behind_name z ++ rest) (sym same)))

-- ---- heads that are fixed

pub static_spelled : (x : CHead) → IsStaticHead x → head_spelling x ≡ word "static" ∷ behind_static x
unfolding c_tokens tokens_from
static_spelled (head.Plain n kind ps) h = absurd h
static_spelled (head.Overridable n kind ps) h = absurd h
static_spelled (head.Wrapper n) h = refl
static_spelled (head.New n) h = refl
static_spelled (head.Init n) h = refl
static_spelled (head.Dealloc n) h = refl
static_spelled (head.Len n) h = refl
static_spelled (head.Item n) h = refl
static_spelled (head.Has n) h = refl
static_spelled (head.Getter f) h = refl
static_spelled (head.Setter f) h = refl
static_spelled head.Body h = refl
static_spelled (head.Initializer name) h = absurd h

pub initializer_spelled : (x : CHead) → IsInitializer x → head_spelling x ≡ word "PyMODINIT_FUNC" ∷ named x
unfolding c_tokens tokens_from
initializer_spelled (head.Plain n kind ps) h = absurd h
initializer_spelled (head.Overridable n kind ps) h = absurd h
initializer_spelled (head.Wrapper n) h = absurd h
initializer_spelled (head.New n) h = absurd h
initializer_spelled (head.Init n) h = absurd h
initializer_spelled (head.Dealloc n) h = absurd h
initializer_spelled (head.Len n) h = absurd h
initializer_spelled (head.Item n) h = absurd h
initializer_spelled (head.Has n) h = absurd h
initializer_spelled (head.Getter f) h = absurd h
initializer_spelled (head.Setter f) h = absurd h
initializer_spelled head.Body h = absurd h
initializer_spelled (head.Initializer name) h = refl

-- ---- sorts of heads

pub head_sorts : (x : CHead) → IsHead x → IsInitializer x ⊎ (IsStaticHead x ⊎ IsPlainHead x)
head_sorts (head.Plain n kind ps) h = inr (inr h)
head_sorts (head.Overridable n kind ps) h = inr (inr h)
head_sorts (head.Wrapper n) h = inr (inl h)
head_sorts (head.New n) h = inr (inl h)
head_sorts (head.Init n) h = inr (inl h)
head_sorts (head.Dealloc n) h = inr (inl h)
head_sorts (head.Len n) h = inr (inl h)
head_sorts (head.Item n) h = inr (inl h)
head_sorts (head.Has n) h = inr (inl h)
head_sorts (head.Getter f) h = inr (inl h)
head_sorts (head.Setter f) h = inr (inl h)
head_sorts head.Body h = inr (inl h)
head_sorts (head.Initializer name) h = inl h

pub initializer_form : (x : CHead) → IsInitializer x → IsHead x
initializer_form (head.Plain n kind ps) h = absurd h
initializer_form (head.Overridable n kind ps) h = absurd h
initializer_form (head.Wrapper n) h = absurd h
initializer_form (head.New n) h = absurd h
initializer_form (head.Init n) h = absurd h
initializer_form (head.Dealloc n) h = absurd h
initializer_form (head.Len n) h = absurd h
initializer_form (head.Item n) h = absurd h
initializer_form (head.Has n) h = absurd h
initializer_form (head.Getter f) h = absurd h
initializer_form (head.Setter f) h = absurd h
initializer_form head.Body h = absurd h
initializer_form (head.Initializer name) h = h

pub static_form : (x : CHead) → IsStaticHead x → IsHead x
static_form (head.Plain n kind ps) h = absurd h
static_form (head.Overridable n kind ps) h = absurd h
static_form (head.Wrapper n) h = h
static_form (head.New n) h = h
static_form (head.Init n) h = h
static_form (head.Dealloc n) h = h
static_form (head.Len n) h = h
static_form (head.Item n) h = h
static_form (head.Has n) h = h
static_form (head.Getter f) h = h
static_form (head.Setter f) h = h
static_form head.Body h = h
static_form (head.Initializer name) h = absurd h

pub plain_form : (x : CHead) → IsPlainHead x → IsHead x
plain_form (head.Plain n kind ps) h = h
plain_form (head.Overridable n kind ps) h = h
plain_form (head.Wrapper n) h = absurd h
plain_form (head.New n) h = absurd h
plain_form (head.Init n) h = absurd h
plain_form (head.Dealloc n) h = absurd h
plain_form (head.Len n) h = absurd h
plain_form (head.Item n) h = absurd h
plain_form (head.Has n) h = absurd h
plain_form (head.Getter f) h = absurd h
plain_form (head.Setter f) h = absurd h
plain_form head.Body h = absurd h
plain_form (head.Initializer name) h = absurd h

-- ---- heads of C functions

pub record IsPlainOf (x : CHead) : Type 0 where
  pub name : PlainName
  pub kind : CResult
  pub parameters : List Parameter
  pub is : plain_head_of name kind parameters ≡ x
  pub form : IsPlainName name
  pub within : AllByRecursion IsParameter parameters
  pub spelled : head_spelling x ≡ result_spelling kind ++ (function_token (plain_function name) ∷ parameters_spelling parameters)

pub plain_of : (x : CHead) → IsPlainHead x → IsPlainOf x
plain_of (head.Plain n kind ps) h = record { name = plain.Plain n; kind = kind; parameters = ps; is = refl; form = h.0; within = h.1; spelled = refl }
plain_of (head.Overridable n kind ps) h = record { name = plain.Overridable n; kind = kind; parameters = ps; is = refl; form = h.0; within = h.1; spelled = refl }
plain_of (head.Wrapper n) h = absurd h
plain_of (head.New n) h = absurd h
plain_of (head.Init n) h = absurd h
plain_of (head.Dealloc n) h = absurd h
plain_of (head.Len n) h = absurd h
plain_of (head.Item n) h = absurd h
plain_of (head.Has n) h = absurd h
plain_of (head.Getter f) h = absurd h
plain_of (head.Setter f) h = absurd h
plain_of head.Body h = absurd h
plain_of (head.Initializer name) h = absurd h

pub plain_spelled : (n : PlainName) (kind : CResult) (ps : List Parameter) → head_spelling (plain_head_of n kind ps) ≡ result_spelling kind ++ (function_token (plain_function n) ∷ parameters_spelling ps)
plain_spelled (plain.Plain n) kind ps = refl
plain_spelled (plain.Overridable n) kind ps = refl

pub plain_in_form : (n : PlainName) (kind : CResult) (ps : List Parameter) → IsPlainName n → AllByRecursion IsParameter ps → IsPlainHead (plain_head_of n kind ps)
plain_in_form (plain.Plain n) kind ps h k = (h, k)
plain_in_form (plain.Overridable n) kind ps h k = (h, k)

-- what a type begins with
record HasTypeWord (tokens : List CToken) : Type 0 where
  letters : List ℕ
  more : List CToken
  is : tokens ≡ Word letters ∷ more
  known : is_type_word letters ≡ true

type_word : (t : CType) → HasTypeWord (type_tokens t)
type_word type.SignedChar = record { letters = codes "signed"; more = word "char" ∷ []; is = refl; known = refl }
type_word type.UnsignedChar = record { letters = codes "unsigned"; more = word "char" ∷ []; is = refl; known = refl }
type_word type.Short = record { letters = codes "short"; more = []; is = refl; known = refl }
type_word type.UnsignedShort = record { letters = codes "unsigned"; more = word "short" ∷ []; is = refl; known = refl }
type_word type.Int = record { letters = codes "int"; more = []; is = refl; known = refl }
type_word type.UnsignedInt = record { letters = codes "unsigned"; more = word "int" ∷ []; is = refl; known = refl }
type_word type.Long = record { letters = codes "long"; more = []; is = refl; known = refl }
type_word type.UnsignedLong = record { letters = codes "unsigned"; more = word "long" ∷ []; is = refl; known = refl }
type_word type.PySsizeT = record { letters = codes "Py_ssize_t"; more = []; is = refl; known = refl }
type_word type.Object = record { letters = codes "PyObject"; more = sign "*" ∷ []; is = refl; known = refl }
type_word type.View = record { letters = codes "cyc_view"; more = []; is = refl; known = refl }
type_word type.ThreadState = record { letters = codes "PyThreadState"; more = sign "*" ∷ []; is = refl; known = refl }
type_word type.LockState = record { letters = codes "PyGILState_STATE"; more = []; is = refl; known = refl }
type_word type.TypeObject = record { letters = codes "PyTypeObject"; more = sign "*" ∷ []; is = refl; known = refl }

wrong : (letters w : List ℕ) (xs ys : List CToken) → is_type_word letters ≡ false → is_type_word w ≡ true → Word letters ∷ xs ≡ Word w ∷ ys → ⊥
wrong letters w xs ys h k e = let same : letters ≡ w = cc in let both : is_type_word letters ≡ is_type_word w = ap is_type_word same in cc

no_type : (t : CType) (letters : List ℕ) (more rest : List CToken) → is_type_word letters ≡ false → Word letters ∷ more ≡ type_spelling t ++ rest → ⊥
no_type t letters more rest h e =
    let f = type_word t in
    wrong letters f.letters more (f.more ++ rest) h f.known (e ∙ (ap (λ (z : List CToken). z ++ rest) (spelled t) ∙ ap (λ (z : List CToken). z ++ rest) f.is))

no_result : (kind : CResult) (letters : List ℕ) (more rest : List CToken) → is_type_word letters ≡ false → bytes_eq letters (codes "void") ≡ false → Word letters ∷ more ≡ result_spelling kind ++ rest → ⊥
no_result given.Void letters more rest h k e = firsts_differ (Word letters) (word "void") more rest k (e ∙ ap (λ (z : List CToken). z ++ rest) void_spelled)
no_result (given.Value t) letters more rest h k e = no_type t letters more rest h e

-- no head of a C function begins with such a word
pub plain_first : (x : CHead) (letters : List ℕ) (more rest : List CToken) → IsPlainHead x → is_type_word letters ≡ false → bytes_eq letters (codes "void") ≡ false → Word letters ∷ more ≡ head_spelling x ++ rest → ⊥
plain_first x letters more rest form h k e =
    let p = plain_of x form in
    let after : List CToken = function_token (plain_function p.name) ∷ parameters_spelling p.parameters in
    no_result p.kind letters more (after ++ rest) h k (e ∙ (ap (λ (z : List CToken). z ++ rest) p.spelled ∙ append_assoc (result_spelling p.kind) after rest))

-- ---- the three sorts, from what stands first

abbrev pub module_word : CToken
module_word = word "PyMODINIT_FUNC"

pub if_ok : {A : Type 0} {E : Type 0} (r : Result A E) (P Q : A → Type 0) → IfOk r P → ((x : A) → P x → Q x) → IfOk r Q
if_ok (Ok x) P Q h f = f x h
if_ok (Err x) P Q h f = tt

pub initializer_finds : (old mid new : List CToken) (r : Option CHead) → old ≡ module_word ∷ mid → Finds IsInitializer named mid r new → Finds IsHead head_spelling old r new
initializer_finds old mid new None e h = tt
initializer_finds old mid new (Some x) e h =
    (initializer_form x h.0, e ∙ (ap (λ (t : List CToken). module_word ∷ t) h.1 ∙ ap (λ (t : List CToken). t ++ new) (sym (initializer_spelled x h.0))))

pub static_finds : (old mid new : List CToken) (r : Option CHead) → old ≡ word "static" ∷ mid → Finds IsStaticHead behind_static mid r new → Finds IsHead head_spelling old r new
static_finds old mid new None e h = tt
static_finds old mid new (Some x) e h =
    (static_form x h.0, e ∙ (ap (λ (t : List CToken). word "static" ∷ t) h.1 ∙ ap (λ (t : List CToken). t ++ new) (sym (static_spelled x h.0))))

pub plain_finds : (old mid new : List CToken) (r : Option CHead) → old ≡ mid → Finds IsPlainHead head_spelling mid r new → Finds IsHead head_spelling old r new
plain_finds old mid new None e h = tt
plain_finds old mid new (Some x) e h = (plain_form x h.0, e ∙ h.1)

pub initializer_every : (old mid : List CToken) (r : Option CHead) → old ≡ module_word ∷ mid → ReadsEvery IsInitializer named mid r → ReadsEvery IsHead head_spelling old r
initializer_every old mid r at every = λ x rest form e. go x rest (head_sorts x form) e
  where
    go : (x : CHead) (rest : List CToken) → IsInitializer x ⊎ (IsStaticHead x ⊎ IsPlainHead x) → old ≡ head_spelling x ++ rest → r ≡ Some x
    go x rest (inl h) e = every x rest h (tail_same module_word module_word mid (named x ++ rest) (sym at ∙ (e ∙ ap (λ (t : List CToken). t ++ rest) (initializer_spelled x h))))
    go x rest (inr (inl h)) e =
        absurd (firsts_differ module_word (word "static") mid (behind_static x ++ rest) refl (sym at ∙ (e ∙ ap (λ (t : List CToken). t ++ rest) (static_spelled x h))))
    go x rest (inr (inr h)) e = absurd (plain_first x (codes "PyMODINIT_FUNC") mid rest h refl refl (sym at ∙ e))

pub static_every : (old mid : List CToken) (r : Option CHead) → old ≡ word "static" ∷ mid → ReadsEvery IsStaticHead behind_static mid r → ReadsEvery IsHead head_spelling old r
static_every old mid r at every = λ x rest form e. go x rest (head_sorts x form) e
  where
    go : (x : CHead) (rest : List CToken) → IsInitializer x ⊎ (IsStaticHead x ⊎ IsPlainHead x) → old ≡ head_spelling x ++ rest → r ≡ Some x
    go x rest (inl h) e =
        absurd (firsts_differ (word "static") module_word mid (named x ++ rest) refl (sym at ∙ (e ∙ ap (λ (t : List CToken). t ++ rest) (initializer_spelled x h))))
    go x rest (inr (inl h)) e = every x rest h (tail_same (word "static") (word "static") mid (behind_static x ++ rest) (sym at ∙ (e ∙ ap (λ (t : List CToken). t ++ rest) (static_spelled x h))))
    go x rest (inr (inr h)) e = absurd (plain_first x (codes "static") mid rest h refl refl (sym at ∙ e))

pub plain_every : (old mid : List CToken) (r : Option CHead) → mid ≡ old → ((t : List CToken) → old ≢ module_word ∷ t) → ((t : List CToken) → old ≢ word "static" ∷ t)
    → ReadsEvery IsPlainHead head_spelling mid r → ReadsEvery IsHead head_spelling old r
plain_every old mid r same a b every = λ x rest form e. go x rest (head_sorts x form) e
  where
    go : (x : CHead) (rest : List CToken) → IsInitializer x ⊎ (IsStaticHead x ⊎ IsPlainHead x) → old ≡ head_spelling x ++ rest → r ≡ Some x
    go x rest (inl h) e = absurd (a (named x ++ rest) (e ∙ ap (λ (t : List CToken). t ++ rest) (initializer_spelled x h)))
    go x rest (inr (inl h)) e = absurd (b (behind_static x ++ rest) (e ∙ ap (λ (t : List CToken). t ++ rest) (static_spelled x h)))
    go x rest (inr (inr h)) e = every x rest h (same ∙ e)

pub one_word : (v w : List ℕ) (xs ys : List CToken) → Word v ∷ xs ≡ Word w ∷ ys → v ≡ w
one_word v w xs ys e = cc
