-- What reads headers and the names behind a declaration is exact.
use Rattle.std.proofs.Common.{◌≡◌, ℕ, suc, true, false, List, [], ◌++◌, refl, sym, ◌∙◌, ap, append-nil}
use Rattle.std.specs.Prelude.{Option, Some, None}
use Rattle.pyx_lex.specs.declared.token.Token.{Token}
use Rattle.token_class.specs.declared.class.TokenClass.TheVariants as c
use Rattle.token_class.specs.Sets.{Classes, of}
use Rattle.token_class.proofs.Laws.{ExactFor, optional, token, seq, place, loop, list_upto, choose, sets, after, after_maybe, either_of, maybe}
use Rattle.cy_tree.specs.declared.decl.Cimport.{Cimport}
use Rattle.cy_tree.specs.declared.decl.ClauseNode.{ClauseNode}
use Rattle.cy_tree.specs.declared.decl.Def.{Def}
use Rattle.cy_tree.specs.declared.decl.Header.{Header}
use Rattle.cy_tree.specs.declared.decl.Param.{Param}
use Rattle.cy_tree.specs.declared.stmt.Suite.{Suite}
use Rattle.forms.specs.Forms.{Mark, Form, none, either, one, both, nothing, this, that, or}
use Rattle.forms.specs.Lists.{Row, push, first, second, pair, itself}
use Rattle.expr_grammar.specs.Words.{is_name, is_plain_name, is_int, is_none, is_not, is_comma, is_open_parenthesis, is_close_parenthesis, begins_type, more_expr}
use Rattle.expr_grammar.specs.Nodes.{at, ident, int_of, cons, some, yes}
use Rattle.expr_grammar.specs.Grammar.{opt, pair_of_three}
use Rattle.expr_grammar.proofs.FlatLaws.{question_flag}
use Rattle.decl_grammar.specs.Words.{is_from, is_cimport, is_cpdef, is_def, is_except, is_nogil, is_noexcept, is_access, is_assign, is_star, is_minus, is_newline}
use Rattle.decl_grammar.specs.Nodes.{Typed, not_none, param_node, param_list, star_node, Amount, signed, value_node, noexcept_node, Marks, nogil_first, header_node, def_node, Open, access_word, module_cimport, from_cimport}
use Rattle.decl_grammar.specs.Grammar.{apply, three, plain_cimport, names_cimport, cimport, amount, clause, marks, never_none, param, params, parameters, header, def, cpdef, open_names}
use Rattle.decl_grammar.specs.Factored.{flipped, Same, clause_factored, clause_then, nogil_then, marks_factored}
use Rattle.decl_grammar.specs.Reading.{read_plain_cimport, read_names_cimport, read_cimport, read_amount, read_clause, begins_clause, read_marks, read_never_none, read_param, read_params, read_parameters, read_header, read_def, read_cpdef, read_open, goes_on}
use Rattle.decl_grammar.proofs.Same.{same_exact, same_self, same_or, same_fork}
use Rattle.decl_grammar.proofs.NameLaws.{type_at_exact, typed_name_exact}
use Rattle.decl_grammar.proofs.StmtLaws.{mapped_exact, next_name_exact, item_exact, items_exact, value_exact, body_at_exact}

-- ---- cimports

pub plain_cimport_exact : ExactFor Cimport plain_cimport read_plain_cimport false is_cimport none
unfolding plain_cimport read_plain_cimport
plain_cimport_exact = after module_cimport (token is_cimport itself c.Cimport refl) (after first item_exact (token is_newline itself c.Newline refl) refl) refl

names_cimport_exact : ExactFor Cimport names_cimport read_names_cimport false is_from none
unfolding names_cimport read_names_cimport
names_cimport_exact =
    let tail = after second (token is_cimport itself c.Cimport refl) (after first items_exact (token is_newline itself c.Newline refl) refl) refl in
    after from_cimport (token is_from itself c.From refl) (after pair (token is_name ident c.Name refl) tail refl) refl

pub cimport_exact : ExactFor Cimport cimport read_cimport false (either is_cimport is_from) none
unfolding cimport read_cimport
cimport_exact = sets (either is_cimport is_from) none refl refl (either_of plain_cimport_exact names_cimport_exact refl)

-- ---- exception clauses

amount_exact : ExactFor Amount amount read_amount false (either is_minus is_int) none
unfolding amount read_amount
amount_exact = place signed (sets (either is_minus is_int) none refl refl (seq pair (maybe false (token is_minus yes c.Minus refl)) (token is_int int_of c.Int refl) refl))

clause_factored_exact : ExactFor ClauseNode clause_factored read_clause false begins_clause none
unfolding clause_factored read_clause
clause_factored_exact =
    let given = seq pair question_flag amount_exact refl in
    let behind = either_of (mapped_exact (flipped star_node) (token is_star itself c.Star refl)) (mapped_exact (flipped value_node) given) refl in
    sets begins_clause none refl refl (either_of (after apply (token is_except itself c.Except refl) behind refl) (token is_noexcept noexcept_node c.Noexcept refl) refl)

pub same_clause : Same ClauseNode clause_factored clause
unfolding clause_factored clause
same_clause = same_or (same_fork star_node value_node _ _ _) (same_self _)

clause_exact : ExactFor ClauseNode clause read_clause false begins_clause none
clause_exact = same_exact same_clause clause_factored_exact

-- ---- what stands behind parameters

abbrev begins_marks : Classes
begins_marks = either begins_clause is_nogil

marks_factored_exact : ExactFor Marks marks_factored read_marks true begins_marks begins_marks
unfolding marks_factored read_marks
marks_factored_exact =
    let clause_first = after_maybe clause_then clause_exact (optional (token is_nogil at c.Nogil refl)) refl in
    let nogil_before = after_maybe nogil_then (token is_nogil at c.Nogil refl) (optional clause_exact) refl in
    sets begins_marks begins_marks refl refl (choose clause_first (maybe (None, None) nogil_before) refl)

module _ {A : Type 0} (L : Form Token A) where
  there_is : (us : List (Mark Token)) (a : A) → L us a → opt L us (Some a)
  there_is us a l = this (record { a = a; b = tt; front = us; back = []; cut = sym (append-nil us); left = l; right = (refl, refl); made = refl })

  found : (us : List (Mark Token)) (o : Option A) → both some L (nothing tt) us o → (a : A) × L us a × (o ≡ Some a)
  found us o s = (s.a, let P : List (Mark Token) → Type 0 = λ us. L us s.a in rw (s.cut ∙ ap (λ w. s.front ++ w) s.right.0 ∙ append-nil s.front) s.left, s.made)

marks_there : (ts : List (Mark Token)) (v : Marks) → marks_factored ts v → marks ts v
unfolding marks_factored marks
marks_there ts v (this s) = this (record { a = Some s.a; b = s.b; front = s.front; back = s.back; cut = s.cut; left = there_is clause s.front s.a s.left; right = s.right; made = s.made })
marks_there ts v (that (that z)) = this (record { a = None; b = None; front = []; back = ts; cut = refl; left = that (refl, refl); right = that (z.0, refl); made = z.1 })
marks_there ts v (that (this s)) = go s.right
  where
    go : or (both some clause (nothing tt)) (nothing None) s.back s.b → or (both pair (opt clause) (opt (one (of is_nogil) at))) (both nogil_first (one (of is_nogil) at) clause) ts v
    go (this q) = let u = found clause s.back s.b q in that (record { a = s.a; b = u.0; front = s.front; back = s.back; cut = s.cut; left = s.left; right = u.1; made = s.made ∙ ap (nogil_then s.a) u.2 })
    go (that z) =
        let e : ts ≡ s.front = s.cut ∙ ap (λ w. s.front ++ w) z.0 ∙ append-nil s.front in
        this (record { a = None; b = Some s.a; front = []; back = s.front; cut = e; left = that (refl, refl); right = there_is (one (of is_nogil) at) s.front s.a s.left; made = s.made ∙ ap (nogil_then s.a) z.1 })

marks_back : (ts : List (Mark Token)) (v : Marks) → marks ts v → marks_factored ts v
unfolding marks_factored marks
marks_back ts v (that s) = that (this (record { a = s.a; b = Some s.b; front = s.front; back = s.back; cut = s.cut; left = s.left; right = there_is clause s.back s.b s.right; made = s.made }))
marks_back ts v (this s) = go s.left s.right
  where
    go : or (both some clause (nothing tt)) (nothing None) s.front s.a → or (both some (one (of is_nogil) at) (nothing tt)) (nothing None) s.back s.b
        → or (both clause_then clause (opt (one (of is_nogil) at))) (or (both nogil_then (one (of is_nogil) at) (opt clause)) (nothing (None, None))) ts v
    go (this q) w = let u = found clause s.front s.a q in this (record { a = u.0; b = s.b; front = s.front; back = s.back; cut = s.cut; left = u.1; right = s.right; made = s.made ∙ ap (λ z. pair z s.b) u.2 })
    go (that z) (this q) = let u = found (one (of is_nogil) at) s.back s.b q in
        that (this (record { a = u.0; b = None; front = s.back; back = []; cut = s.cut ∙ ap (λ w. w ++ s.back) z.0 ∙ sym (append-nil s.back); left = u.1; right = that (refl, refl); made = s.made ∙ ap (λ w. pair w s.b) z.1 ∙ ap (pair None) u.2 }))
    go (that z) (that w) = that (that (s.cut ∙ ap (λ q. q ++ s.back) z.0 ∙ w.0, s.made ∙ ap (λ q. pair q s.b) z.1 ∙ ap (pair None) w.1))

pub same_marks : Same Marks marks_factored marks
same_marks = record { there = marks_there; back = marks_back }

marks_exact : ExactFor Marks marks read_marks true begins_marks begins_marks
marks_exact = same_exact same_marks marks_factored_exact

-- ---- parameters

module _ (m : ℕ) where
  never_exact : ExactFor ℕ (never_none m) (read_never_none m) false is_not none
  unfolding never_none read_never_none
  never_exact = after not_none (token is_not itself c.Not refl) (token is_none itself c.None refl) refl

  abbrev more_param : Classes
  more_param = either goes_on (either is_assign more_expr)

  param_exact : ExactFor Param (param m) (read_param m) false begins_type more_param
  unfolding param read_param
  param_exact = sets begins_type more_param refl refl (after_maybe param_node (typed_name_exact m) (seq pair (optional never_exact) (optional (value_exact m)) refl) refl)

  abbrev more_params : Classes
  more_params = either is_comma (either begins_type more_param)

  params_exact : ExactFor (Row Param) (params m) (read_params m) true begins_type more_params
  unfolding params read_params
  params_exact = sets begins_type more_params refl refl (maybe ([], false) (after_maybe push param_exact (list_upto 31 is_comma three c.Comma refl param_exact refl) refl))

  parameters_exact : ExactFor (List Param) (parameters m) (read_parameters m) false is_open_parenthesis none
  unfolding parameters read_parameters
  parameters_exact =
      let inner = sets (either begins_type is_close_parenthesis) none refl refl (seq first params_exact (token is_close_parenthesis itself c.CloseParenthesis refl) refl) in
      after param_list (token is_open_parenthesis itself c.OpenParenthesis refl) inner refl

  pub header_exact : ExactFor Header (header m) (read_header m) false is_open_parenthesis begins_marks
  unfolding header read_header
  header_exact = sets is_open_parenthesis begins_marks refl refl (after_maybe header_node parameters_exact marks_exact refl)

  -- ---- functions and fields

  pub def_exact : ExactFor Def (def m) (read_def m) false is_def none
  unfolding def read_def
  def_exact = after def_node (token is_def itself c.Def refl) (after pair_of_three (token is_name ident c.Name refl) (after pair parameters_exact (body_at_exact (suc m)) refl) refl) refl

  pub cpdef_exact : {A : Type 0} (f : Token → Typed × Header × Suite → A) → ExactFor A (cpdef m f) (read_cpdef m f) false is_cpdef none
  cpdef_exact f = after f (token is_cpdef itself c.Cpdef refl) (after pair_of_three (typed_name_exact (suc m)) (after pair header_exact (body_at_exact (suc m)) refl) refl) refl

  pub open_exact : ExactFor Open (open_names m) (read_open m) false is_access none
  unfolding open_names read_open
  open_exact =
      let others = sets (either is_comma is_newline) none refl refl (seq first (loop next_name_exact refl) (token is_newline itself c.Newline refl) refl) in
      after pair_of_three (token is_access access_word c.Public refl) (after pair (type_at_exact (suc m)) (after cons (token is_plain_name ident c.Name refl) others refl) refl) refl
