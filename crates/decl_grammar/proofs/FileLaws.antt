-- What reads classes and files is exact.
use Rattle.std.proofs.Common.{◌≡◌, ℕ, suc, true, false, ◌||◌, ◌⊎◌, inl, inr, List, [], ◌∷◌, refl, sym, ◌∙◌, ap}
use Rattle.pyx_lex.specs.declared.token.Token.{Token}
use Rattle.token_class.specs.declared.class.TokenClass.TheVariants as c
use Rattle.token_class.specs.Sets.{Classes, of}
use Rattle.token_class.proofs.Laws.{ExactFor, optional, token, seq, place, loop, sets, after, after_maybe, either_of}
use Rattle.cy_tree.specs.declared.content.Content.{Content}
use Rattle.cy_tree.specs.declared.decl.Cimport.{Cimport}
use Rattle.cy_tree.specs.declared.decl.ClassBase.{ClassBase}
use Rattle.cy_tree.specs.declared.decl.ImportItem.{ImportItem}
use Rattle.cy_tree.specs.declared.decl.Header.{Header}
use Rattle.cy_tree.specs.declared.decl.Member.{Member}
use Rattle.cy_tree.specs.declared.decl.PxdItem.{PxdItem}
use Rattle.cy_tree.specs.declared.decl.PxdMember.{PxdMember}
use Rattle.cy_tree.specs.declared.decl.Top.{Top}
use Rattle.cy_tree.specs.declared.stmt.Simple.{Simple}
use Rattle.cy_tree.specs.declared.stmt.Stmt.{Stmt}
use Rattle.cy_tree.specs.declared.types.Ident.{Ident}
use Rattle.forms.specs.Forms.{Mark, plain, Form, none, either, one, both, this, that, or}
use Rattle.forms.specs.Readers.{Reader, sees, read_one, read_both}
use Rattle.forms.specs.Lists.{Row, first, second, pair, itself}
use Rattle.forms.proofs.Facts.{cases, or_false}
use Rattle.expr_grammar.specs.Words.{is_name, is_str, is_comma, is_colon, is_open_parenthesis, is_close_parenthesis, begins_type}
use Rattle.expr_grammar.specs.Nodes.{text, ident, cons}
use Rattle.expr_grammar.specs.Grammar.{pair_of_three}
use Rattle.expr_grammar.proofs.FlatLaws.{member_exact}
use Rattle.decl_grammar.specs.Words.{is_pass, is_import, is_from, is_cimport, is_cdef, is_cpdef, is_class, is_c_word, is_assign, is_newline, is_indent, is_dedent, is_end}
use Rattle.decl_grammar.specs.Nodes.{Typed, base_node, Body, alone, Behind, declared_by, pass_member, docstring_node, def_member, open_fields, fields, method, cpdef_method, class_node, function, variables, cpdef_function, cimport_top, def_top, stmt_top, implementation_node, pxd_pass_member, pxd_open_fields, pxd_fields, pxd_method, pxd_cpdef_method, pxd_cimport, pxd_pass, pxd_class, pxd_function, definition_node}
use Rattle.decl_grammar.specs.Grammar.{apply, mapped, unless, some_of, stmt_at, plain_cimport, names_cimport, cimport, base, members, class, def, cpdef, open_member, behind_member, cdef_member, class_member, class_top, behind_top, cdef_top, top, implementation, pxd_open_member, behind_pxd_member, pxd_cdef_member, heading, pxd_class_member, pxd_item, definition}
use Rattle.decl_grammar.specs.Factored.{flipped, fork, Same, from_name, cimport_behind, import_behind, cimport_tail, is_apart, import_tail, member_tail, member_factored, top_tail, top_factored, pxd_member_tail, pxd_member_factored, item_factored}
use Rattle.decl_grammar.specs.Reading.{read_base, read_some_of, read_members, read_class, begins_pxd_member, begins_member, begins_top, begins_item, read_behind_member, read_member_tail, read_class_member, read_behind_top, read_top_tail, read_from_name, read_cimport_tail, read_import_tail, read_top, read_implementation, read_behind_pxd_member, read_pxd_member_tail, read_heading, read_pxd_class_member, read_pxd_item, read_definition}
use Rattle.decl_grammar.proofs.Apart.{apart_at, within_at}
use Rattle.decl_grammar.proofs.Unless.{but_not}
use Rattle.decl_grammar.proofs.Same.{same_exact, same_self, same_or, same_fork, map_of, of_map}
use Rattle.decl_grammar.proofs.NameLaws.{typed_name_exact}
use Rattle.decl_grammar.proofs.StmtLaws.{mapped_exact, next_name_exact, items_exact, values_exact, simples_exact, more_row, more_stmt, stmt_at_exact, body_at_exact}
use Rattle.decl_grammar.proofs.HeaderLaws.{plain_cimport_exact, cimport_exact, header_exact, def_exact, cpdef_exact, open_exact}
use Rattle.decl_grammar.proofs.FromLaws.{cimport_there, cimport_back, import_there, import_back}

-- ---- classes, given the law of their indented members

base_exact : ExactFor ClassBase base read_base false is_open_parenthesis none
unfolding base read_base
base_exact = after second (token is_open_parenthesis itself c.OpenParenthesis refl)
    (after first (after_maybe base_node (token is_name ident c.Name refl) (optional member_exact) refl) (token is_close_parenthesis itself c.CloseParenthesis refl) refl) refl

abbrev inner : {A : Type 0} → Form Token A → Form Token (List A)
inner L = both second (one (of is_indent) itself) (both first (some_of L) (one (of is_dedent) itself))

abbrev read_inner : {A : Type 0} → Classes → Reader Token A → Reader Token (List A)
read_inner b p = read_both second (read_one (of is_indent) itself) (read_both first (read_some_of b p) (read_one (of is_dedent) itself))

module _ {A : Type 0} (L : Form Token A) (p : Reader Token A) (b : Classes) (pass : Token → A) (B : ExactFor (List A) (inner L) (read_inner b p) false is_indent none) where
  members_exact : ExactFor (List A) (members L pass) (read_members b p pass) false (either is_newline is_pass) none
  unfolding members read_members
  members_exact = sets (either is_newline is_pass) none refl refl (either_of (after second (token is_newline itself c.Newline refl) B refl) (after alone (token is_pass pass c.Pass refl) (token is_newline itself c.Newline refl) refl) refl)

  class_exact : ExactFor (Body A) (class L pass) (read_class b p pass) false is_class none
  unfolding class read_class
  class_exact =
      let inside = after second (token is_colon itself c.Colon refl) members_exact refl in
      after second (token is_class itself c.Class refl) (after pair_of_three (token is_name ident c.Name refl) (sets (either is_open_parenthesis is_colon) none refl refl (seq pair (optional base_exact) inside refl)) refl) refl

module _ (m : ℕ) where
  -- ---- members

  behind_member_exact : ExactFor (Behind Member) (behind_member m) (read_behind_member m) false (either is_open_parenthesis (either is_comma is_newline)) none
  unfolding behind_member read_behind_member
  behind_member_exact =
      let names = sets (either is_comma is_newline) none refl refl (seq fields (loop next_name_exact refl) (token is_newline itself c.Newline refl) refl) in
      either_of (after method (header_exact m) (body_at_exact (suc m)) refl) names refl

  member_tail_exact : ExactFor (Typed × Behind Member) (member_tail m) (read_member_tail m) false begins_type none
  unfolding member_tail read_member_tail
  member_tail_exact = after pair (typed_name_exact (suc m)) behind_member_exact refl

  member_factored_exact : ExactFor Member (member_factored m) (read_class_member m) false begins_member none
  unfolding member_factored read_class_member
  member_factored_exact =
      let newline = token is_newline itself c.Newline refl in
      let tails = either_of (mapped_exact (flipped open_fields) (open_exact m)) (mapped_exact (flipped declared_by) member_tail_exact) refl in
      let by_cdef = after apply (token is_cdef itself c.Cdef refl) tails refl in
      let functions = either_of (mapped_exact def_member (def_exact m)) (either_of by_cdef (cpdef_exact m cpdef_method) refl) refl in
      sets begins_member none refl refl (either_of (after first (token is_pass pass_member c.Pass refl) newline refl) (either_of (place docstring_node (after first (token is_str text c.Str refl) newline refl)) functions refl) refl)

  pub same_member : Same Member (member_factored m) (class_member m)
  unfolding member_factored class_member open_member cdef_member member_tail
  same_member = same_or (same_self _) (same_or (same_self _) (same_or (same_self _) (same_or (same_fork open_fields declared_by _ _ _) (same_self _))))

  members_inner : ExactFor (List Member) (inner (class_member m)) (read_inner begins_member (read_class_member m)) false is_indent none
  members_inner =
      let X = same_exact same_member member_factored_exact in
      after second (token is_indent itself c.Indent refl) (after first (sets begins_member begins_member refl refl (after_maybe cons X (loop X refl) refl)) (token is_dedent itself c.Dedent refl) refl) refl

  -- ---- implementation files

  behind_top_exact : ExactFor (Behind Top) (behind_top m) (read_behind_top m) false (either is_open_parenthesis (either is_assign (either is_comma is_newline))) none
  unfolding behind_top read_behind_top
  behind_top_exact =
      let values = sets (either is_assign (either is_comma is_newline)) none refl refl (seq variables (values_exact (suc m)) (token is_newline itself c.Newline refl) refl) in
      either_of (after function (header_exact m) (body_at_exact (suc m)) refl) values refl

  top_tail_exact : ExactFor (Typed × Behind Top) (top_tail m) (read_top_tail m) false begins_type none
  unfolding top_tail read_top_tail
  top_tail_exact = after pair (typed_name_exact (suc m)) behind_top_exact refl

  from_name_exact : ExactFor (Token × Ident) from_name (read_from_name m) false is_from none
  unfolding from_name read_from_name
  from_name_exact = after pair (token is_from itself c.From refl) (token is_name ident c.Name refl) refl

  cimport_tail_exact : ExactFor (List ImportItem) cimport_tail (read_cimport_tail m) false is_cimport none
  unfolding cimport_tail read_cimport_tail
  cimport_tail_exact = after second (token is_cimport itself c.Cimport refl) (after first items_exact (token is_newline itself c.Newline refl) refl) refl

  import_tail_exact : ExactFor ((List ImportItem × Row Simple) × Token) (import_tail m) (read_import_tail m) false is_import none
  unfolding import_tail read_import_tail
  import_tail_exact =
      let all = sets is_name more_row refl refl (after_maybe pair items_exact (simples_exact (suc m)) refl) in
      after second (token is_import itself c.Import refl) (after pair all (token is_newline itself c.Newline refl) refl) refl

  top_factored_exact : ExactFor Top (top_factored m) (read_top m) false begins_top more_stmt
  unfolding top_factored read_top
  top_factored_exact =
      let stmts = mapped_exact stmt_top (but_not is_apart c.If refl refl (stmt_at_exact (suc m))) in
      let functions = either_of (cpdef_exact m cpdef_function) (either_of (mapped_exact def_top (def_exact m)) stmts refl) refl in
      let classes = mapped_exact (flipped class_node) (class_exact (class_member m) (read_class_member m) begins_member pass_member members_inner) in
      let by_cdef = after apply (token is_cdef itself c.Cdef refl) (either_of classes (mapped_exact (flipped declared_by) top_tail_exact) refl) refl in
      let froms = after apply from_name_exact (either_of (mapped_exact (flipped cimport_behind) cimport_tail_exact) (mapped_exact (flipped import_behind) import_tail_exact) refl) refl in
      sets begins_top more_stmt refl refl (either_of (mapped_exact cimport_top plain_cimport_exact) (either_of froms (either_of by_cdef functions refl) refl) refl)

  -- ---- the factored form of a top spells the same

  abbrev rest : Form Token Top
  rest = or (cpdef m cpdef_function) (or (mapped def_top (def m)) (mapped stmt_top (unless (of is_c_word) (stmt_at (suc m)))))

  abbrev written : Form Token Top
  written = or (mapped cimport_top cimport) (or (or (class_top m) (cdef_top m)) rest)

  abbrev class_fork : Same Top (fork class_node declared_by (one (of is_cdef) itself) (class (class_member m) pass_member) (top_tail m)) (or (both class_node (one (of is_cdef) itself) (class (class_member m) pass_member)) (both declared_by (one (of is_cdef) itself) (top_tail m)))
  class_fork = same_fork class_node declared_by (one (of is_cdef) itself) (class (class_member m) pass_member) (top_tail m)

  statement : (ts : List (Mark Token)) (v : Top) (s : Stmt) (b : Classes) → stmt_at (suc m) ts s → sees (of b) (plain ts) ≡ false → v ≡ stmt_top s → mapped stmt_top (unless (of b) (stmt_at (suc m))) ts v
  statement ts v s b l f e = map_of Stmt Top stmt_top (unless (of b) (stmt_at (suc m))) ts s v (record { inside = l; other = f }) e

  -- a token of the set is none of another
  seen_apart : (ts : List Token) → sees (of is_from) ts ≡ true → sees (of is_c_word) ts ≡ false
  seen_apart [] h = refl
  seen_apart (x ∷ ts) h = apart_at is_from is_c_word refl x h

  seen_less : (ts : List Token) → sees (of is_apart) ts ≡ false → sees (of is_c_word) ts ≡ false
  seen_less [] h = refl
  seen_less (x ∷ ts) h = (or_false (of is_from x) (of is_c_word x) h).1

  seen_both : (ts : List Token) → sees (of is_from) ts ≡ false → sees (of is_c_word) ts ≡ false → sees (of is_apart) ts ≡ false
  seen_both [] h k = refl
  seen_both (x ∷ ts) h k = rw (h, k) refl

  top_there : (ts : List (Mark Token)) (v : Top) → top_factored m ts v → top m ts v
  unfolding top_factored top class_top cdef_top top_tail cimport
  top_there ts v (this l) = let u = of_map Cimport Top cimport_top plain_cimport ts v l in this (map_of Cimport Top cimport_top cimport ts u.0 v (this u.1) u.2)
  top_there ts v (that (this l)) = go ((same_fork cimport_behind import_behind from_name cimport_tail (import_tail m)).there ts v l)
    where
      go : or (both cimport_behind from_name cimport_tail) (both import_behind from_name (import_tail m)) ts v → written ts v
      go (this s) = let u = of_map Cimport Top cimport_top names_cimport ts v (cimport_there ts v s) in this (map_of Cimport Top cimport_top cimport ts u.0 v (that u.1) u.2)
      go (that s) = let u = import_there m ts v s in that (that (that (that (statement ts v u.0 is_c_word u.1 (seen_apart (plain ts) u.2) u.3))))
  top_there ts v (that (that (this l))) = that (this (class_fork.there ts v l))
  top_there ts v (that (that (that (this l)))) = that (that (this l))
  top_there ts v (that (that (that (that (this l))))) = that (that (that (this l)))
  top_there ts v (that (that (that (that (that l))))) = let u = of_map Stmt Top stmt_top (unless (of is_apart) (stmt_at (suc m))) ts v l in
      that (that (that (that (statement ts v u.0 is_c_word u.1.inside (seen_less (plain ts) u.1.other) u.2))))

  top_back : (ts : List (Mark Token)) (v : Top) → top m ts v → top_factored m ts v
  unfolding top_factored top class_top cdef_top top_tail cimport
  top_back ts v (this l) = let u = of_map Cimport Top cimport_top (or plain_cimport names_cimport) ts v l in go u.0 u.1 u.2
    where
      go : (d : Cimport) → or plain_cimport names_cimport ts d → v ≡ cimport_top d → top_factored m ts v
      go d (this s) e = this (map_of Cimport Top cimport_top plain_cimport ts d v s e)
      go d (that s) e = that (this ((same_fork cimport_behind import_behind from_name cimport_tail (import_tail m)).back ts v (this (cimport_back ts v d s e))))
  top_back ts v (that (this l)) = that (that (this (class_fork.back ts v l)))
  top_back ts v (that (that (this l))) = that (that (that (this l)))
  top_back ts v (that (that (that (this l)))) = that (that (that (that (this l))))
  top_back ts v (that (that (that (that l)))) = let u = of_map Stmt Top stmt_top (unless (of is_c_word) (stmt_at (suc m))) ts v l in go u.0 u.1 u.2 (cases (sees (of is_from) (plain ts)))
    where
      go : (s : Stmt) → unless (of is_c_word) (stmt_at (suc m)) ts s → v ≡ stmt_top s → (sees (of is_from) (plain ts) ≡ true) ⊎ (sees (of is_from) (plain ts) ≡ false) → top_factored m ts v
      go s w e (inl t) = that (this ((same_fork cimport_behind import_behind from_name cimport_tail (import_tail m)).back ts v (that (import_back m ts v s w.inside t e))))
      go s w e (inr f) = that (that (that (that (that (statement ts v s is_apart w.inside (seen_both (plain ts) f w.other) e)))))

  pub same_top : Same Top (top_factored m) (top m)
  same_top = record { there = top_there; back = top_back }

  top_exact : ExactFor Top (top m) (read_top m) false begins_top more_stmt
  top_exact = same_exact same_top top_factored_exact

  pub implementation_exact : ExactFor Content (implementation m) (read_implementation m) false (either begins_top is_end) none
  unfolding implementation read_implementation
  implementation_exact = sets (either begins_top is_end) none refl refl (seq implementation_node (loop top_exact refl) (token is_end itself c.End refl) refl)

  -- ---- members of classes of definition files

  behind_pxd_exact : ExactFor (Behind PxdMember) (behind_pxd_member m) (read_behind_pxd_member m) false (either is_open_parenthesis (either is_comma is_newline)) none
  unfolding behind_pxd_member read_behind_pxd_member
  behind_pxd_exact =
      let newline = token is_newline itself c.Newline refl in
      let names = sets (either is_comma is_newline) none refl refl (seq pxd_fields (loop next_name_exact refl) newline refl) in
      either_of (after pxd_method (header_exact m) newline refl) names refl

  pxd_tail_exact : ExactFor (Typed × Behind PxdMember) (pxd_member_tail m) (read_pxd_member_tail m) false begins_type none
  unfolding pxd_member_tail read_pxd_member_tail
  pxd_tail_exact = after pair (typed_name_exact (suc m)) behind_pxd_exact refl

  heading_exact : ExactFor (Typed × Header) (heading m) (read_heading m) false begins_type none
  unfolding heading read_heading
  heading_exact = after pair (typed_name_exact (suc m)) (after first (header_exact m) (token is_newline itself c.Newline refl) refl) refl

  pxd_factored_exact : ExactFor PxdMember (pxd_member_factored m) (read_pxd_class_member m) false begins_pxd_member none
  unfolding pxd_member_factored read_pxd_class_member
  pxd_factored_exact =
      let tails = either_of (mapped_exact (flipped pxd_open_fields) (open_exact m)) (mapped_exact (flipped declared_by) pxd_tail_exact) refl in
      let by_cdef = after apply (token is_cdef itself c.Cdef refl) tails refl in
      let by_cpdef = after pxd_cpdef_method (token is_cpdef itself c.Cpdef refl) heading_exact refl in
      sets begins_pxd_member none refl refl (either_of (after first (token is_pass pxd_pass_member c.Pass refl) (token is_newline itself c.Newline refl) refl) (either_of by_cdef by_cpdef refl) refl)

  pub same_pxd_member : Same PxdMember (pxd_member_factored m) (pxd_class_member m)
  unfolding pxd_member_factored pxd_class_member pxd_open_member pxd_cdef_member pxd_member_tail
  same_pxd_member = same_or (same_self _) (same_or (same_fork pxd_open_fields declared_by _ _ _) (same_self _))

  pxd_inner : ExactFor (List PxdMember) (inner (pxd_class_member m)) (read_inner begins_pxd_member (read_pxd_class_member m)) false is_indent none
  pxd_inner =
      let X = same_exact same_pxd_member pxd_factored_exact in
      after second (token is_indent itself c.Indent refl) (after first (sets begins_pxd_member begins_pxd_member refl refl (after_maybe cons X (loop X refl) refl)) (token is_dedent itself c.Dedent refl) refl) refl

  -- ---- definition files

  item_factored_exact : ExactFor PxdItem (item_factored m) (read_pxd_item m) false begins_item none
  unfolding item_factored read_pxd_item
  item_factored_exact =
      let classes = mapped_exact (flipped pxd_class) (class_exact (pxd_class_member m) (read_pxd_class_member m) begins_pxd_member pxd_pass_member pxd_inner) in
      let by_cdef = after apply (token is_cdef itself c.Cdef refl) (either_of classes (mapped_exact (flipped pxd_function) heading_exact) refl) refl in
      let by_cpdef = after pxd_function (token is_cpdef itself c.Cpdef refl) heading_exact refl in
      let passes = after pxd_pass (token is_pass itself c.Pass refl) (token is_newline itself c.Newline refl) refl in
      sets begins_item none refl refl (either_of (mapped_exact pxd_cimport cimport_exact) (either_of passes (either_of by_cdef by_cpdef refl) refl) refl)

  abbrev pxd_fork : Same PxdItem (fork pxd_class pxd_function (one (of is_cdef) itself) (class (pxd_class_member m) pxd_pass_member) (heading m)) (or (both pxd_class (one (of is_cdef) itself) (class (pxd_class_member m) pxd_pass_member)) (both pxd_function (one (of is_cdef) itself) (heading m)))
  pxd_fork = same_fork pxd_class pxd_function (one (of is_cdef) itself) (class (pxd_class_member m) pxd_pass_member) (heading m)

  -- the first token is one of another set
  retold : (b d : Classes) (ts : List (Mark Token)) (v : PxdItem) (s : both pxd_function (one (of b) itself) (heading m) ts v) → of d s.left.token ≡ true → both pxd_function (one (of d) itself) (heading m) ts v
  retold b d ts v s h = record { a = s.a; b = s.b; front = s.front; back = s.back; cut = s.cut; left = record { token = s.left.token; is = s.left.is; fits = h; made = s.left.made }; right = s.right; made = s.made }

  c_word : (x : Token) → of is_c_word x ≡ true → of is_cdef x ≡ false → of is_cpdef x ≡ true
  c_word x h k = sym (ap (λ b. b || of is_cpdef x) k) ∙ within_at is_c_word (either is_cdef is_cpdef) refl x h

  item_there : (ts : List (Mark Token)) (v : PxdItem) → item_factored m ts v → pxd_item m ts v
  unfolding item_factored pxd_item
  item_there ts v (this l) = this l
  item_there ts v (that (this l)) = that (this l)
  item_there ts v (that (that (that s))) = that (that (that (retold is_cpdef is_c_word ts v s (within_at is_cpdef is_c_word refl s.left.token s.left.fits))))
  item_there ts v (that (that (this l))) = go (pxd_fork.there ts v l)
    where
      go : or (both pxd_class (one (of is_cdef) itself) (class (pxd_class_member m) pxd_pass_member)) (both pxd_function (one (of is_cdef) itself) (heading m)) ts v → pxd_item m ts v
      go (this s) = that (that (this s))
      go (that s) = that (that (that (retold is_cdef is_c_word ts v s (within_at is_cdef is_c_word refl s.left.token s.left.fits))))

  item_back : (ts : List (Mark Token)) (v : PxdItem) → pxd_item m ts v → item_factored m ts v
  unfolding item_factored pxd_item
  item_back ts v (this l) = this l
  item_back ts v (that (this l)) = that (this l)
  item_back ts v (that (that (this l))) = that (that (this (pxd_fork.back ts v (this l))))
  item_back ts v (that (that (that s))) = go (cases (of is_cdef s.left.token))
    where
      go : (of is_cdef s.left.token ≡ true) ⊎ (of is_cdef s.left.token ≡ false) → item_factored m ts v
      go (inl t) = that (that (this (pxd_fork.back ts v (that (retold is_c_word is_cdef ts v s t)))))
      go (inr f) = that (that (that (retold is_c_word is_cpdef ts v s (c_word s.left.token s.left.fits f))))

  pub same_item : Same PxdItem (item_factored m) (pxd_item m)
  same_item = record { there = item_there; back = item_back }

  item_exact : ExactFor PxdItem (pxd_item m) (read_pxd_item m) false begins_item none
  item_exact = same_exact same_item item_factored_exact

  pub definition_exact : ExactFor Content (definition m) (read_definition m) false (either begins_item is_end) none
  unfolding definition read_definition
  definition_exact = sets (either begins_item is_end) none refl refl (seq definition_node (loop item_exact refl) (token is_end itself c.End refl) refl)
