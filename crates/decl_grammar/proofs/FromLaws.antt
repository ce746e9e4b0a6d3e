-- A cimport of names, and a line that begins with an import of names, with their common beginning once.
use Rattle.std.proofs.Common.{◌≡◌, ℕ, suc, true, false, List, [], ◌∷◌, ◌++◌, refl, sym, ◌∙◌, ap, append_assoc, append-nil}
use Rattle.std.specs.Prelude.{None}
use Rattle.pyx_lex.specs.declared.token.Token.{Token}
use Rattle.token_class.specs.Sets.{of}
use Rattle.cy_tree.specs.declared.decl.Cimport.{Cimport}
use Rattle.cy_tree.specs.declared.decl.Top.{Top}
use Rattle.cy_tree.specs.declared.stmt.Line.{Line}
use Rattle.cy_tree.specs.declared.stmt.Simple.{Simple}
use Rattle.cy_tree.specs.declared.stmt.Stmt.{Stmt}
use Rattle.forms.specs.Forms.{Mark, plain, one, both, this, that, or}
use Rattle.forms.specs.Readers.{sees}
use Rattle.forms.specs.Lists.{Row, push, itself}
use Rattle.expr_grammar.specs.Words.{begins_expr}
use Rattle.decl_grammar.specs.Words.{is_from, is_cdef, is_newline, begins_word, begins_compound}
use Rattle.decl_grammar.specs.Nodes.{from_import_node, line_node, simples_node, cimport_top, from_cimport, stmt_top}
use Rattle.decl_grammar.specs.Grammar.{mapped, simple, more_simples, word_stmt, from_stmt, cdef_stmt, expression_stmt, line, stmt, inside, stmt_at, names_cimport}
use Rattle.decl_grammar.specs.Factored.{from_name, cimport_behind, import_behind, cimport_tail, import_tail}
use Rattle.decl_grammar.specs.Reading.{read_inside}
use Rattle.decl_grammar.proofs.Apart.{begun, true_false}
use Rattle.decl_grammar.proofs.Same.{map_of, of_map}
use Rattle.decl_grammar.proofs.StmtLaws.{word_exact, cdef_exact, expression_exact, compound_exact, block_at}

-- ---- cimports

pub cimport_there : (ts : List (Mark Token)) (v : Top) → both cimport_behind from_name cimport_tail ts v → mapped cimport_top names_cimport ts v
unfolding from_name cimport_tail names_cimport
cimport_there ts v s =
    let f = s.left in
    map_of Cimport Top cimport_top names_cimport ts (from_cimport f.a (f.b, s.b)) v (record {
      a = f.a;
      b = (f.b, s.b);
      front = f.front;
      back = f.back ++ s.back;
      cut = s.cut ∙ ap (λ w. w ++ s.back) f.cut ∙ append_assoc f.front f.back s.back;
      left = f.left;
      right = record { a = f.b; b = s.b; front = f.back; back = s.back; cut = refl; left = f.right; right = s.right; made = refl };
      made = refl;
    }) (s.made ∙ ap (λ w. cimport_behind w s.b) f.made)

pub cimport_back : (ts : List (Mark Token)) (v : Top) (d : Cimport) → names_cimport ts d → v ≡ cimport_top d → both cimport_behind from_name cimport_tail ts v
unfolding from_name cimport_tail names_cimport
cimport_back ts v d s e =
    let q = s.right in
    record {
      a = (s.a, q.a);
      b = q.b;
      front = s.front ++ q.front;
      back = q.back;
      cut = s.cut ∙ ap (λ w. s.front ++ w) q.cut ∙ sym (append_assoc s.front q.front q.back);
      left = record { a = s.a; b = q.a; front = s.front; back = q.front; cut = refl; left = s.left; right = q.left; made = refl };
      right = q.right;
      made = e ∙ ap cimport_top (s.made ∙ ap (from_cimport s.a) q.made);
    }

-- ---- lines

regroup : {A : Type 0} (a b c d e : List A) → ((a ++ (b ++ c)) ++ d) ++ e ≡ (a ++ b) ++ (c ++ (d ++ e))
regroup a b c d e = append_assoc (a ++ (b ++ c)) d e ∙ append_assoc a (b ++ c) (d ++ e) ∙ ap (λ w. a ++ w) (append_assoc b c (d ++ e)) ∙ sym (append_assoc a b (c ++ (d ++ e)))

module _ (m : ℕ) where
  abbrev n : ℕ
  n = suc m

  -- a line whose first statement is that import
  line_back : (ts ls fs bs : List (Mark Token)) (v : Top) (row : Row Simple) (first : Simple) (y : Token) → ts ≡ ls ++ bs → (rs : List (Mark Token)) → ls ≡ fs ++ rs → from_stmt n fs first → more_simples n rs row
      → one (of is_newline) itself bs y → v ≡ stmt_top (simples_node (line_node (push first row) y)) → both import_behind from_name (import_tail m) ts v
  unfolding from_name import_tail from_stmt
  line_back ts ls fs bs v row first y e rs g s more end made =
      let q = s.right in
      let r = q.right in
      record {
        a = (s.a, q.a);
        b = ((r.b, row), y);
        front = s.front ++ q.front;
        back = q.back ++ (rs ++ bs);
        cut = e ∙ ap (λ w. w ++ bs) (g ∙ ap (λ w. w ++ rs) (s.cut ∙ ap (λ w. s.front ++ w) q.cut)) ∙ regroup s.front q.front q.back rs bs;
        left = record { a = s.a; b = q.a; front = s.front; back = q.front; cut = refl; left = s.left; right = q.left; made = refl };
        right = record {
          a = r.a;
          b = ((r.b, row), y);
          front = r.front;
          back = (r.back ++ rs) ++ bs;
          cut = ap (λ w. w ++ (rs ++ bs)) r.cut ∙ append_assoc r.front r.back (rs ++ bs) ∙ ap (λ w. r.front ++ w) (sym (append_assoc r.back rs bs));
          left = r.left;
          right = record { a = (r.b, row); b = y; front = r.back ++ rs; back = bs; cut = refl; left = record { a = r.b; b = row; front = r.back; back = rs; cut = refl; left = r.right; right = more; made = refl }; right = end; made = refl };
          made = refl;
        };
        made = made ∙ ap (λ w. stmt_top (simples_node (line_node (push w row) y))) (s.made ∙ ap (from_import_node s.a) (q.made ∙ ap (λ w. (q.a, w)) r.made));
      }

  pub import_there : (ts : List (Mark Token)) (v : Top) → both import_behind from_name (import_tail m) ts v → (s : Stmt) × stmt_at n ts s × (sees (of is_from) (plain ts) ≡ true) × (v ≡ stmt_top s)
  unfolding from_name import_tail from_stmt stmt line simple
  import_there ts v s =
      let f = s.left in
      let i = s.right in
      let k = i.right in
      let j = k.left in
      let first = from_import_node f.a (f.b, j.a) in
      let ln = line_node (push first j.b) k.b in
      let ls = (f.front ++ (f.back ++ (i.front ++ j.front))) ++ j.back in
      let cut : ts ≡ ls ++ k.back = s.cut ∙ ap (λ w. w ++ s.back) f.cut ∙ ap (λ w. (f.front ++ f.back) ++ w) (i.cut ∙ ap (λ w. i.front ++ w) (k.cut ∙ ap (λ w. w ++ k.back) j.cut ∙ append_assoc j.front j.back k.back) ∙ sym (append_assoc i.front j.front (j.back ++ k.back)))
      ∙ sym (regroup f.front f.back (i.front ++ j.front) j.back k.back) in
      let whole : line n ts ln = record {
        a = push first j.b;
        b = k.b;
        front = ls;
        back = k.back;
        cut = cut;
        left = record {
          a = first;
          b = j.b;
          front = f.front ++ (f.back ++ (i.front ++ j.front));
          back = j.back;
          cut = refl;
          left = that (this (record {
            a = f.a;
            b = (f.b, j.a);
            front = f.front;
            back = f.back ++ (i.front ++ j.front);
            cut = refl;
            left = f.left;
            right = record { a = f.b; b = j.a; front = f.back; back = i.front ++ j.front; cut = refl; left = f.right; right = record { a = i.a; b = j.a; front = i.front; back = j.front; cut = refl; left = i.left; right = j.left; made = refl }; made = refl };
            made = refl;
          }));
          right = j.right;
          made = refl;
        };
        right = k.right;
        made = refl;
      } in
      let starts : ts ≡ (f.left.token, None) ∷ (f.back ++ s.back) = s.cut ∙ ap (λ w. w ++ s.back) (f.cut ∙ ap (λ w. w ++ f.back) f.left.is) in
      let value : v ≡ stmt_top (simples_node ln) = s.made ∙ ap (λ w. import_behind w s.b) f.made ∙ ap (import_behind (f.a, f.b)) (i.made ∙ k.made ∙ ap (λ w. (w, k.b)) j.made) in
      (simples_node ln, this (map_of Line Stmt simples_node (line n) ts ln (simples_node ln) whole refl), ap (λ w. sees (of is_from) (plain w)) starts ∙ f.left.fits, value)

  pub import_back : (ts : List (Mark Token)) (v : Top) (s : Stmt) → stmt_at n ts s → sees (of is_from) (plain ts) ≡ true → v ≡ stmt_top s → both import_behind from_name (import_tail m) ts v
  unfolding stmt line simple
  import_back ts v s (that q) t made =
      absurd (true_false (sees (of is_from) (plain ts)) t (begun begins_compound is_from refl ts ts [] (sym (append-nil ts)) ((compound_exact n (inside n) (read_inside n) (block_at n)).exact.sentences.first ts s q)))
  import_back ts v s (this q) t made = let u = of_map Line Stmt simples_node (line n) ts s q in by u.0 u.1 (made ∙ ap stmt_top u.2)
    where
      by : (ln : Line) → both line_node (both push (or (word_stmt n) (or (from_stmt n) (or (cdef_stmt n) (expression_stmt n)))) (more_simples n)) (one (of is_newline) itself) ts ln → v ≡ stmt_top (simples_node ln) → both import_behind from_name (import_tail m) ts v
      by ln l e = go l.left.left
        where
          start : ts ≡ l.left.front ++ (l.left.back ++ l.back)
          start = l.cut ∙ ap (λ w. w ++ l.back) l.left.cut ∙ append_assoc l.left.front l.left.back l.back

          never : sees (of is_from) (plain ts) ≡ false → both import_behind from_name (import_tail m) ts v
          never f = absurd (true_false (sees (of is_from) (plain ts)) t f)

          go : or (word_stmt n) (or (from_stmt n) (or (cdef_stmt n) (expression_stmt n))) l.left.front l.left.a → both import_behind from_name (import_tail m) ts v
          go (this z) = never (begun begins_word is_from refl ts l.left.front (l.left.back ++ l.back) start ((word_exact n).exact.sentences.first l.left.front l.left.a z))
          go (that (that (this z))) = never (begun is_cdef is_from refl ts l.left.front (l.left.back ++ l.back) start ((cdef_exact n).exact.sentences.first l.left.front l.left.a z))
          go (that (that (that z))) = never (begun begins_expr is_from refl ts l.left.front (l.left.back ++ l.back) start ((expression_exact n).exact.sentences.first l.left.front l.left.a z))
          go (that (this z)) = line_back ts l.front l.left.front l.back v l.left.b l.left.a l.b l.cut l.left.back l.left.cut z l.left.right l.right
              (e ∙ ap (λ w. stmt_top (simples_node w)) (l.made ∙ ap (λ w. line_node w l.b) l.left.made))
