-- What reads a name that may stand behind its type is exact.
use Rattle.std.proofs.Common.{◌≡◌, ℕ, true, false, ◌⊎◌, inl, inr, List, [], ◌∷◌, ◌++◌, refl, sym, ◌∙◌, ap, append_assoc, append-nil}
use Rattle.std.specs.Prelude.{Option, Some, None}
use Rattle.pyx_lex.specs.declared.token.Token.{Token}
use Rattle.token_class.specs.declared.class.TokenClass.TheVariants as c
use Rattle.token_class.specs.Sets.{of}
use Rattle.token_class.proofs.Laws.{ExactFor, optional, empty, token, seq, opened, some_token, within_room, sets, after, after_maybe, either_of, maybe}
use Rattle.cy_tree.specs.declared.types.Dim.{Dim}
use Rattle.cy_tree.specs.declared.types.Ident.{Ident}
use Rattle.cy_tree.specs.declared.types.TypeNode.{TypeNode}
use Rattle.forms.specs.Forms.{Mark, plain, none, one, both, nothing, this, that, or}
use Rattle.forms.specs.Readers.{bad, unexpected, sees}
use Rattle.forms.specs.Lists.{first, second, pair, itself}
use Rattle.forms.proofs.Facts.{cases}
use Rattle.forms.proofs.Beginnings.{some_both}
use Rattle.expr_grammar.specs.Words.{is_plain_name, is_const, is_colon, is_open_bracket, is_close_bracket, begins_number, begins_type, more_type}
use Rattle.expr_grammar.specs.Nodes.{ident, some, number_node, named_node, type_node, triple, yes}
use Rattle.expr_grammar.specs.Grammar.{two, is_positive, member, number_words, type_name, type, deep, opt}
use Rattle.expr_grammar.proofs.FlatLaws.{number_exact, member_exact, dims_exact}
use Rattle.expr_grammar.proofs.LevelLaws.{type_exact, some_deep}
use Rattle.decl_grammar.specs.Nodes.{Typed}
use Rattle.decl_grammar.specs.Grammar.{apply, type_at, declared_name, typed_name}
use Rattle.decl_grammar.specs.Factored.{Same, typed, untyped, brackets, behind_name, definite, name_factored}
use Rattle.decl_grammar.specs.Reading.{read_type_at, read_brackets, goes_on, read_behind_name, is_definite, read_definite, read_typed_name}
use Rattle.decl_grammar.proofs.Unless.{but_not}
use Rattle.decl_grammar.proofs.Same.{same_exact}
use Rattle.decl_grammar.proofs.Apart.{apart_at, begun, true_false}

pub type_at_exact : (n : ℕ) → ExactFor TypeNode (type_at n) (read_type_at n) false begins_type more_type
type_at_exact n = type_exact false (is_positive n) deep (λ l ts. bad unexpected ts) some_deep (λ h l. cc)

brackets_exact : (n : ℕ) → ExactFor (List Dim) (brackets n) (read_brackets n) true is_open_bracket is_open_bracket
unfolding brackets read_brackets
brackets_exact n =
    let close = token is_close_bracket itself c.CloseBracket refl in
    let some_dims = some_both first dims_exact.exact.sentences.some (some_token is_close_bracket itself c.CloseBracket refl) in
    let room = within_room (is_positive n) two (opened second is_open_bracket itself c.OpenBracket refl some_dims)
    (λ h. after second (token is_open_bracket itself c.OpenBracket refl) (sets is_colon none refl refl (seq first dims_exact close refl)) refl) in
    sets is_open_bracket is_open_bracket refl refl (maybe [] room)

behind_name_exact : (n : ℕ) → ExactFor (Ident → Typed) (behind_name n) (read_behind_name n) true goes_on goes_on
unfolding behind_name read_behind_name
behind_name_exact n =
    let what = seq pair (optional member_exact) (brackets_exact n) refl in
    let whole = seq typed what (token is_plain_name ident c.Name refl) refl in
    maybe untyped (sets goes_on none refl refl whole)

definite_exact : (n : ℕ) → ExactFor Typed (definite n) (read_definite n) false is_definite none
unfolding definite read_definite
definite_exact n =
    let kind = but_not is_plain_name c.Const refl refl (type_at_exact n) in
    sets is_definite none refl refl (after pair (after_maybe some kind (empty tt) refl) (token is_plain_name ident c.Name refl) refl)

factored_exact : (n : ℕ) → ExactFor Typed (name_factored n) (read_typed_name n) false begins_type goes_on
unfolding name_factored read_typed_name
factored_exact n = sets begins_type goes_on refl refl (either_of (definite_exact n) (after_maybe apply (token is_plain_name ident c.Name refl) (behind_name_exact n) refl) refl)

-- ---- the factored form spells the same

head : {A : Type 0} {x y : A} {xs ys : List A} → x ∷ xs ≡ y ∷ ys → x ≡ y
head h = cc

module _ (n : ℕ) where
  -- a type that begins with a plain NAME
  Named : List (Mark Token) → TypeNode → Type 0
  Named us kind = (x : Token) × (of is_plain_name x ≡ true) × (o : Option Ident) × (d : List Dim) × (ms ds : List (Mark Token)) × (us ≡ (x, None) ∷ (ms ++ ds)) × opt member ms o × brackets n ds d × (kind ≡ type_node x (false, named_node (ident x) o, d))

  named : (us : List (Mark Token)) (kind : TypeNode) → type_at n us kind → sees (of is_plain_name) (plain us) ≡ true → Named us kind
  unfolding type type_name brackets Named
  named us kind t h = go t.inside.left t.inside.right.left
    where
      by : sees (of is_plain_name) (plain us) ≡ false → Named us kind
      by f = absurd (true_false (sees (of is_plain_name) (plain us)) h f)

      -- without `const` the type begins with its name
      start : t.inside.front ≡ [] → us ≡ t.inside.right.front ++ t.inside.right.back
      start e = t.inside.cut ∙ ap (λ w. w ++ t.inside.back) e ∙ t.inside.right.cut

      go : or (one (of is_const) yes) (nothing false) t.inside.front t.inside.a
          → or (both number_node number_words (nothing tt)) (both named_node (one (of is_plain_name) ident) (opt member)) t.inside.right.front t.inside.right.a → Named us kind
      go (this o) q =
          let e : us ≡ (o.token, None) ∷ t.inside.back = t.inside.cut ∙ ap (λ w. w ++ t.inside.back) o.is in
          by (ap (λ w. sees (of is_plain_name) (plain w)) e ∙ apart_at is_const is_plain_name refl o.token o.fits)
      go (that z) (this q) =
          let e : us ≡ q.front ++ (q.back ++ t.inside.right.back) = start z.0 ∙ ap (λ w. w ++ t.inside.right.back) q.cut ∙ append_assoc q.front q.back t.inside.right.back in
          by (begun begins_number is_plain_name refl us q.front (q.back ++ t.inside.right.back) e (number_exact.exact.sentences.first q.front q.a q.left))
      go (that z) (that k) =
          let x = k.left.token in
          let name : t.inside.right.a ≡ named_node (ident x) k.b = k.made ∙ ap (λ w. named_node w k.b) k.left.made in
          let cut : us ≡ (x, None) ∷ (k.back ++ t.inside.right.back) = start z.0 ∙ ap (λ w. w ++ t.inside.right.back) (k.cut ∙ ap (λ w. w ++ k.back) k.left.is) in
          let first : t.token ≡ (x, None) = head (sym t.is ∙ cut) in
          let parts : t.a ≡ (false, named_node (ident x) k.b, t.inside.right.b) =
          t.inside.made ∙ ap (λ w. triple w t.inside.b) z.1 ∙ ap (triple false) (t.inside.right.made ∙ ap (λ w. (w, t.inside.right.b)) name) in
          (x, k.left.fits, k.b, t.inside.right.b, k.back, t.inside.right.back, cut, k.right, t.inside.right.right, t.made ∙ ap (λ w. type_node w.0 t.a) first ∙ ap (type_node x) parts)

  -- and back
  kind_of : (us : List (Mark Token)) (kind : TypeNode) → Named us kind → type_at n us kind
  unfolding type type_name brackets Named
  kind_of us kind s = record {
    token = (s.0, None);
    later = s.4 ++ s.5;
    a = (false, named_node (ident s.0) s.2, s.3);
    is = s.6;
    inside = record {
      a = false;
      b = (named_node (ident s.0) s.2, s.3);
      front = [];
      back = us;
      cut = refl;
      left = that (refl, refl);
      right = record {
        a = named_node (ident s.0) s.2;
        b = s.3;
        front = (s.0, None) ∷ s.4;
        back = s.5;
        cut = s.6;
        left = that (record { a = ident s.0; b = s.2; front = (s.0, None) ∷ []; back = s.4; cut = refl; left = record { token = s.0; is = refl; fits = s.1; made = refl }; right = s.7; made = refl });
        right = s.8;
        made = refl;
      };
      made = refl;
    };
    made = s.9;
  }

  -- ---- both ways

  there : (ts : List (Mark Token)) (v : Typed) → name_factored n ts v → typed_name n ts v
  unfolding name_factored definite behind_name typed_name Named
  there ts v (this s) = record { a = s.a; b = s.b; front = s.front; back = s.back; cut = s.cut; left = this (record { a = s.left.a; b = s.left.b; front = s.left.front; back = s.left.back; cut = s.left.cut; left = s.left.left.inside; right = s.left.right; made = s.left.made }); right = s.right; made = s.made }
  there ts v (that s) = go s.right
    where
      go : or (both typed (both pair (opt member) (brackets n)) declared_name) (nothing untyped) s.back s.b → typed_name n ts v
      go (this z) =
          let x = s.left.token in
          let q = z.left in
          let kind = type_node x (false, named_node (ident x) q.a, q.b) in
          let us = (x, None) ∷ (q.front ++ q.back) in
          let whole : type_at n us kind = kind_of us kind (x, s.left.fits, q.a, q.b, q.front, q.back, refl, q.left, q.right, refl) in
          let cut : ts ≡ us ++ z.back = s.cut ∙ ap (λ w. w ++ s.back) s.left.is ∙ ap (λ w. (x, None) ∷ w) (z.cut ∙ ap (λ w. w ++ z.back) q.cut) in
          let value : v ≡ (Some kind, ident z.right.token) =
          s.made ∙ ap (λ w. w s.a) z.made ∙ ap (typed z.a z.b) s.left.made ∙ ap (λ w. typed z.a w (ident x)) z.right.made ∙ ap (λ w. typed w (ident z.right.token) (ident x)) q.made in
          record {
            a = Some kind;
            b = ident z.right.token;
            front = us;
            back = z.back;
            cut = cut;
            left = this (record { a = kind; b = tt; front = us; back = []; cut = sym (append-nil us); left = whole; right = (refl, refl); made = refl });
            right = record { token = z.right.token; is = z.right.is; fits = z.right.fits; made = refl };
            made = value;
          }
      go (that z) =
          let x = s.left.token in
          record {
            a = None;
            b = ident x;
            front = [];
            back = ts;
            cut = refl;
            left = that (refl, refl);
            right = record { token = x; is = s.cut ∙ ap (λ w. s.front ++ w) z.0 ∙ append-nil s.front ∙ s.left.is; fits = s.left.fits; made = refl };
            made = s.made ∙ ap (λ w. w s.a) z.1 ∙ ap untyped s.left.made;
          }

  back : (ts : List (Mark Token)) (v : Typed) → typed_name n ts v → name_factored n ts v
  unfolding name_factored definite behind_name typed_name Named
  back ts v s = go s.left
    where
      go : or (both some (type_at n) (nothing tt)) (nothing None) s.front s.a → name_factored n ts v
      go (that z) =
          let x = s.right.token in
          that (record {
            a = ident x;
            b = untyped;
            front = (x, None) ∷ [];
            back = [];
            cut = s.cut ∙ ap (λ w. w ++ s.back) z.0 ∙ s.right.is;
            left = record { token = x; is = refl; fits = s.right.fits; made = refl };
            right = that (refl, refl);
            made = s.made ∙ ap (λ w. pair w s.b) z.1 ∙ ap (pair None) s.right.made;
          })
      go (this z) = by (cases (sees (of is_plain_name) (plain z.front)))
        where
          by : (sees (of is_plain_name) (plain z.front) ≡ true) ⊎ (sees (of is_plain_name) (plain z.front) ≡ false) → name_factored n ts v
          by (inr f) = this (record {
            a = s.a;
            b = s.b;
            front = s.front;
            back = s.back;
            cut = s.cut;
            left = record { a = z.a; b = z.b; front = z.front; back = z.back; cut = z.cut; left = record { inside = z.left; other = f }; right = z.right; made = z.made };
            right = s.right;
            made = s.made;
          })
          by (inl t) =
              let k = named z.front z.a z.left t in
              let x = k.0 in
              let y = s.right.token in
              let cut : ts ≡ (x, None) ∷ ((k.4 ++ k.5) ++ s.back) = s.cut ∙ ap (λ w. w ++ s.back) (z.cut ∙ ap (λ w. z.front ++ w) z.right.0 ∙ append-nil z.front ∙ k.6) in
              let value : v ≡ typed (k.2, k.3) (ident y) (ident x) = s.made ∙ ap (λ w. pair w s.b) (z.made ∙ ap Some k.9) ∙ ap (pair (Some (type_node x (false, named_node (ident x) k.2, k.3)))) s.right.made in
              that (record {
                a = ident x;
                b = typed (k.2, k.3) (ident y);
                front = (x, None) ∷ [];
                back = (k.4 ++ k.5) ++ s.back;
                cut = cut;
                left = record { token = x; is = refl; fits = k.1; made = refl };
                right = this (record {
                  a = (k.2, k.3);
                  b = ident y;
                  front = k.4 ++ k.5;
                  back = s.back;
                  cut = refl;
                  left = record { a = k.2; b = k.3; front = k.4; back = k.5; cut = refl; left = k.7; right = k.8; made = refl };
                  right = record { token = y; is = s.right.is; fits = s.right.fits; made = refl };
                  made = refl;
                });
                made = value;
              })

  pub same_name : Same Typed (name_factored n) (typed_name n)
  same_name = record { there = there; back = back }

pub typed_name_exact : (n : ℕ) → ExactFor Typed (typed_name n) (read_typed_name n) false begins_type goes_on
typed_name_exact n = same_exact (same_name n) (factored_exact n)
