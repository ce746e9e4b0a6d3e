-- A statement that begins with no `from`, `cdef` or `cpdef`.
use Rattle.std.proofs.Common.{◌≡◌, ℕ, Bool, true, false, cond, ◌||◌, List, [], ◌∷◌, refl, ◌∙◌, ap}
use Rattle.pyx_lex.specs.declared.token.Token.{Token}
use Rattle.token_class.specs.declared.class.TokenClass.{TokenClass}
use Rattle.token_class.specs.declared.class.TokenClass.TheVariants as c
use Rattle.token_class.specs.Classes.{class_of}
use Rattle.token_class.specs.Sets.{of}
use Rattle.token_class.proofs.Laws.{bool_same}
use Rattle.token_class.proofs.EveryOne.{every_one}
use Rattle.forms.specs.Forms.{either}
use Rattle.forms.specs.Readers.{sees, bad, unexpected}
use Rattle.decl_grammar.specs.Words.{is_from, is_cdef, is_cpdef, is_c_word}
use Rattle.decl_grammar.specs.Factored.{is_apart}
use Rattle.decl_grammar.specs.Reading.{read_unless, read_stmt_at}

same_bools : (a b : Bool) → bool_same a b ≡ true → a ≡ b
same_bools true true h = refl
same_bools true false h = cc
same_bools false true h = cc
same_bools false false h = refl

c_word : (x : TokenClass) → is_apart x ≡ (is_from x || (is_cdef x || is_cpdef x))
c_word x = same_bools (is_apart x) (is_from x || (is_cdef x || is_cpdef x)) (every_one (λ x. bool_same (is_apart x) (is_from x || (is_cdef x || is_cpdef x))) refl x)

none_of : (a b c : Bool) → a ≡ false → b ≡ false → c ≡ false → (a || (b || c)) ≡ false
none_of a b c h g k = rw (h, g, k) refl

apart : (ts : List Token) → sees (of is_from) ts ≡ false → sees (of is_cdef) ts ≡ false → sees (of is_cpdef) ts ≡ false → sees (of is_apart) ts ≡ false
apart [] h g k = refl
apart (x ∷ ts) h g k = let y = class_of x.kind in c_word y ∙ none_of (is_from y) (is_cdef y) (is_cpdef y) h g k

pub other_read : (n : ℕ) (ts : List Token) → sees (of is_from) ts ≡ false → sees (of is_cdef) ts ≡ false → sees (of is_cpdef) ts ≡ false → read_unless (of is_apart) (read_stmt_at n) ts ≡ read_stmt_at n ts
unfolding read_unless
other_read n ts h g k = ap (λ c. cond c (bad unexpected ts) (read_stmt_at n ts)) (apart ts h g k)
