-- A type that begins with no plain NAME.
use Rattle.std.proofs.Common.{◌≡◌, ℕ, Bool, true, false, not, cond, List, [], ◌∷◌, ap}
use Rattle.pyx_lex.specs.declared.token.Token.{Token}
use Rattle.token_class.specs.Classes.{class_of}
use Rattle.token_class.specs.Sets.{of}
use Rattle.forms.specs.Readers.{sees, bad, unexpected}
use Rattle.forms.proofs.Facts.{and_true}
use Rattle.expr_grammar.specs.Words.{is_plain_name, begins_type}
use Rattle.decl_grammar.specs.Reading.{read_unless, read_type_at, is_definite}

not_true : (c : Bool) → not c ≡ true → c ≡ false
not_true true h = cc
not_true false h = cc

no_plain : (ts : List Token) → sees (of is_definite) ts ≡ true → sees (of is_plain_name) ts ≡ false
no_plain [] h = cc
no_plain (x ∷ ts) h = let c = class_of x.kind in not_true (is_plain_name c) (and_true (begins_type c) (not (is_plain_name c)) h).1

pub definite_read : (n : ℕ) (ts : List Token) → sees (of is_definite) ts ≡ true → read_unless (of is_plain_name) (read_type_at n) ts ≡ read_type_at n ts
unfolding read_unless
definite_read n ts h = ap (λ c. cond c (bad unexpected ts) (read_type_at n ts)) (no_plain ts h)
