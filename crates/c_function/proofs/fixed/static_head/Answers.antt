use Rattle.std.proofs.Common.{◌≡◌, ◌++◌, ◌∷◌, [], List, Some, refl, sym, ◌∙◌}
use Rattle.c_token.specs.CTokens.{CToken, word, sign}
use Rattle.c_tree.specs.declared.item.CHead.{CHead}
use Rattle.c_tree.specs.declared.item.CHead.TheVariants as head
use Rattle.c_input.proofs.Rows.{same_left}
use Rattle.c_operand.proofs.Tokens.{firsts_differ}
use Rattle.c_function.specs.Heads.{behind_static, IsStaticHead}
use Rattle.c_function.proofs.fixed.static_head.Goals as goal

pub returns-then-fixed-clause-every : goal.returns-then-fixed-clause-every
returns-then-fixed-clause-every c = λ x rest form e. go x rest form (e)
  where
    go : (x : CHead) (rest : List CToken) → IsStaticHead x → c.args.input.now ≡ behind_static x ++ rest → c.object_head.result ≡ Some x
    go (head.Plain n kind ps) rest h e = absurd h
    go (head.Overridable n kind ps) rest h e = absurd h
    go (head.Wrapper n) rest h e = c.object_head.ensures.every (head.Wrapper n) rest h (same_left (word "PyObject" ∷ sign "*" ∷ []) _ _ (sym c.if-fixed.ensures ∙ e))
    go (head.New n) rest h e = c.object_head.ensures.every (head.New n) rest h (same_left (word "PyObject" ∷ sign "*" ∷ []) _ _ (sym c.if-fixed.ensures ∙ e))
    go (head.Init n) rest h e = absurd (firsts_differ (word "PyObject") (word "int") _ _ refl (sym c.if-fixed.ensures ∙ e))
    go (head.Dealloc n) rest h e = absurd (firsts_differ (word "PyObject") (word "void") _ _ refl (sym c.if-fixed.ensures ∙ e))
    go (head.Len n) rest h e = absurd (firsts_differ (word "PyObject") (word "Py_ssize_t") _ _ refl (sym c.if-fixed.ensures ∙ e))
    go (head.Item n) rest h e = c.object_head.ensures.every (head.Item n) rest h (same_left (word "PyObject" ∷ sign "*" ∷ []) _ _ (sym c.if-fixed.ensures ∙ e))
    go (head.Has n) rest h e = absurd (firsts_differ (word "PyObject") (word "int") _ _ refl (sym c.if-fixed.ensures ∙ e))
    go (head.Getter f) rest h e = c.object_head.ensures.every (head.Getter f) rest h (same_left (word "PyObject" ∷ sign "*" ∷ []) _ _ (sym c.if-fixed.ensures ∙ e))
    go (head.Setter f) rest h e = absurd (firsts_differ (word "PyObject") (word "int") _ _ refl (sym c.if-fixed.ensures ∙ e))
    go head.Body rest h e = absurd (firsts_differ (word "PyObject") (word "int") _ _ refl (sym c.if-fixed.ensures ∙ e))
    go (head.Initializer name) rest h e = absurd h

pub returns-then-fixed-2-clause-every : goal.returns-then-fixed-2-clause-every
returns-then-fixed-2-clause-every c = λ x rest form e. go x rest form (c.if-fixed.ensures.0 ∙ e)
  where
    go : (x : CHead) (rest : List CToken) → IsStaticHead x → c.fixed.new.self ≡ behind_static x ++ rest → c.int_head.result ≡ Some x
    go (head.Plain n kind ps) rest h e = absurd h
    go (head.Overridable n kind ps) rest h e = absurd h
    go (head.Wrapper n) rest h e = absurd (firsts_differ (word "int") (word "PyObject") _ _ refl (sym c.if-fixed-2.ensures ∙ e))
    go (head.New n) rest h e = absurd (firsts_differ (word "int") (word "PyObject") _ _ refl (sym c.if-fixed-2.ensures ∙ e))
    go (head.Init n) rest h e = c.int_head.ensures.every (head.Init n) rest h (same_left (word "int" ∷ []) _ _ (sym c.if-fixed-2.ensures ∙ e))
    go (head.Dealloc n) rest h e = absurd (firsts_differ (word "int") (word "void") _ _ refl (sym c.if-fixed-2.ensures ∙ e))
    go (head.Len n) rest h e = absurd (firsts_differ (word "int") (word "Py_ssize_t") _ _ refl (sym c.if-fixed-2.ensures ∙ e))
    go (head.Item n) rest h e = absurd (firsts_differ (word "int") (word "PyObject") _ _ refl (sym c.if-fixed-2.ensures ∙ e))
    go (head.Has n) rest h e = c.int_head.ensures.every (head.Has n) rest h (same_left (word "int" ∷ []) _ _ (sym c.if-fixed-2.ensures ∙ e))
    go (head.Getter f) rest h e = absurd (firsts_differ (word "int") (word "PyObject") _ _ refl (sym c.if-fixed-2.ensures ∙ e))
    go (head.Setter f) rest h e = c.int_head.ensures.every (head.Setter f) rest h (same_left (word "int" ∷ []) _ _ (sym c.if-fixed-2.ensures ∙ e))
    go head.Body rest h e = c.int_head.ensures.every head.Body rest h (same_left (word "int" ∷ []) _ _ (sym c.if-fixed-2.ensures ∙ e))
    go (head.Initializer name) rest h e = absurd h

pub returns-then-fixed-3-clause-every : goal.returns-then-fixed-3-clause-every
returns-then-fixed-3-clause-every c = λ x rest form e. go x rest form (c.if-fixed-2.ensures.0 ∙ (c.if-fixed.ensures.0 ∙ e))
  where
    go : (x : CHead) (rest : List CToken) → IsStaticHead x → c.fixed-2.new.self ≡ behind_static x ++ rest → c.dealloc.result ≡ Some x
    go (head.Plain n kind ps) rest h e = absurd h
    go (head.Overridable n kind ps) rest h e = absurd h
    go (head.Wrapper n) rest h e = absurd (firsts_differ (word "void") (word "PyObject") _ _ refl (sym c.if-fixed-3.ensures ∙ e))
    go (head.New n) rest h e = absurd (firsts_differ (word "void") (word "PyObject") _ _ refl (sym c.if-fixed-3.ensures ∙ e))
    go (head.Init n) rest h e = absurd (firsts_differ (word "void") (word "int") _ _ refl (sym c.if-fixed-3.ensures ∙ e))
    go (head.Dealloc n) rest h e = c.dealloc.ensures.every (head.Dealloc n) rest h (same_left (word "void" ∷ []) _ _ (sym c.if-fixed-3.ensures ∙ e))
    go (head.Len n) rest h e = absurd (firsts_differ (word "void") (word "Py_ssize_t") _ _ refl (sym c.if-fixed-3.ensures ∙ e))
    go (head.Item n) rest h e = absurd (firsts_differ (word "void") (word "PyObject") _ _ refl (sym c.if-fixed-3.ensures ∙ e))
    go (head.Has n) rest h e = absurd (firsts_differ (word "void") (word "int") _ _ refl (sym c.if-fixed-3.ensures ∙ e))
    go (head.Getter f) rest h e = absurd (firsts_differ (word "void") (word "PyObject") _ _ refl (sym c.if-fixed-3.ensures ∙ e))
    go (head.Setter f) rest h e = absurd (firsts_differ (word "void") (word "int") _ _ refl (sym c.if-fixed-3.ensures ∙ e))
    go head.Body rest h e = absurd (firsts_differ (word "void") (word "int") _ _ refl (sym c.if-fixed-3.ensures ∙ e))
    go (head.Initializer name) rest h e = absurd h

pub returns-then-fixed-4-clause-every : goal.returns-then-fixed-4-clause-every
returns-then-fixed-4-clause-every c = λ x rest form e. go x rest form (c.if-fixed-3.ensures.0 ∙ (c.if-fixed-2.ensures.0 ∙ (c.if-fixed.ensures.0 ∙ e)))
  where
    go : (x : CHead) (rest : List CToken) → IsStaticHead x → c.fixed-3.new.self ≡ behind_static x ++ rest → c.len.result ≡ Some x
    go (head.Plain n kind ps) rest h e = absurd h
    go (head.Overridable n kind ps) rest h e = absurd h
    go (head.Wrapper n) rest h e = absurd (firsts_differ (word "Py_ssize_t") (word "PyObject") _ _ refl (sym c.if-fixed-4.ensures ∙ e))
    go (head.New n) rest h e = absurd (firsts_differ (word "Py_ssize_t") (word "PyObject") _ _ refl (sym c.if-fixed-4.ensures ∙ e))
    go (head.Init n) rest h e = absurd (firsts_differ (word "Py_ssize_t") (word "int") _ _ refl (sym c.if-fixed-4.ensures ∙ e))
    go (head.Dealloc n) rest h e = absurd (firsts_differ (word "Py_ssize_t") (word "void") _ _ refl (sym c.if-fixed-4.ensures ∙ e))
    go (head.Len n) rest h e = c.len.ensures.every (head.Len n) rest h (same_left (word "Py_ssize_t" ∷ []) _ _ (sym c.if-fixed-4.ensures ∙ e))
    go (head.Item n) rest h e = absurd (firsts_differ (word "Py_ssize_t") (word "PyObject") _ _ refl (sym c.if-fixed-4.ensures ∙ e))
    go (head.Has n) rest h e = absurd (firsts_differ (word "Py_ssize_t") (word "int") _ _ refl (sym c.if-fixed-4.ensures ∙ e))
    go (head.Getter f) rest h e = absurd (firsts_differ (word "Py_ssize_t") (word "PyObject") _ _ refl (sym c.if-fixed-4.ensures ∙ e))
    go (head.Setter f) rest h e = absurd (firsts_differ (word "Py_ssize_t") (word "int") _ _ refl (sym c.if-fixed-4.ensures ∙ e))
    go head.Body rest h e = absurd (firsts_differ (word "Py_ssize_t") (word "int") _ _ refl (sym c.if-fixed-4.ensures ∙ e))
    go (head.Initializer name) rest h e = absurd h
