-- The parts of a type object.
use Rattle.std.proofs.Common.{◌≡◌, List, ◌++◌, arith}
use Rattle.std.specs.Prelude.{codes}
use Rattle.c_token.specs.CTokens.{CToken}
use Rattle.c_tree.specs.declared.item.TypeObject.{TypeObject}
use Rattle.c_table.specs.declared.kinds.Tables.{Tables}
use Rattle.c_table.specs.Tables.{functions_of, tables_of, tables_tokens, Lacks}
use Rattle.c_table.proofs.Lacking.{differ_at, tables_lack}

pub same_type : (a b : TypeObject) → a.class ≡ b.class → a.name ≡ b.name → a.size ≡ b.size → functions_of a ≡ functions_of b → tables_of a ≡ tables_of b → a ≡ b
same_type a b c n s f t = λ i. record {
  class = c i;
  name = n i;
  size = s i;
  base = (f i).base;
  new = (f i).new;
  init = (f i).init;
  dealloc = (f i).dealloc;
  methods = (t i).methods;
  properties = (t i).properties;
  sequence = (t i).sequence;
  mapping = (t i).mapping;
}

pub lacks_base : (t : Tables) (rest : List CToken) → Lacks (codes "tp_base") (tables_tokens t ++ rest)
lacks_base t rest =
    tables_lack (codes "tp_base") t rest
    (differ_at 3 (codes "tp_base") (codes "tp_methods") (λ k. omega arith)) (differ_at 3 (codes "tp_base") (codes "tp_getset") (λ k. omega arith))
    (differ_at 3 (codes "tp_base") (codes "tp_as_sequence") (λ k. omega arith)) (differ_at 3 (codes "tp_base") (codes "tp_as_mapping") (λ k. omega arith))

pub lacks_new : (t : Tables) (rest : List CToken) → Lacks (codes "tp_new") (tables_tokens t ++ rest)
lacks_new t rest =
    tables_lack (codes "tp_new") t rest
    (differ_at 3 (codes "tp_new") (codes "tp_methods") (λ k. omega arith)) (differ_at 3 (codes "tp_new") (codes "tp_getset") (λ k. omega arith))
    (differ_at 3 (codes "tp_new") (codes "tp_as_sequence") (λ k. omega arith)) (differ_at 3 (codes "tp_new") (codes "tp_as_mapping") (λ k. omega arith))

pub lacks_init : (t : Tables) (rest : List CToken) → Lacks (codes "tp_init") (tables_tokens t ++ rest)
lacks_init t rest =
    tables_lack (codes "tp_init") t rest
    (differ_at 3 (codes "tp_init") (codes "tp_methods") (λ k. omega arith)) (differ_at 3 (codes "tp_init") (codes "tp_getset") (λ k. omega arith))
    (differ_at 3 (codes "tp_init") (codes "tp_as_sequence") (λ k. omega arith)) (differ_at 3 (codes "tp_init") (codes "tp_as_mapping") (λ k. omega arith))

pub lacks_dealloc : (t : Tables) (rest : List CToken) → Lacks (codes "tp_dealloc") (tables_tokens t ++ rest)
lacks_dealloc t rest =
    tables_lack (codes "tp_dealloc") t rest
    (differ_at 3 (codes "tp_dealloc") (codes "tp_methods") (λ k. omega arith)) (differ_at 3 (codes "tp_dealloc") (codes "tp_getset") (λ k. omega arith))
    (differ_at 3 (codes "tp_dealloc") (codes "tp_as_sequence") (λ k. omega arith)) (differ_at 3 (codes "tp_dealloc") (codes "tp_as_mapping") (λ k. omega arith))
