-- Where no member of a name stands next.
use Rattle.std.proofs.Common.{◌≡◌, List, ◌++◌, Some, ℕ, ap, sym, ◌∙◌, arith, get_or}
use Rattle.std.specs.Prelude.{◌≢◌, None, Option, codes}
use Rattle.c_token.specs.CTokens.{CToken}
use Rattle.c_tree.specs.declared.name.Numbered.{Numbered}
use Rattle.c_table.specs.declared.kinds.Functions.{Functions}
use Rattle.c_table.specs.declared.kinds.Tables.{Tables}
use Rattle.c_table.specs.Parts.{assigned, assigned_address, end_tokens, member_tokens}
use Rattle.c_table.specs.Tables.{functions_tokens, tables_tokens, Lacks}
use Rattle.c_table.proofs.Steps.{assoc}

pub lacks_value : (name other letters : List ℕ) (m : Option Numbered) (rest : List CToken) → name ≢ other → Lacks name rest → Lacks name (member_tokens (assigned other) letters m ++ rest)
lacks_value name other letters None rest differ h = h
lacks_value name other letters (Some n) rest differ h = λ r e. differ (let same : name ≡ other = cc in same)

pub lacks_address : (name other letters : List ℕ) (m : Option Numbered) (rest : List CToken) → name ≢ other → Lacks name rest → Lacks name (member_tokens (assigned_address other) letters m ++ rest)
lacks_address name other letters None rest differ h = h
lacks_address name other letters (Some n) rest differ h = λ r e. differ (let same : name ≡ other = cc in same)

pub lacks_end : (name : List ℕ) (rest : List CToken) → Lacks name (end_tokens ++ rest)
lacks_end name rest = λ r e. cc

abbrev pub base_tokens : Functions → List CToken
base_tokens f = member_tokens (assigned_address (codes "tp_base")) (codes "cyc_ty_") f.base

abbrev pub new_tokens : Functions → List CToken
new_tokens f = member_tokens (assigned (codes "tp_new")) (codes "cyc_new_") f.new

abbrev pub init_tokens : Functions → List CToken
init_tokens f = member_tokens (assigned (codes "tp_init")) (codes "cyc_init_") f.init

abbrev pub dealloc_tokens : Functions → List CToken
dealloc_tokens f = member_tokens (assigned (codes "tp_dealloc")) (codes "cyc_dealloc_") f.dealloc

abbrev pub methods_tokens : Tables → List CToken
methods_tokens t = member_tokens (assigned (codes "tp_methods")) (codes "cyc_ms_") t.methods

abbrev pub properties_tokens : Tables → List CToken
properties_tokens t = member_tokens (assigned (codes "tp_getset")) (codes "cyc_gs_") t.properties

abbrev pub sequence_tokens : Tables → List CToken
sequence_tokens t = member_tokens (assigned_address (codes "tp_as_sequence")) (codes "cyc_sq_") t.sequence

abbrev pub mapping_tokens : Tables → List CToken
mapping_tokens t = member_tokens (assigned_address (codes "tp_as_mapping")) (codes "cyc_mp_") t.mapping

pub four : (a b c d rest : List CToken) → (a ++ (b ++ (c ++ d))) ++ rest ≡ a ++ (b ++ (c ++ (d ++ rest)))
four a b c d rest =
    assoc a (b ++ (c ++ d)) rest
    ∙ ap (λ (t : List CToken). a ++ t) (assoc b (c ++ d) rest ∙ ap (λ (t : List CToken). b ++ t) (assoc c d rest))

-- lists with two different elements at one place
pub differ_at : (k : ℕ) (a b : List ℕ) → get_or a k 0 ≢ get_or b k 0 → a ≢ b
differ_at k a b h e = h (ap (λ (l : List ℕ). get_or l k 0) e)

-- the tokens of functions, one member behind another, each lacking the members before it
pub record AreLaid (f : Functions) (rest : List CToken) : Type 0 where
  pub nested : functions_tokens f ++ rest ≡ base_tokens f ++ (new_tokens f ++ (init_tokens f ++ (dealloc_tokens f ++ rest)))
  pub base : Lacks (codes "tp_base") (new_tokens f ++ (init_tokens f ++ (dealloc_tokens f ++ rest)))
  pub new : Lacks (codes "tp_new") (init_tokens f ++ (dealloc_tokens f ++ rest))
  pub init : Lacks (codes "tp_init") (dealloc_tokens f ++ rest)

pub functions_laid : (f : Functions) (rest : List CToken) → Lacks (codes "tp_base") rest → Lacks (codes "tp_new") rest → Lacks (codes "tp_init") rest → AreLaid f rest
functions_laid f rest b n i = record {
  nested = four (base_tokens f) (new_tokens f) (init_tokens f) (dealloc_tokens f) rest;
  base =
      lacks_value (codes "tp_base") (codes "tp_new") (codes "cyc_new_") f.new (init_tokens f ++ (dealloc_tokens f ++ rest)) (differ_at 3 (codes "tp_base") (codes "tp_new") (λ k. omega arith))
      (lacks_value (codes "tp_base") (codes "tp_init") (codes "cyc_init_") f.init (dealloc_tokens f ++ rest) (differ_at 3 (codes "tp_base") (codes "tp_init") (λ k. omega arith))
      (lacks_value (codes "tp_base") (codes "tp_dealloc") (codes "cyc_dealloc_") f.dealloc rest (differ_at 3 (codes "tp_base") (codes "tp_dealloc") (λ k. omega arith)) b));
  new =
      lacks_value (codes "tp_new") (codes "tp_init") (codes "cyc_init_") f.init (dealloc_tokens f ++ rest) (differ_at 3 (codes "tp_new") (codes "tp_init") (λ k. omega arith))
      (lacks_value (codes "tp_new") (codes "tp_dealloc") (codes "cyc_dealloc_") f.dealloc rest (differ_at 3 (codes "tp_new") (codes "tp_dealloc") (λ k. omega arith)) n);
  init = lacks_value (codes "tp_init") (codes "tp_dealloc") (codes "cyc_dealloc_") f.dealloc rest (differ_at 3 (codes "tp_init") (codes "tp_dealloc") (λ k. omega arith)) i;
}

-- the tokens of tables, one member behind another, each lacking the members before it
pub record AreSet (t : Tables) (rest : List CToken) : Type 0 where
  pub nested : tables_tokens t ++ rest ≡ methods_tokens t ++ (properties_tokens t ++ (sequence_tokens t ++ (mapping_tokens t ++ (end_tokens ++ rest))))
  pub methods : Lacks (codes "tp_methods") (properties_tokens t ++ (sequence_tokens t ++ (mapping_tokens t ++ (end_tokens ++ rest))))
  pub properties : Lacks (codes "tp_getset") (sequence_tokens t ++ (mapping_tokens t ++ (end_tokens ++ rest)))
  pub sequence : Lacks (codes "tp_as_sequence") (mapping_tokens t ++ (end_tokens ++ rest))
  pub mapping : Lacks (codes "tp_as_mapping") (end_tokens ++ rest)

tables_nested : (t : Tables) (rest : List CToken) → tables_tokens t ++ rest ≡ methods_tokens t ++ (properties_tokens t ++ (sequence_tokens t ++ (mapping_tokens t ++ (end_tokens ++ rest))))
tables_nested t rest =
    four (methods_tokens t) (properties_tokens t) (sequence_tokens t) (mapping_tokens t ++ end_tokens) rest
    ∙ ap (λ (z : List CToken). methods_tokens t ++ (properties_tokens t ++ (sequence_tokens t ++ z))) (assoc (mapping_tokens t) end_tokens rest)

pub tables_set : (t : Tables) (rest : List CToken) → AreSet t rest
tables_set t rest = record {
  nested = tables_nested t rest;
  methods =
      lacks_value (codes "tp_methods") (codes "tp_getset") (codes "cyc_gs_") t.properties (sequence_tokens t ++ (mapping_tokens t ++ (end_tokens ++ rest))) (λ e. cc)
      (lacks_address (codes "tp_methods") (codes "tp_as_sequence") (codes "cyc_sq_") t.sequence (mapping_tokens t ++ (end_tokens ++ rest)) (λ e. cc)
      (lacks_address (codes "tp_methods") (codes "tp_as_mapping") (codes "cyc_mp_") t.mapping (end_tokens ++ rest) (λ e. cc) (lacks_end (codes "tp_methods") rest)));
  properties =
      lacks_address (codes "tp_getset") (codes "tp_as_sequence") (codes "cyc_sq_") t.sequence (mapping_tokens t ++ (end_tokens ++ rest)) (λ e. cc)
      (lacks_address (codes "tp_getset") (codes "tp_as_mapping") (codes "cyc_mp_") t.mapping (end_tokens ++ rest) (λ e. cc) (lacks_end (codes "tp_getset") rest));
  sequence = lacks_address (codes "tp_as_sequence") (codes "tp_as_mapping") (codes "cyc_mp_") t.mapping (end_tokens ++ rest) (λ e. cc) (lacks_end (codes "tp_as_sequence") rest);
  mapping = lacks_end (codes "tp_as_mapping") rest;
}

-- tables have no member of another name
pub tables_lack : (name : List ℕ) (t : Tables) (rest : List CToken) → name ≢ codes "tp_methods" → name ≢ codes "tp_getset" → name ≢ codes "tp_as_sequence" → name ≢ codes "tp_as_mapping" → Lacks name (tables_tokens t ++ rest)
tables_lack name t rest m p s k = λ r e. within r (sym_nested ∙ e)
  where
    sym_nested : methods_tokens t ++ (properties_tokens t ++ (sequence_tokens t ++ (mapping_tokens t ++ (end_tokens ++ rest)))) ≡ tables_tokens t ++ rest
    sym_nested = sym (tables_nested t rest)

    within : Lacks name (methods_tokens t ++ (properties_tokens t ++ (sequence_tokens t ++ (mapping_tokens t ++ (end_tokens ++ rest)))))
    within =
        lacks_value name (codes "tp_methods") (codes "cyc_ms_") t.methods (properties_tokens t ++ (sequence_tokens t ++ (mapping_tokens t ++ (end_tokens ++ rest)))) m
        (lacks_value name (codes "tp_getset") (codes "cyc_gs_") t.properties (sequence_tokens t ++ (mapping_tokens t ++ (end_tokens ++ rest))) p
        (lacks_address name (codes "tp_as_sequence") (codes "cyc_sq_") t.sequence (mapping_tokens t ++ (end_tokens ++ rest)) s
        (lacks_address name (codes "tp_as_mapping") (codes "cyc_mp_") t.mapping (end_tokens ++ rest) k (lacks_end name rest))))
