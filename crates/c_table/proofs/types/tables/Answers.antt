use Rattle.std.proofs.Common.{◌++◌, ◌∙◌}
use Rattle.std.specs.Prelude.{codes}
use Rattle.c_tree.specs.Forms.{IsMember}
use Rattle.c_table.specs.Parts.{assigned, assigned_address, end_tokens, member_tokens}
use Rattle.c_table.proofs.Lacking.{tables_set, mapping_tokens, properties_tokens, sequence_tokens}
use Rattle.c_table.proofs.Steps.{next_one}
use Rattle.c_table.proofs.types.tables.Goals as goal

pub returns-in_err-methods-clause-every : goal.returns-in_err-methods-clause-every
returns-in_err-methods-clause-every c = λ x rest form e.
    let set = tables_set x rest in
    let at = e ∙ set.nested in
    absurd (cc (c.in_err-methods.ensures.every x.methods (properties_tokens x ++ (sequence_tokens x ++ (mapping_tokens x ++ (end_tokens ++ rest)))) form.0 set.methods at))

pub returns-in_err-properties-clause-every : goal.returns-in_err-properties-clause-every
returns-in_err-properties-clause-every c = λ x rest form e.
    let set = tables_set x rest in
    let at = e ∙ set.nested in
    let k = next_one IsMember (member_tokens (assigned (codes "tp_methods")) (codes "cyc_ms_")) c.args.input.now c.value.new.input c.in_ok-methods.methods x.methods (properties_tokens x ++ (sequence_tokens x ++ (mapping_tokens x ++ (end_tokens ++ rest))))
    c.in_ok-methods.ensures.some (c.in_ok-methods.ensures.every x.methods (properties_tokens x ++ (sequence_tokens x ++ (mapping_tokens x ++ (end_tokens ++ rest)))) form.0 set.methods at) at in
    absurd (cc (c.in_err-properties.ensures.every x.properties (sequence_tokens x ++ (mapping_tokens x ++ (end_tokens ++ rest))) form.1 set.properties k.left))

pub returns-in_err-sequence-clause-every : goal.returns-in_err-sequence-clause-every
returns-in_err-sequence-clause-every c = λ x rest form e.
    let set = tables_set x rest in
    let at = e ∙ set.nested in
    let k = next_one IsMember (member_tokens (assigned (codes "tp_methods")) (codes "cyc_ms_")) c.args.input.now c.value.new.input c.in_ok-methods.methods x.methods (properties_tokens x ++ (sequence_tokens x ++ (mapping_tokens x ++ (end_tokens ++ rest))))
    c.in_ok-methods.ensures.some (c.in_ok-methods.ensures.every x.methods (properties_tokens x ++ (sequence_tokens x ++ (mapping_tokens x ++ (end_tokens ++ rest)))) form.0 set.methods at) at in
    let l = next_one IsMember (member_tokens (assigned (codes "tp_getset")) (codes "cyc_gs_")) c.value.new.input c.value-2.new.input c.in_ok-properties.properties x.properties (sequence_tokens x ++ (mapping_tokens x ++ (end_tokens ++ rest)))
    c.in_ok-properties.ensures.some (c.in_ok-properties.ensures.every x.properties (sequence_tokens x ++ (mapping_tokens x ++ (end_tokens ++ rest))) form.1 set.properties k.left) k.left in
    absurd (cc (c.in_err-sequence.ensures.every x.sequence (mapping_tokens x ++ (end_tokens ++ rest)) form.2 set.sequence l.left))

pub returns-in_err-mapping-clause-every : goal.returns-in_err-mapping-clause-every
returns-in_err-mapping-clause-every c = λ x rest form e.
    let set = tables_set x rest in
    let at = e ∙ set.nested in
    let k = next_one IsMember (member_tokens (assigned (codes "tp_methods")) (codes "cyc_ms_")) c.args.input.now c.value.new.input c.in_ok-methods.methods x.methods (properties_tokens x ++ (sequence_tokens x ++ (mapping_tokens x ++ (end_tokens ++ rest))))
    c.in_ok-methods.ensures.some (c.in_ok-methods.ensures.every x.methods (properties_tokens x ++ (sequence_tokens x ++ (mapping_tokens x ++ (end_tokens ++ rest)))) form.0 set.methods at) at in
    let l = next_one IsMember (member_tokens (assigned (codes "tp_getset")) (codes "cyc_gs_")) c.value.new.input c.value-2.new.input c.in_ok-properties.properties x.properties (sequence_tokens x ++ (mapping_tokens x ++ (end_tokens ++ rest)))
    c.in_ok-properties.ensures.some (c.in_ok-properties.ensures.every x.properties (sequence_tokens x ++ (mapping_tokens x ++ (end_tokens ++ rest))) form.1 set.properties k.left) k.left in
    let m = next_one IsMember (member_tokens (assigned_address (codes "tp_as_sequence")) (codes "cyc_sq_")) c.value-2.new.input c.address.new.input c.in_ok-sequence.sequence x.sequence (mapping_tokens x ++ (end_tokens ++ rest))
    c.in_ok-sequence.ensures.some (c.in_ok-sequence.ensures.every x.sequence (mapping_tokens x ++ (end_tokens ++ rest)) form.2 set.sequence l.left) l.left in
    absurd (cc (c.in_err-mapping.ensures.every x.mapping (end_tokens ++ rest) form.3 set.mapping m.left))
