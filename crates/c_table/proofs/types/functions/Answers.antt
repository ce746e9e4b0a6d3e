use Rattle.std.proofs.Common.{◌++◌, Some, ◌∙◌}
use Rattle.std.specs.Prelude.{codes}
use Rattle.c_tree.specs.Forms.{IsMember}
use Rattle.c_table.specs.Parts.{assigned, assigned_address, member_tokens}
use Rattle.c_table.proofs.Lacking.{functions_laid, dealloc_tokens, init_tokens, new_tokens}
use Rattle.c_table.proofs.Steps.{next_one, some_same}
use Rattle.c_table.proofs.types.functions.Goals as goal

pub returns-in_err-dealloc-clause-every : goal.returns-in_err-dealloc-clause-every
returns-in_err-dealloc-clause-every c = λ f rest form lb ln li ld e.
    let laid = functions_laid f rest lb ln li in
    let at = e ∙ laid.nested in
    let k = next_one IsMember (member_tokens (assigned_address (codes "tp_base")) (codes "cyc_ty_")) c.args.input.now c.address.new.input c.in_ok-base.base f.base (new_tokens f ++ (init_tokens f ++ (dealloc_tokens f ++ rest)))
    c.in_ok-base.ensures.some (c.in_ok-base.ensures.every f.base (new_tokens f ++ (init_tokens f ++ (dealloc_tokens f ++ rest))) form.0 laid.base at) at in
    let l = next_one IsMember (member_tokens (assigned (codes "tp_new")) (codes "cyc_new_")) c.address.new.input c.value.new.input c.in_ok-new.new f.new (init_tokens f ++ (dealloc_tokens f ++ rest))
    c.in_ok-new.ensures.some (c.in_ok-new.ensures.every f.new (init_tokens f ++ (dealloc_tokens f ++ rest)) form.1 laid.new k.left) k.left in
    let m = next_one IsMember (member_tokens (assigned (codes "tp_init")) (codes "cyc_init_")) c.value.new.input c.value-2.new.input c.in_ok-init.init f.init (dealloc_tokens f ++ rest)
    c.in_ok-init.ensures.some (c.in_ok-init.ensures.every f.init (dealloc_tokens f ++ rest) form.2 laid.init l.left) l.left in
    absurd (cc (c.in_err-dealloc.ensures.every f.dealloc rest form.3 ld m.left))

pub returns-clause-every : goal.returns-clause-every
returns-clause-every c = λ f rest form lb ln li ld e.
    let laid = functions_laid f rest lb ln li in
    let at = e ∙ laid.nested in
    let k = next_one IsMember (member_tokens (assigned_address (codes "tp_base")) (codes "cyc_ty_")) c.args.input.now c.address.new.input c.in_ok-base.base f.base (new_tokens f ++ (init_tokens f ++ (dealloc_tokens f ++ rest)))
    c.in_ok-base.ensures.some (c.in_ok-base.ensures.every f.base (new_tokens f ++ (init_tokens f ++ (dealloc_tokens f ++ rest))) form.0 laid.base at) at in
    let l = next_one IsMember (member_tokens (assigned (codes "tp_new")) (codes "cyc_new_")) c.address.new.input c.value.new.input c.in_ok-new.new f.new (init_tokens f ++ (dealloc_tokens f ++ rest))
    c.in_ok-new.ensures.some (c.in_ok-new.ensures.every f.new (init_tokens f ++ (dealloc_tokens f ++ rest)) form.1 laid.new k.left) k.left in
    let m = next_one IsMember (member_tokens (assigned (codes "tp_init")) (codes "cyc_init_")) c.value.new.input c.value-2.new.input c.in_ok-init.init f.init (dealloc_tokens f ++ rest)
    c.in_ok-init.ensures.some (c.in_ok-init.ensures.every f.init (dealloc_tokens f ++ rest) form.2 laid.init l.left) l.left in
    let d = some_same _ _ (c.in_ok-dealloc.ensures.every f.dealloc rest form.3 ld m.left) in
    λ i. Some (record { base = k.same i; new = l.same i; init = m.same i; dealloc = d i })
