use Rattle.std.proofs.Common.{sym, ◌∙◌}
use Rattle.std.specs.Prelude.{Option}
use Rattle.c_tree.specs.declared.item.CHead.{CHead}
use Rattle.c_tree.specs.Forms.{IsHead}
use Rattle.c_tree.specs.Items.{head_spelling}
use Rattle.c_input.specs.Reads.{Finds}
use Rattle.c_function.specs.Heads.{named, IsInitializer}
use Rattle.c_function.proofs.HeadRows.{if_ok, initializer_every, initializer_finds, plain_every, static_every, static_finds}
use Rattle.c_function.proofs.heads.head.Goals as goal

pub returns-then-fixed-clause-some : goal.returns-then-fixed-clause-some
returns-then-fixed-clause-some c =
    if_ok c.initializer.result (λ (found : Option CHead). Finds IsInitializer named c.fixed.new.self found c.initializer.new.input)
    (λ (found : Option CHead). Finds IsHead head_spelling c.args.input.now found c.initializer.new.input)
    c.initializer.ensures.some (λ found h. initializer_finds c.args.input.now c.fixed.new.self c.initializer.new.input found c.if-fixed.ensures h)

pub returns-then-fixed-clause-every : goal.returns-then-fixed-clause-every
returns-then-fixed-clause-every c = if_ok _ _ _ c.initializer.ensures.every (λ found h. initializer_every c.args.input.now c.fixed.new.self found c.if-fixed.ensures h)

pub returns-then-fixed-2-clause-some : goal.returns-then-fixed-2-clause-some
returns-then-fixed-2-clause-some c = static_finds c.args.input.now c.fixed-2.new.self _ c.static_head.result (sym c.if-fixed.ensures.0 ∙ c.if-fixed-2.ensures) c.static_head.ensures.some

pub returns-then-fixed-2-clause-every : goal.returns-then-fixed-2-clause-every
returns-then-fixed-2-clause-every c = static_every c.args.input.now c.fixed-2.new.self c.static_head.result (sym c.if-fixed.ensures.0 ∙ c.if-fixed-2.ensures) c.static_head.ensures.every

pub returns-clause-every : goal.returns-clause-every
returns-clause-every c = if_ok _ _ _ c.plain_head.ensures.every (λ found h.
    plain_every c.args.input.now c.fixed-2.new.self found (c.if-fixed-2.ensures.0 ∙ c.if-fixed.ensures.0) c.if-fixed.ensures.1 (λ t e. c.if-fixed-2.ensures.1 t (c.if-fixed.ensures.0 ∙ e)) h)
