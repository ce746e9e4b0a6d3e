use Rattle.std.proofs.Common.{◌≡◌, ◌++◌, List, subst}
use Rattle.std.specs.Prelude.{OnOk}
use Rattle.cy_base.specs.declared.place.Refusal.{Refusal}
use Rattle.name_rules.proofs.ModuleRules.{module-is}
use Rattle.name_rules.proofs.module.judge_module.Goals as goal

pub returns : goal.returns
returns c =
    subst (λ (rs : List Refusal). OnOk c.judge_files.result (c.judge_files.new.out.items ≡ c.args.out.now.items ++ rs))
    (module-is c.args.known.now c.args.set.now (record { number = c.args.number; files = c.args.files.now }) c.in_ok-names.names c.items-items.result.now c.tops-tops.result.now
    c.in_ok-names.ensures c.items-items.ensures c.tops-tops.ensures)
    c.judge_files.ensures
