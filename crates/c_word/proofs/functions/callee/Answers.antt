use Rattle.std.proofs.Common.{◌≡◌}
use Rattle.c_tree.specs.declared.name.FunctionName.{FunctionName}
use Rattle.c_tree.specs.Forms.{IsFunctionName}
use Rattle.c_tree.specs.Names.{function_name}
use Rattle.c_word.proofs.Callees.{function_every, plain_some, plain_every}
use Rattle.c_word.proofs.functions.callee.Goals as goal

pub returns-in-Some-clause-some : goal.returns-in-Some-clause-some
returns-in-Some-clause-some c = rw c.in-Some.is at c.in_ok-found.ensures.some

pub returns-in-Some-clause-every : goal.returns-in-Some-clause-every
returns-in-Some-clause-every c = function_every c.in-Some.found c.args.bytes.now (rw c.in-Some.is at c.in_ok-found.ensures.some)

pub returns-in-None-clause-some : goal.returns-in-None-clause-some
returns-in-None-clause-some c =
    let no : (f : FunctionName) → IsFunctionName f → function_name f ≡ c.args.bytes.now → ⊥ = λ f i d. cc (c.in_ok-found.ensures.every f i d) in
    plain_some c.args.bytes.now no _ c.plain.ensures

pub returns-in-None-clause-every : goal.returns-in-None-clause-every
returns-in-None-clause-every c =
    let no : (f : FunctionName) → IsFunctionName f → function_name f ≡ c.args.bytes.now → ⊥ = λ f i d. cc (c.in_ok-found.ensures.every f i d) in
    plain_every c.args.bytes.now no _ c.plain.ensures
