use Rattle.std.proofs.Common.{◌≡◌, ◌++◌, ◌∷◌, [], ℕ, List, Some, sym, subst, ◌∙◌}
use Rattle.std.specs.Prelude.{Option}
use Rattle.c_token.specs.CTokens.{CToken}
use Rattle.c_tree.specs.declared.statement.Argument.{Argument}
use Rattle.c_tree.specs.declared.statement.Argument.TheVariants as argument
use Rattle.c_tree.specs.Forms.{IsArgument, IsString}
use Rattle.c_tree.specs.Statements.{argument_spelling}
use Rattle.c_tree.specs.Values.{string}
use Rattle.c_input.specs.Reads.{Reads}
use Rattle.c_operand.proofs.Opens.{value_no_string}
use Rattle.c_operand.proofs.calls.argument.Goals as goal

pub returns-in-Some-clause-every : goal.returns-in-Some-clause-every
returns-in-Some-clause-every c = λ a rest form apart e. go a rest form e
  where
    found : Reads IsString (λ bytes. string bytes ∷ []) c.args.input.now (Some c.in-Some.bytes) c.string.new.self
    found = subst (λ (r : Option (List ℕ)). Reads IsString (λ bytes. string bytes ∷ []) c.args.input.now r c.string.new.self) c.in-Some.is c.in_ok-bytes.ensures.some

    go : (a : Argument) (rest : List CToken) → IsArgument a → c.args.input.now ≡ argument_spelling a ++ rest → Some (argument.Str c.in-Some.bytes) ≡ Some a
    go (argument.Str bytes) rest form e = let same : Some c.in-Some.bytes ≡ Some bytes = sym c.in-Some.is ∙ c.in_ok-bytes.ensures.every bytes rest form e in cc
    go (argument.Value k) rest form e = absurd (value_no_string k rest c.args.input.now c.string.new.self _ form e found.1)
