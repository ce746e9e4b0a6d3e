use Rattle.std.proofs.Common.{◌≡◌, List, length}
use Rattle.std.specs.Prelude.{false}
use Rattle.c_token.specs.CTokens.{CToken}
use Rattle.c_tree.specs.Forms.{IsDeclaration}
use Rattle.c_tree.specs.Items.{declaration_spelling}
use Rattle.c_input.proofs.Lists.{IsRead}
use Rattle.c_function.specs.Parts.{is_declared}
use Rattle.c_function.proofs.declared.declarations.Given as goal

abbrev pub invariant-loop-input : goal.invariant-loop-input
invariant-loop-input l = IsRead IsDeclaration declaration_spelling (λ (rest : List CToken). is_declared rest ≡ false) l.fn.input l.all.items l.input

abbrev pub decreases-loop-input : goal.decreases-loop-input
decreases-loop-input l = length l.input
