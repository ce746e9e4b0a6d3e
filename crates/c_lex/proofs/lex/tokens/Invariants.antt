use Rattle.std.proofs.Common.{◌≡◌, ◌≤◌, ◌++◌, drop}
use Rattle.c_token.specs.CTokens.{c_tokens, tokens_from}
use Rattle.c_cut.specs.Shown.{item_shown}
use Rattle.c_lex.specs.Shown.{mode_shown, start_of}
use Rattle.c_lex.proofs.lex.tokens.Given as goal

-- the tokens so far, and those of the rest
abbrev pub invariant-loop-at : goal.invariant-loop-at
invariant-loop-at l = record {
  same : c_tokens l.bytes ≡ item_shown l.found.items ++ tokens_from (mode_shown l.bytes l.at l.mode) (drop l.at l.bytes);
  begun : start_of l.mode ≤ l.at;
}
