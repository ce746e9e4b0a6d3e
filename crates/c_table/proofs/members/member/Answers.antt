use Rattle.std.proofs.Common.{◌≡◌, ◌∷◌, ◌++◌, [], List, Some, ap, sym, ◌∙◌}
use Rattle.std.specs.Prelude.{◌≢◌, None, Option}
use Rattle.c_token.specs.CTokens.{CToken, Word}
use Rattle.c_tree.specs.declared.name.Numbered.{Numbered}
use Rattle.c_tree.specs.Forms.{IsMember}
use Rattle.c_word.specs.Numbers.{two_numbers}
use Rattle.c_input.specs.Reads.{pieces_shown}
use Rattle.c_table.specs.Parts.{member_tokens}
use Rattle.c_input.proofs.Rows.{same_left}
use Rattle.c_table.proofs.Steps.{assoc}
use Rattle.c_table.proofs.members.member.Goals as goal

pub returns-in_err-class-clause-every : goal.returns-in_err-class-clause-every
returns-in_err-class-clause-every c = λ m rest form lacks e. absurd (go m rest form lacks e)
  where
    go : (m : Option Numbered) (rest : List CToken) → IsMember m → ((r : List CToken) → rest ≢ pieces_shown c.args.before.now ++ r)
        → c.args.input.now ≡ member_tokens (pieces_shown c.args.before.now) c.args.letters.now m ++ rest → ⊥
    go None rest form lacks e = lacks c.fixed.new.self (sym e ∙ c.if-not-fixed.ensures)
    go (Some n) rest form lacks e =
        let name : List CToken = Word (c.args.letters.now ++ two_numbers n.module n.index) ∷ [] in
        let left : c.fixed.new.self ≡ name ++ rest = same_left (pieces_shown c.args.before.now) c.fixed.new.self (name ++ rest) (sym c.if-not-fixed.ensures ∙ (e ∙ assoc (pieces_shown c.args.before.now) name rest)) in
        cc (c.in_err-class.ensures.every n rest form left)

pub returns-clause-every : goal.returns-clause-every
returns-clause-every c = λ m rest form lacks e. go m rest form lacks e
  where
    go : (m : Option Numbered) (rest : List CToken) → IsMember m → ((r : List CToken) → rest ≢ pieces_shown c.args.before.now ++ r)
        → c.args.input.now ≡ member_tokens (pieces_shown c.args.before.now) c.args.letters.now m ++ rest → Some (Some c.in_ok-class.class) ≡ Some m
    go None rest form lacks e = absurd (lacks c.fixed.new.self (sym e ∙ c.if-not-fixed.ensures))
    go (Some n) rest form lacks e =
        let name : List CToken = Word (c.args.letters.now ++ two_numbers n.module n.index) ∷ [] in
        let left : c.fixed.new.self ≡ name ++ rest = same_left (pieces_shown c.args.before.now) c.fixed.new.self (name ++ rest) (sym c.if-not-fixed.ensures ∙ (e ∙ assoc (pieces_shown c.args.before.now) name rest)) in
        ap Some (c.in_ok-class.ensures.every n rest form left)
