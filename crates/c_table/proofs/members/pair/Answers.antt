use Rattle.std.proofs.Common.{◌≡◌, ◌++◌, List, Some, ℕ, ap, sym, ◌∙◌}
use Rattle.std.specs.Prelude.{◌≢◌, None, Option}
use Rattle.c_token.specs.CTokens.{CToken}
use Rattle.c_tree.specs.declared.name.Numbered.{Numbered}
use Rattle.c_tree.specs.Forms.{AreMembers, IsMember}
use Rattle.c_table.specs.Parts.{assigned, dotted, end_tokens, member_tokens, pair_tokens}
use Rattle.c_table.proofs.Steps.{next_one}
use Rattle.c_table.proofs.members.pair.Goals as goal

-- what stands behind a first member begins with no dot
no_dot : (name others first : List ℕ) (b : Option Numbered) (rest r : List CToken) → (member_tokens (assigned name) others b ++ end_tokens) ++ rest ≡ dotted first ++ r → ⊥
no_dot name others first None rest r e = cc
no_dot name others first (Some n) rest r e = cc

other_name : (name others first : List ℕ) (b : Numbered) (rest r : List CToken) → (member_tokens (dotted name) others (Some b) ++ end_tokens) ++ rest ≡ dotted first ++ r → first ≡ name
other_name name others first b rest r e = cc

pub returns-in_err-one-clause-every : goal.returns-in_err-one-clause-every
returns-in_err-one-clause-every c = λ differ x rest form e. absurd (go differ x.0 x.1 rest form e)
  where
    go : c.args.first.name.now ≢ c.args.second.name.now → (a b : Option Numbered) (rest : List CToken) → AreMembers a b
        → c.args.input.now ≡ pair_tokens c.args.first.name.now c.args.first.letters.now c.args.second.name.now c.args.second.letters.now a b ++ rest → ⊥
    go differ None None rest form e = absurd form
    go differ None (Some b) rest form e =
        cc (c.in_err-one.ensures.every None ((member_tokens (dotted c.args.second.name.now) c.args.second.letters.now (Some b) ++ end_tokens) ++ rest) tt
        (λ r z. differ (other_name c.args.second.name.now c.args.second.letters.now c.args.first.name.now b rest r z)) e)
    go differ (Some n) b rest form e =
        cc (c.in_err-one.ensures.every (Some n) ((member_tokens (assigned c.args.second.name.now) c.args.second.letters.now b ++ end_tokens) ++ rest) form.0
        (λ r z. no_dot c.args.second.name.now c.args.second.letters.now c.args.first.name.now b rest r z) e)

pub returns-in_err-two-in-None-clause-every : goal.returns-in_err-two-in-None-clause-every
returns-in_err-two-in-None-clause-every c = λ differ x rest form e. absurd (go differ x.0 x.1 rest form e)
  where
    go : c.args.first.name.now ≢ c.args.second.name.now → (a b : Option Numbered) (rest : List CToken) → AreMembers a b
        → c.args.input.now ≡ pair_tokens c.args.first.name.now c.args.first.letters.now c.args.second.name.now c.args.second.letters.now a b ++ rest → ⊥
    go differ None None rest form e = absurd form
    go differ None (Some b) rest form e =
        let same : c.args.input.now ≡ c.member.new.input = c.in_ok-one.ensures.some.1 ∙ ap (λ m. member_tokens (dotted c.args.first.name.now) c.args.first.letters.now m ++ c.member.new.input) c.in-None.is in
        cc (c.in_err-two-in-None.ensures.every b rest form.1 (sym same ∙ e))
    go differ (Some n) b rest form e =
        let found = c.in_ok-one.ensures.every (Some n) ((member_tokens (assigned c.args.second.name.now) c.args.second.letters.now b ++ end_tokens) ++ rest) form.0
        (λ r z. no_dot c.args.second.name.now c.args.second.letters.now c.args.first.name.now b rest r z) e in
        cc (found, c.in-None.is)

pub returns-in_ok-two-in-Some-clause-every : goal.returns-in_ok-two-in-Some-clause-every
returns-in_ok-two-in-Some-clause-every c = λ differ x rest form e. go differ x.0 x.1 rest form e
  where
    go : c.args.first.name.now ≢ c.args.second.name.now → (a b : Option Numbered) (rest : List CToken) → AreMembers a b
        → c.args.input.now ≡ pair_tokens c.args.first.name.now c.args.first.letters.now c.args.second.name.now c.args.second.letters.now a b ++ rest
        → ◌≡◌ {A = Option (Option Numbered × Option Numbered)} (Some (Some c.in-Some.class, c.in_ok-two-in-Some.two)) (Some (a, b))
    go differ None None rest form e = absurd form
    go differ None (Some b) rest form e =
        let found = c.in_ok-one.ensures.every None ((member_tokens (dotted c.args.second.name.now) c.args.second.letters.now (Some b) ++ end_tokens) ++ rest) tt
        (λ r z. differ (other_name c.args.second.name.now c.args.second.letters.now c.args.first.name.now b rest r z)) e in
        cc (found, c.in-Some.is)
    go differ (Some n) b rest form e =
        let tail : List CToken = (member_tokens (assigned c.args.second.name.now) c.args.second.letters.now b ++ end_tokens) ++ rest in
        let found = c.in_ok-one.ensures.every (Some n) tail form.0 (λ r z. no_dot c.args.second.name.now c.args.second.letters.now c.args.first.name.now b rest r z) e in
        let k = next_one IsMember (member_tokens (dotted c.args.first.name.now) c.args.first.letters.now) c.args.input.now c.member.new.input c.in_ok-one.one (Some n) tail c.in_ok-one.ensures.some found e in
        let two = c.in_ok-two-in-Some.ensures.every b rest form.1 k.left in
        cc (k.same, two, c.in-Some.is)
