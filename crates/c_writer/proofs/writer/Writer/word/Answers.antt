use Rattle.std.proofs.Common.{◌≡◌, ◌++◌, ◌∷◌, [], ◌∙◌, ap, append_assoc}
use Rattle.c_token.specs.CTokens.{Word, c_tokens}
use Rattle.c_writer.proofs.Names.{name_rests, name_written}
use Rattle.c_writer.proofs.writer.Writer.word.Goals as goal

pub invariant_of-result : goal.invariant_of-result
invariant_of-result c =
    let e : c.extend_from_slice-2.new.self.items ≡ c.in_ok-text.text.items ++ (c.args.letters.now ++ c.args.more.now) =
    c.in_ok-extend_from_slice-2.ensures.items ∙ (ap (λ t. t ++ c.args.more.now) c.in_ok-extend_from_slice.ensures.items ∙ append_assoc c.in_ok-text.text.items c.args.letters.now (c.args.more.now)) in
    rw e (name_rests _ _ c.in_ok-text.ensures.rests c.args.letters.now (c.args.more.now) c.requires.letters (c.requires.more) c.in_ok-text.ensures.apart)

pub returns : goal.returns
returns c =
    let e : c.extend_from_slice-2.new.self.items ≡ c.in_ok-text.text.items ++ (c.args.letters.now ++ c.args.more.now) =
    c.in_ok-extend_from_slice-2.ensures.items ∙ (ap (λ t. t ++ c.args.more.now) c.in_ok-extend_from_slice.ensures.items ∙ append_assoc c.in_ok-text.text.items c.args.letters.now (c.args.more.now)) in
    ap c_tokens e ∙ (name_written _ _ c.in_ok-text.ensures.rests c.args.letters.now (c.args.more.now) c.requires.letters (c.requires.more) c.in_ok-text.ensures.apart
    ∙ ap (λ t. t ++ Word (c.args.letters.now ++ c.args.more.now) ∷ []) (c.in_ok-text.ensures.same ∙ c.self.view_is))
