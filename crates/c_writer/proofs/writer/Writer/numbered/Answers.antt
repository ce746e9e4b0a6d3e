use Rattle.std.proofs.Common.{◌≡◌, ◌++◌, ◌∷◌, [], ◌∙◌, ap, append_assoc, arith}
use Rattle.c_token.specs.CTokens.{Word, c_tokens}
use Rattle.c_writer.specs.Rest.{two_numbers}
use Rattle.c_writer.proofs.Names.{two_words, name_rests, name_written}
use Rattle.c_writer.proofs.writer.Writer.numbered.Goals as goal

pub invariant_of-result : goal.invariant_of-result
invariant_of-result c =
    let e : c.put_two.new.text.items ≡ c.in_ok-text.text.items ++ (c.args.letters.now ++ two_numbers c.args.first c.args.second) =
    c.in_ok-put_two.ensures ∙ (ap (λ t. t ++ two_numbers c.args.first c.args.second) c.in_ok-extend_from_slice.ensures.items ∙ append_assoc c.in_ok-text.text.items c.args.letters.now (two_numbers c.args.first c.args.second)) in
    rw e (name_rests _ _ c.in_ok-text.ensures.rests c.args.letters.now (two_numbers c.args.first c.args.second) c.requires (two_words c.args.first c.args.second (omega (arith, c.ranges.first.fits)) (omega (arith, c.ranges.second.fits))) c.in_ok-text.ensures.apart)

pub returns : goal.returns
returns c =
    let e : c.put_two.new.text.items ≡ c.in_ok-text.text.items ++ (c.args.letters.now ++ two_numbers c.args.first c.args.second) =
    c.in_ok-put_two.ensures ∙ (ap (λ t. t ++ two_numbers c.args.first c.args.second) c.in_ok-extend_from_slice.ensures.items ∙ append_assoc c.in_ok-text.text.items c.args.letters.now (two_numbers c.args.first c.args.second)) in
    ap c_tokens e ∙ (name_written _ _ c.in_ok-text.ensures.rests c.args.letters.now (two_numbers c.args.first c.args.second) c.requires (two_words c.args.first c.args.second (omega (arith, c.ranges.first.fits)) (omega (arith, c.ranges.second.fits))) c.in_ok-text.ensures.apart
    ∙ ap (λ t. t ++ Word (c.args.letters.now ++ two_numbers c.args.first c.args.second) ∷ []) (c.in_ok-text.ensures.same ∙ c.self.view_is))
