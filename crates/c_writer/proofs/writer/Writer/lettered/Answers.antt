use Rattle.std.proofs.Common.{◌≡◌, ◌++◌, ◌∷◌, [], ◌∙◌, ap, append_assoc, decimal, arith}
use Rattle.c_token.specs.CTokens.{Word, c_tokens}
use Rattle.c_token.proofs.Tokens.{decimal_name}
use Rattle.c_writer.proofs.Names.{name_rests, name_written}
use Rattle.c_writer.proofs.writer.Writer.lettered.Goals as goal

pub invariant_of-result : goal.invariant_of-result
invariant_of-result c =
    let e : c.put_number.new.text.items ≡ c.in_ok-text.text.items ++ (c.args.letters.now ++ decimal c.args.number) =
    c.in_ok-put_number.ensures ∙ (ap (λ t. t ++ decimal c.args.number) c.in_ok-extend_from_slice.ensures.items ∙ append_assoc c.in_ok-text.text.items c.args.letters.now (decimal c.args.number)) in
    rw e (name_rests _ _ c.in_ok-text.ensures.rests c.args.letters.now (decimal c.args.number) c.requires (decimal_name c.args.number (omega (arith, c.ranges.number.fits))) c.in_ok-text.ensures.apart)

pub returns : goal.returns
returns c =
    let e : c.put_number.new.text.items ≡ c.in_ok-text.text.items ++ (c.args.letters.now ++ decimal c.args.number) =
    c.in_ok-put_number.ensures ∙ (ap (λ t. t ++ decimal c.args.number) c.in_ok-extend_from_slice.ensures.items ∙ append_assoc c.in_ok-text.text.items c.args.letters.now (decimal c.args.number)) in
    ap c_tokens e ∙ (name_written _ _ c.in_ok-text.ensures.rests c.args.letters.now (decimal c.args.number) c.requires (decimal_name c.args.number (omega (arith, c.ranges.number.fits))) c.in_ok-text.ensures.apart
    ∙ ap (λ t. t ++ Word (c.args.letters.now ++ decimal c.args.number) ∷ []) (c.in_ok-text.ensures.same ∙ c.self.view_is))
