use Rattle.std.proofs.Common.{◌≡◌, ◌++◌, ◌∷◌, [], ◌∙◌, ap, append_assoc}
use Rattle.std.specs.List.{flat_map}
use Rattle.c_token.specs.CTokens.{Str, c_tokens}
use Rattle.c_token.specs.Spelled.{quoted_byte}
use Rattle.c_writer.proofs.Splits.{string_rests, string_written}
use Rattle.c_writer.proofs.writer.Writer.string.Goals as goal

pub invariant_of-result : goal.invariant_of-result
invariant_of-result c =
    let q = flat_map quoted_byte c.args.bytes.now in
    let e : c.push-2.new.self.items ≡ c.self.inside.text.items ++ 34 ∷ (q ++ 34 ∷ []) =
    c.in_ok-push-2.ensures.items ∙ (ap (λ t. t ++ 34 ∷ []) (c.in_ok-put_quoted.ensures ∙ ap (λ t. t ++ q) c.in_ok-push.ensures.items) ∙ simp append_assoc) in
    rw e (string_rests _ _ c.self.invariant c.args.bytes.now)

pub returns : goal.returns
returns c =
    let q = flat_map quoted_byte c.args.bytes.now in
    let e : c.push-2.new.self.items ≡ c.self.inside.text.items ++ 34 ∷ (q ++ 34 ∷ []) =
    c.in_ok-push-2.ensures.items ∙ (ap (λ t. t ++ 34 ∷ []) (c.in_ok-put_quoted.ensures ∙ ap (λ t. t ++ q) c.in_ok-push.ensures.items) ∙ simp append_assoc) in
    ap c_tokens e ∙ (string_written _ _ c.self.invariant c.args.bytes.now ∙ ap (λ t. t ++ Str q ∷ []) c.self.view_is)
