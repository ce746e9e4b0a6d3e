use Rattle.std.proofs.Common.{List, ℕ, ◌++◌, sym, ap, ◌∙◌, subst, Some, None}
use Rattle.std.proofs.lemmas.Bool.{false≢true}
use Rattle.std.proofs.lemmas.Bool.Decides.{Decides-eqb}
use Rattle.std.proofs.lemmas.List.{append_cancel_left}
use Rattle.std.proofs.lemmas.Slice.Eq.{strip_prefix_is}
use Rattle.thin_source.specs.Thin.{IsName}
use Rattle.thin_source.proofs.Names.{split_only}
use Rattle.thin_source.proofs.name_before.Goals as goal

pub returns-in_err-rest-clause-only : goal.returns-in_err-rest-clause-only
returns-in_err-rest-clause-only c =
    λ name rest named e.
    let s = split_only _ _ _ c.args.mark.now name rest c.split_name.ensures.whole c.split_name.ensures.run c.split_name.ensures.stops c.requires.some c.requires.stops named e in
    absurd (strip_prefix_is Decides-eqb c.split_name.result.1.now c.args.mark.now None c.in_err-rest.ensures.cases rest s.1)

pub returns-then-is_name-clause-found : goal.returns-then-is_name-clause-found
returns-then-is_name-clause-found c = (
  c.is_name.ensures.0 c.if-is_name.true,
  c.split_name.ensures.whole ∙ ap (λ (x : List ℕ). c.split_name.result.0.now ++ x) (strip_prefix_is Decides-eqb c.split_name.result.1.now c.args.mark.now (Some c.in_ok-rest.rest) c.in_ok-rest.ensures.cases),
)

pub returns-then-is_name-clause-only : goal.returns-then-is_name-clause-only
returns-then-is_name-clause-only c =
    λ name rest named e.
    let s = split_only _ _ _ c.args.mark.now name rest c.split_name.ensures.whole c.split_name.ensures.run c.split_name.ensures.stops c.requires.some c.requires.stops named e in
    (s.0, append_cancel_left c.args.mark.now c.in_ok-rest.rest.now rest (sym (strip_prefix_is Decides-eqb c.split_name.result.1.now c.args.mark.now (Some c.in_ok-rest.rest) c.in_ok-rest.ensures.cases) ∙ s.1))

pub returns-else-is_name-clause-only : goal.returns-else-is_name-clause-only
returns-else-is_name-clause-only c =
    λ name rest named e.
    let s = split_only _ _ _ c.args.mark.now name rest c.split_name.ensures.whole c.split_name.ensures.run c.split_name.ensures.stops c.requires.some c.requires.stops named e in
    false≢true (sym c.if-is_name.false ∙ c.is_name.ensures.1 (subst IsName (sym s.0) named))
