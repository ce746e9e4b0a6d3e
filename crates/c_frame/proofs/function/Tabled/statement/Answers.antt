use Rattle.std.proofs.Common.{◌≡◌, ℕ, ◌+◌, List, Some, sym, ap, subst, ◌∙◌, slice_get}
use Rattle.std.specs.Option.{option_copied}
use Rattle.std.specs.Prelude.{MatchOption}
use Rattle.c_tree.specs.declared.item.CFunction.{CFunction}
use Rattle.c_tree.specs.declared.item.Line.{Line}
use Rattle.c_tree.specs.declared.item.Line.TheVariants as line
use Rattle.c_frame.specs.Lines.{NoStatement, statements_from}
use Rattle.c_frame.proofs.Following.{table-end, found-after}
use Rattle.c_frame.proofs.function.Tabled.statement.Goals as goal

pub returns-in-None : goal.returns-in-None
returns-in-None c =
    let table = c.as_slice.ensures.value ∙ c.self.invariant.1 ∙ ap (λ (f : CFunction). statements_from 0 f.lines) c.self.view_is in
    table-end 0 c.args.self.now.lines c.args.from (sym (c.at.ensures ∙ ap (λ (xs : List ℕ). slice_get xs c.args.from) table) ∙ ap option_copied c.in-None.is)

pub returns-in-Some : goal.returns-in-Some
returns-in-Some c =
    let lines = c.args.self.now.lines in
    let table = c.as_slice.ensures.value ∙ c.self.invariant.1 ∙ ap (λ (f : CFunction). statements_from 0 f.lines) c.self.view_is in
    let seen = c.as_slice-in-Some.ensures ∙ ap (λ (f : CFunction). f.lines) c.self.view_is in
    found-after lines c.args.from c.in-Some.here.now c.statement_at.result
    (sym (c.at.ensures ∙ ap (λ (xs : List ℕ). slice_get xs c.args.from) table) ∙ ap option_copied c.in-Some.is)
    (subst (λ (ls : List Line). MatchOption c.statement_at.result (NoStatement (slice_get ls c.in-Some.here.now))
    (λ f. (slice_get ls c.in-Some.here.now ≡ Some (line.Statement f.statement.now)) × (f.after ≡ c.in-Some.here.now + 1))) seen c.statement_at.ensures)
