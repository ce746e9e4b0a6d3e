use Rattle.std.proofs.Common.{◌≡◌, ℕ, ◌+◌, List, Some, sym, ap, subst, ◌∙◌, slice_get}
use Rattle.thin_state.specs.declared.tree.CItem.{CItem}
use Rattle.thin_state.specs.declared.tree.Line.{Line}
use Rattle.std.specs.Option.{option_copied}
use Rattle.std.specs.Prelude.{MatchOption}
use Rattle.thin_state.specs.declared.tree.Line.TheVariants as line
use Rattle.thin_tables.specs.Lines.{NoStatement, lines_of, statements_from}
use Rattle.thin_tables.proofs.Tables.{table-end, found-after}
use Rattle.thin_tables.proofs.item.LinkedItem.statement.Goals as goal

pub returns-in-None : goal.returns-in-None
returns-in-None c =
    let table = c.as_slice.ensures.value ∙ c.self.invariant.1 ∙ ap (λ (i : CItem). statements_from 0 (lines_of i)) c.self.view_is in
    table-end 0 (lines_of c.args.self.now) c.args.from (sym (c.at.ensures ∙ ap (λ (xs : List ℕ). slice_get xs c.args.from) table) ∙ ap option_copied c.in-None.is)

pub returns-in-Some : goal.returns-in-Some
returns-in-Some c =
    let lines = lines_of c.args.self.now in
    let table = c.as_slice.ensures.value ∙ c.self.invariant.1 ∙ ap (λ (i : CItem). statements_from 0 (lines_of i)) c.self.view_is in
    let seen = c.lines_of.ensures ∙ ap lines_of c.self.view_is in
    found-after lines c.args.from c.in-Some.here.now c.statement_at.result
    (sym (c.at.ensures ∙ ap (λ (xs : List ℕ). slice_get xs c.args.from) table) ∙ ap option_copied c.in-Some.is)
    (subst (λ (ls : List Line). MatchOption c.statement_at.result (NoStatement (slice_get ls c.in-Some.here.now))
    (λ f. (slice_get ls c.in-Some.here.now ≡ Some (line.Statement f.statement.now)) × (f.after ≡ c.in-Some.here.now + 1))) seen c.statement_at.ensures)
