use Rattle.std.proofs.Common.{true, false, refl, sym, ◌∙◌}
use Rattle.c_word.proofs.KeywordRows.{keyword_rows}
use Rattle.c_word.proofs.keywords.is_keyword.Goals as goal

pub returns-then-is_in_first_row : goal.returns-then-is_in_first_row
returns-then-is_in_first_row c = sym (keyword_rows c.args.word.now true _ _ _ _ _ (sym c.is_in_first_row.ensures ∙ c.if-is_in_first_row.true) refl refl refl refl refl)

pub returns-then-is_in_second_row : goal.returns-then-is_in_second_row
returns-then-is_in_second_row c = sym (keyword_rows c.args.word.now false true _ _ _ _ (sym c.is_in_first_row.ensures ∙ c.if-is_in_first_row.false) (sym c.is_in_second_row.ensures ∙ c.if-is_in_second_row.true) refl refl refl refl)

pub returns-then-is_in_third_row : goal.returns-then-is_in_third_row
returns-then-is_in_third_row c = sym (keyword_rows c.args.word.now false false true _ _ _ (sym c.is_in_first_row.ensures ∙ c.if-is_in_first_row.false) (sym c.is_in_second_row.ensures ∙ c.if-is_in_second_row.false) (sym c.is_in_third_row.ensures ∙ c.if-is_in_third_row.true) refl refl refl)

pub returns-then-is_in_fourth_row : goal.returns-then-is_in_fourth_row
returns-then-is_in_fourth_row c = sym (keyword_rows c.args.word.now false false false true _ _ (sym c.is_in_first_row.ensures ∙ c.if-is_in_first_row.false) (sym c.is_in_second_row.ensures ∙ c.if-is_in_second_row.false) (sym c.is_in_third_row.ensures ∙ c.if-is_in_third_row.false) (sym c.is_in_fourth_row.ensures ∙ c.if-is_in_fourth_row.true) refl refl)

pub returns-then-is_in_fifth_row : goal.returns-then-is_in_fifth_row
returns-then-is_in_fifth_row c = sym (keyword_rows c.args.word.now false false false false true _ (sym c.is_in_first_row.ensures ∙ c.if-is_in_first_row.false) (sym c.is_in_second_row.ensures ∙ c.if-is_in_second_row.false) (sym c.is_in_third_row.ensures ∙ c.if-is_in_third_row.false) (sym c.is_in_fourth_row.ensures ∙ c.if-is_in_fourth_row.false) (sym c.is_in_fifth_row.ensures ∙ c.if-is_in_fifth_row.true) refl)

pub returns : goal.returns
returns c = sym (keyword_rows c.args.word.now false false false false false c.is_in_sixth_row.result (sym c.is_in_first_row.ensures ∙ c.if-is_in_first_row.false) (sym c.is_in_second_row.ensures ∙ c.if-is_in_second_row.false) (sym c.is_in_third_row.ensures ∙ c.if-is_in_third_row.false) (sym c.is_in_fourth_row.ensures ∙ c.if-is_in_fourth_row.false) (sym c.is_in_fifth_row.ensures ∙ c.if-is_in_fifth_row.false) (sym c.is_in_sixth_row.ensures))
