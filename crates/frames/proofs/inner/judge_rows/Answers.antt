-- `frames::inner::judge_rows` tests the rows in their order, and each return is the first that holds.
use mathlib.Core.Path.{sym, ◌∙◌}
use Rattle.names.specs.Refusals.{row_holds, row_passed, rows_passed}
use Rattle.limits.specs.LimitsLaws.{axes_row}
use Rattle.frames.proofs.inner.judge_rows.Goals as goal

pub returns-then-bad_axes : goal.returns-then-bad_axes
returns-then-bad_axes c = row_holds _ _ _ (sym c.bad_axes.ensures ∙ c.if-bad_axes.true)

pub bad_grid-requires : goal.bad_grid-requires
bad_grid-requires c = (axes_row _).0 (sym c.bad_axes.ensures ∙ c.if-bad_axes.false)

pub returns-then-bad_grid : goal.returns-then-bad_grid
returns-then-bad_grid c =
    row_passed _ _ _ _ (sym c.bad_axes.ensures ∙ c.if-bad_axes.false) (row_holds _ _ _ (sym c.bad_grid.ensures ∙ c.if-bad_grid.true))

pub wrong_lists-requires : goal.wrong_lists-requires
wrong_lists-requires c =
    ((axes_row _).0 (sym c.bad_axes.ensures ∙ c.if-bad_axes.false), c.requires.0, c.requires.1)

pub returns-then-wrong_lists : goal.returns-then-wrong_lists
returns-then-wrong_lists c =
    row_passed _ _ _ _ (sym c.bad_axes.ensures ∙ c.if-bad_axes.false) (row_passed _ _ _ _ (sym c.bad_grid.ensures ∙ c.if-bad_grid.false) (row_holds _ _ _ (sym c.wrong_lists.ensures ∙ c.if-wrong_lists.true)))

pub returns : goal.returns
returns c =
    row_passed _ _ _ _ (sym c.bad_axes.ensures ∙ c.if-bad_axes.false) (row_passed _ _ _ _ (sym c.bad_grid.ensures ∙ c.if-bad_grid.false) (row_passed _ _ _ _ (sym c.wrong_lists.ensures ∙ c.if-wrong_lists.false) rows_passed))
