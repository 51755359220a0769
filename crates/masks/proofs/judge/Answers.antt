-- `masks::judge` tests the rows in their order, and each return is the first that holds. Assumes nothing.
use mathlib.Core.Path.{sym, ◌∙◌}
use Rattle.names.specs.Refusals.{refusals, row_holds, row_passed, rows_passed}
use Rattle.limits.specs.LimitsLaws.{axes_row}
use Rattle.masks.specs.Masks.{masks_refusal}
use Rattle.masks.proofs.judge.Goals as goal

pub returns-then-bad_axes : goal.returns-then-bad_axes
unfolding masks_refusal
returns-then-bad_axes c = search (refusals, ← c.bad_axes.ensures) depth 8

pub bad_grid-requires : goal.bad_grid-requires
bad_grid-requires c = (axes_row _).0 (sym c.bad_axes.ensures ∙ c.if-bad_axes.false)

pub returns-then-bad_grid : goal.returns-then-bad_grid
unfolding masks_refusal
returns-then-bad_grid c = search (refusals, ← c.bad_axes.ensures, ← c.bad_grid.ensures) depth 10

pub wrong_masks-requires : goal.wrong_masks-requires
wrong_masks-requires c = (axes_row _).0 (sym c.bad_axes.ensures ∙ c.if-bad_axes.false)

pub returns-then-wrong_masks : goal.returns-then-wrong_masks
unfolding masks_refusal
returns-then-wrong_masks c = search (refusals, ← c.bad_axes.ensures, ← c.bad_grid.ensures, ← c.wrong_masks.ensures) depth 12

pub returns-then-too_many : goal.returns-then-too_many
unfolding masks_refusal
returns-then-too_many c =
    row_passed _ _ _ _ (sym c.bad_axes.ensures ∙ c.if-bad_axes.false)
    (row_passed _ _ _ _ (sym c.bad_grid.ensures ∙ c.if-bad_grid.false)
    (row_passed _ _ _ _ (sym c.wrong_masks.ensures ∙ c.if-wrong_masks.false)
    (row_holds _ _ _ (sym c.too_many.ensures ∙ c.if-too_many.true))))

pub returns-then-bad_points : goal.returns-then-bad_points
unfolding masks_refusal
returns-then-bad_points c =
    row_passed _ _ _ _ (sym c.bad_axes.ensures ∙ c.if-bad_axes.false)
    (row_passed _ _ _ _ (sym c.bad_grid.ensures ∙ c.if-bad_grid.false)
    (row_passed _ _ _ _ (sym c.wrong_masks.ensures ∙ c.if-wrong_masks.false)
    (row_passed _ _ _ _ (sym c.too_many.ensures ∙ c.if-too_many.false)
    (row_holds _ _ _ (sym c.bad_points.ensures ∙ c.if-bad_points.true)))))

pub returns : goal.returns
unfolding masks_refusal
returns c =
    row_passed _ _ _ _ (sym c.bad_axes.ensures ∙ c.if-bad_axes.false)
    (row_passed _ _ _ _ (sym c.bad_grid.ensures ∙ c.if-bad_grid.false)
    (row_passed _ _ _ _ (sym c.wrong_masks.ensures ∙ c.if-wrong_masks.false)
    (row_passed _ _ _ _ (sym c.too_many.ensures ∙ c.if-too_many.false)
    (row_passed _ _ _ _ (sym c.bad_points.ensures ∙ c.if-bad_points.false)
    (rows_passed)))))
