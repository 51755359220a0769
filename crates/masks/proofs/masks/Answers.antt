-- `masks::masks` meets its contract: what is not refused fits the grid, and both masks and both counts are their definitions. Assumes nothing.
use borrow.Author.Rules.{rules}
use native.Mathlib.Omega.{arith}
use mathlib.Core.Path.{refl, sym, ◌∙◌}
use Rattle.std.proofs.lemmas.Result.{err_from_is_err_and}
use Rattle.names.specs.AnswersLaws.{number_nonzero}
use Rattle.grid.specs.GridLaws.{voxels_most}
use Rattle.masks.specs.MasksLaws.{masks_fitting, masks_refused, masks_filled}
use Rattle.masks.proofs.masks.Goals as goal

pub returns-in_err-judge : goal.returns-in_err-judge
returns-in_err-judge c =
    let p = err_from_is_err_and c.from_residual.result c.from_residual.ensures.1 in
    rw (p.1, p.2) (masks_refused _ _ _ _ _ _ c.in_err-judge.ensures (number_nonzero _))

pub occupy-requires : goal.occupy-requires
occupy-requires c =
    let f = masks_fitting _ _ _ _ _ (sym c.in_ok-judge.ensures) in
    (f.axes_within, f.occupied_fits)

pub dilate-requires : goal.dilate-requires
dilate-requires c =
    let f = masks_fitting _ _ _ _ _ (sym c.in_ok-judge.ensures) in
    let t = c.occupy.ensures.tidy in
    (f.axes_within.width, f.axes_within.height, f.axes_within.depth, t, f.active_fits ∙ sym t.long, omega (arith, voxels_most _ f.axes_within))

pub voxel_count-n-requires : goal.voxel_count-n-requires
voxel_count-n-requires c = (masks_fitting _ _ _ _ _ (sym c.in_ok-judge.ensures)).axes_within

pub returns : goal.returns
returns c =
    let n = c.voxel_count-n.ensures in
    masks_filled _ _ _ _ _ _ _ _ _ c.in_ok-judge.ensures
    (search rules)
    c.occupy.ensures
    (search rules)
    c.dilate.ensures
    (c.count.ensures ∙ rw n refl)
    (c.count-2.ensures ∙ rw n refl)
