-- `blurs::coefficient_blur` meets its contract: what is not refused fits the grid, scratch gets the list, and the list is written from scratch alone.
-- Assumes nothing.
use mathlib.Core.Path.{refl, sym, ◌∙◌}
use Rattle.names.specs.AnswersLaws.{told_on}
use Rattle.blurs.specs.BlursLaws.{coefficient_blur_fitting, coefficients_refused, coefficients_blurred}
use Rattle.blurs.proofs.coefficient_blur.Goals as goal

pub returns-in_err-judge_coefficients : goal.returns-in_err-judge_coefficients
returns-in_err-judge_coefficients c =
    let h = told_on _ _ _ c.from_residual.ensures c.in_err-judge_coefficients.ensures in
    coefficients_refused _ _ _ _ h.number h.refused

pub copy-requires : goal.copy-requires
copy-requires c =
    let f = coefficient_blur_fitting _ _ _ (sym c.in_ok-judge_coefficients.ensures) in
    f.scratch_fits ∙ sym f.list_fits

pub mean-requires : goal.mean-requires
mean-requires c =
    let f = coefficient_blur_fitting _ _ _ (sym c.in_ok-judge_coefficients.ensures) in
    let a = f.axes_within in
    (a.width, a.height, rw c.copy.ensures (sym f.list_fits), rw c.copy.ensures refl)

pub returns : goal.returns
returns c = coefficients_blurred _ _ _ _ _ c.in_ok-judge_coefficients.ensures c.copy.ensures c.mean.ensures
