-- `blurs::light_blur` meets its contract: what is not refused fits the grid, scratch gets the list, and the list is written from scratch alone.
-- Assumes nothing.
use mathlib.Core.Path.{refl, sym, ◌∙◌}
use native.Mathlib.Nat.{mul-one}
use Rattle.names.specs.AnswersLaws.{told_on}
use Rattle.blurs.specs.BlursLaws.{light_blur_fitting, light_refused, light_blurred}
use Rattle.blurs.proofs.light_blur.Goals as goal

pub returns-in_err-judge_light : goal.returns-in_err-judge_light
returns-in_err-judge_light c =
    let h = told_on _ _ _ c.from_residual.ensures c.in_err-judge_light.ensures in
    light_refused _ _ _ _ h.number h.refused

pub copy-requires : goal.copy-requires
copy-requires c =
    let f = light_blur_fitting _ _ _ (sym c.in_ok-judge_light.ensures) in
    f.scratch_fits ∙ sym f.list_fits

pub square-requires : goal.square-requires
square-requires c =
    let f = light_blur_fitting _ _ _ (sym c.in_ok-judge_light.ensures) in
    let a = f.axes_within in
    (a.width, a.height, rw c.copy.ensures (sym (f.list_fits ∙ mul-one _)), rw c.copy.ensures refl)

pub returns : goal.returns
returns c = light_blurred _ _ _ _ _ c.in_ok-judge_light.ensures c.copy.ensures c.square.ensures
