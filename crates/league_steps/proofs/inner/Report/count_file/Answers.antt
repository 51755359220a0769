-- A file that is counted has figures that the league has room for.
use mathlib.Core.Path.{refl, sym, ◌∙◌}
use borrow.Author.Tests.{eq-eqb, ne_eqb}
use Rattle.names.specs.AnswersLaws.{number_nonzero}
use Rattle.league_report.specs.FileLights.{no_lights}
use Rattle.league_report.specs.FileLightsLaws.{file_lights_refusal, file_lights_figures, file_lights_sized}
use Rattle.league_steps.proofs.inner.Report.count_file.Goals as goal

pub with_file-next-requires : goal.with_file-next-requires
with_file-next-requires g c =
    let sized = file_lights_sized _ _ c.in-Ok.ensures refl in (c.self.invariant, rw c.self.view_is c.requires, sized.0, sized.1)

pub returns-in_ok-print_line-in-Ok : goal.returns-in_ok-print_line-in-Ok
returns-in_ok-print_line-in-Ok g c =
    let none = file_lights_refusal _ _ c.in-Ok.ensures in
    let figures = file_lights_figures _ _ c.in-Ok.ensures refl in
    (sym (eq-eqb _ 0 (sym none)), c.with_file-next.ensures.0 ∙ rw (c.self.view_is, figures) refl)

pub returns-in_ok-print_refusal-in-Err : goal.returns-in_ok-print_refusal-in-Err
unfolding no_lights
returns-in_ok-print_refusal-in-Err g c =
    let some = file_lights_refusal _ _ c.in-Err.ensures in
    (sym (ne_eqb _ 0 (λ z. number_nonzero c.in-Err.refusal (some ∙ z))), refl)
