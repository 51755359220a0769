-- What the steps answer: the league of none and of one file more.
use mathlib.Core.Path.{◌≡◌, refl}
use mathlib.Core.List.{[]}
use Prim.Native.Nat.{◌+◌, ◌<◌, ◌≤◌}
use native.Mathlib.Omega.{arith}
use Rattle.names.specs.Numbers.{length_limit, files_limit}
use Rattle.light_figures.specs.declared.LightFigures.{LightFigures}
use Rattle.light_figures.specs.LightFigures.{figures_of, units_each, joined_figures, FiguresSized}
use Rattle.light_figures.specs.FiguresLaws.{joined_sized}
use Rattle.league_report.specs.declared.League.{League}
use Rattle.league_report.specs.Report.{all_lights, league_of, LeagueWithin, league_with}
use Rattle.league_report.specs.ReportLaws.{none, league_within}

pub league_begun : (t : LightFigures) → t ≡ figures_of [] → (record { files = 0; total = t } ≡ league_of []) × LeagueWithin (record { files = 0; total = t })
unfolding league_of all_lights units_each
league_begun t e = rw e (refl, league_within [] none (omega arith))

pub league_more : (g : League) (f t : LightFigures) → LeagueWithin g → g.files < files_limit → FiguresSized f → f.voxels ≤ length_limit → t ≡ joined_figures g.total f
    → (record { files = g.files + 1; total = t } ≡ league_with g f) × LeagueWithin (record { files = g.files + 1; total = t })
unfolding league_with joined_figures
league_more g f t w h s v e =
    let few = w.voxels in
    rw e (refl, record { files = omega arith; voxels = omega arith; sized = joined_sized g.total f w.sized s (omega arith) })
