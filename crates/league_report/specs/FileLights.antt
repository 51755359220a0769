-- What the league report takes of one volume file: the figures of its lights. "Refusals: 18, light outside 0..1, .. length .. above the limit; a bad file
-- gives 12". The length is judged first, since it stands before the file; then the file, then its lights. Assumes nothing.
use Rattle.std.specs.Prelude.{◌≡◌, List, [], ◌∷◌, ℕ, ltb, length, Result, Ok, Err}
use Rattle.names.specs.declared.refusal.Refusal.{Refusal}
use Rattle.names.specs.Answers.{number_of}
use Rattle.names.specs.Numbers.{length_limit}
use Rattle.names.specs.Refusals.{Row, row, first_of, unless_refused}
use Rattle.lists.specs.Some.{some}
use Rattle.volume_file.specs.VolumeFile.{light_at, faulty}
use Rattle.light_units.specs.Units.{light_outside}
use Rattle.light_figures.specs.declared.LightFigures.{LightFigures}
use Rattle.light_figures.specs.LightFigures.{figures_of, light_figures}
use Rattle.league_report.specs.declared.FileLights.{FileLights}

abbrev pub lights_rows : List ℕ → List Row
lights_rows s = row 18 (ltb length_limit (length s)) ∷ row 12 (faulty s) ∷ row 18 (some light_outside (light_at s)) ∷ []

unfoldable pub lights_refusal : List ℕ → ℕ
lights_refusal s = first_of (lights_rows s)

unfoldable pub no_lights : ℕ → FileLights
no_lights refusal = record { refusal = refusal; figures = figures_of [] }

-- an answer in one struct
abbrev pub lights_told : Result LightFigures Refusal → FileLights
lights_told (Ok f) = record { refusal = 0; figures = f }
lights_told (Err r) = no_lights (number_of r)

unfoldable pub lights_answer : List ℕ → FileLights
lights_answer s = record { refusal = 0; figures = light_figures (light_at s) }

pub record LightsOfFile (s : List ℕ) (r : FileLights) : Type 0 where
  pub answer : r ≡ unless_refused (lights_refusal s) (lights_answer s) (no_lights (lights_refusal s))
