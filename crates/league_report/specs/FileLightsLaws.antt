-- What the call's record says: two results are equal; a number is answered exactly when its row is the first that holds; and how large the figures of an accepted file are.
use Rattle.std.specs.Prelude.{◌≡◌, refl, Bool, true, false, cond, List, [], ◌∷◌, ℕ, zero, suc, ◌+◌, ◌*◌, ◌≤◌, eqb, length, Float}
use Rattle.std.proofs.Common.{sym, ap, ◌∙◌, arith, eqb-true, ltb-false}
use Rattle.names.specs.Numbers.{length_limit}
use Rattle.names.specs.Refusals.{unless_refused, RefusedBy, refused_by}
use Rattle.names.specs.Passed.{passed}
use Rattle.lists.specs.Fold.{length_tab}
use Rattle.lists.specs.Some.{some}
use Rattle.limits.specs.LimitsLaws.{either}
use Rattle.bytes_le.specs.Bytes.{f32_at}
use Rattle.contents.specs.Contents.{offset_at}
use Rattle.contents.specs.Laid.{Laid}
use Rattle.volume_file.specs.VolumeFile.{voxels_at, light_at}
use Rattle.volume_file.specs.VolumeFileLaws.{Accepted, accepted_row, accepted_laid}
use Rattle.light_units.specs.Units.{light_outside}
use Rattle.light_units.specs.UnitsLaws.{units_most}
use Rattle.light_figures.specs.LightFigures.{figures_of, units_each, light_figures, most_voxels, FiguresSized, AllUnits}
use Rattle.light_figures.specs.FiguresLaws.{figures_sized}
use Rattle.league_report.specs.declared.FileLights.{FileLights}
use Rattle.league_report.specs.FileLights.{lights_rows, lights_refusal, no_lights, lights_answer, LightsOfFile}

pub file_lights_one : (s : List ℕ) (r t : FileLights) → LightsOfFile s r → LightsOfFile s t → r ≡ t
file_lights_one s r t p q = p.answer ∙ sym q.answer

-- ---- what a refusal means

lights_carried : (s : List ℕ) (k : ℕ) → (unless_refused k (lights_answer s) (no_lights k)).refusal ≡ k
unfolding unless_refused lights_answer no_lights
lights_carried s k = by (eqb k 0) refl
  where
    by : (b : Bool) → eqb k 0 ≡ b → (cond b (lights_answer s) (no_lights k)).refusal ≡ k
    by true e = sym (eqb-true k 0 e)
    by false e = refl

pub file_lights_refusal : (s : List ℕ) (r : FileLights) → LightsOfFile s r → r.refusal ≡ lights_refusal s
file_lights_refusal s r p = ap (λ (x : FileLights). x.refusal) p.answer ∙ lights_carried s (lights_refusal s)

pub file_lights_refused_by : (s : List ℕ) (r : FileLights) → LightsOfFile s r → RefusedBy (lights_rows s) r.refusal
unfolding lights_refusal
file_lights_refused_by s r p = refused_by (lights_rows s) r.refusal (omega arith, (omega arith, (omega arith, tt))) (file_lights_refusal s r p)

-- ---- an accepted file

-- its lights are the figures' own
pub file_lights_figures : (s : List ℕ) (r : FileLights) → LightsOfFile s r → r.refusal ≡ 0 → r.figures ≡ light_figures (light_at s)
unfolding unless_refused lights_answer
file_lights_figures s r p e =
    let z : lights_refusal s ≡ 0 = sym (file_lights_refusal s r p) ∙ e in
    ap (λ (x : FileLights). x.figures) p.answer ∙ rw z refl

-- what is known where no row holds
pub record LightsFit (s : List ℕ) : Type 0 where
  pub short : length s ≤ length_limit
  pub accepted : Accepted s
  pub inside : some light_outside (light_at s) ≡ false

pub lights_fit : (s : List ℕ) → lights_refusal s ≡ 0 → LightsFit s
unfolding lights_refusal
lights_fit s e =
    let p = passed (lights_rows s) (omega arith, (omega arith, (omega arith, tt))) e in
    record { short = ltb-false length_limit (length s) p.0; accepted = (accepted_row s).0 p.1.0; inside = p.1.1.0 }

-- the units of lights that are inside
pub units_inside : (lights : List Float) → some light_outside lights ≡ false → AllUnits (units_each lights)
unfolding units_each some
units_inside [] e i h = absurd (omega arith)
units_inside (x ∷ lights) e zero h = units_most x ((either (light_outside x) (some light_outside lights)).0 e).0
units_inside (x ∷ lights) e (suc i) h = units_inside lights ((either (light_outside x) (some light_outside lights)).0 e).1 i (omega arith)

pub length_each : (lights : List Float) → length (units_each lights) ≡ length lights
unfolding units_each
length_each [] = refl
length_each (x ∷ lights) = ap suc (length_each lights)

pub lights_few : (s : List ℕ) → LightsFit s → length (light_at s) ≤ length_limit
lights_few s f =
    let d : Laid s (voxels_at s) = accepted_laid s f.accepted in
    rw (length_tab (λ i. f32_at s (offset_at s 0 + i * 4)) (voxels_at s) 0) (omega (arith, d.within, f.short))

pub lights_sized : (lights : List Float) → some light_outside lights ≡ false → length lights ≤ most_voxels → FiguresSized (light_figures lights)
lights_sized lights e h = figures_sized (units_each lights) (units_inside lights e) (omega (arith, length_each lights))

-- so that its figures can be joined to the league's
pub file_lights_sized : (s : List ℕ) (r : FileLights) → LightsOfFile s r → r.refusal ≡ 0 → FiguresSized r.figures × (r.figures.voxels ≤ length_limit)
unfolding figures_of
file_lights_sized s r p e =
    let f = lights_fit s (sym (file_lights_refusal s r p) ∙ e) in
    let few = lights_few s f in
    rw (file_lights_figures s r p e) (lights_sized (light_at s) f.inside (omega arith), omega (arith, length_each (light_at s)))
