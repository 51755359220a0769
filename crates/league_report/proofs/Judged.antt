-- Where the lights of an accepted file stand, a scan of lights for one outside 0..1, and what each return of the call is, from the tests that led to it.
use mathlib.Core.Path.{◌≡◌, refl, sym, ◌∙◌}
use mathlib.Core.Bool.{Bool, false, ◌||◌}
use mathlib.Core.List.{List}
use Prim.Native.Nat.{ℕ, ◌+◌, ◌-◌, ◌*◌, ◌<◌, ◌≤◌}
use native.Mathlib.Omega.{arith}
use lib.ListN.{length}
use lib.Ieee.{Float}
use Rattle.std.proofs.Math.Bool.{or_assoc, or-false}
use Rattle.names.specs.Refusals.{kept, given}
use Rattle.names.specs.Numbers.{voxel_limit}
use Rattle.lists.specs.Fold.{ahead, tab}
use Rattle.lists.specs.Some.{some}
use Rattle.grid.specs.declared.Axes.{Axes}
use Rattle.grid.specs.Grid.{voxels, AxesWithin}
use Rattle.grid.specs.GridLaws.{voxels_most}
use Rattle.bytes_le.specs.Bytes.{floats_at}
use Rattle.contents.specs.Contents.{axes_at, offset_at}
use Rattle.contents.specs.Laid.{Laid}
use Rattle.volume_file.specs.VolumeFile.{voxels_at, light_at, faulty}
use Rattle.volume_file.specs.VolumeFileLaws.{Accepted, accepted_row, accepted_axes, accepted_laid}
use Rattle.light_units.specs.Units.{light_outside}
use Rattle.light_figures.specs.declared.LightFigures.{LightFigures}
use Rattle.light_figures.specs.LightFigures.{light_figures, most_voxels}
use Rattle.league_report.specs.FileLights.{lights_refusal, no_lights, lights_answer, LightsOfFile}

-- ---- an accepted file

module _ (s : List ℕ) (e : false ≡ faulty s) where
  accepted : Accepted s
  accepted = (accepted_row s).0 (sym e)

  pub head_room : 12 ≤ length s
  head_room = accepted.headed.long

  pub entry_room : 24 ≤ length s
  entry_room = let h = accepted.headed in omega (arith, h.contents, h.least)

  module _ (a : Axes) (x : a ≡ axes_at s) where
    pub axes_fit : AxesWithin a
    axes_fit = rw x (accepted_axes s accepted)

    -- where its lights stand
    module _ (n at : ℕ) (y : n ≡ voxels a) (z : at ≡ offset_at s 0) where
      pub lights_place : floats_at s at n ≡ light_at s
      lights_place = rw (z, y, x) refl

      own_count : n ≡ voxels_at s
      own_count = rw x at y

      pub lights_room : at + n * 4 ≤ length s
      lights_room = let d : Laid s (voxels_at s) = accepted_laid s accepted in omega (arith, d.light, d.within, own_count)

      pub lights_fewer : n ≤ most_voxels
      lights_fewer = let m : n ≤ voxel_limit = rw y (voxels_most a axes_fit) in omega arith

-- ---- the scan: what was found, or what is left at i

module _ (f : ℕ → Float) (n i : ℕ) (any : Bool) where
  pub more : (x : Float) (r : Bool) → i < n → x ≡ f i → r ≡ light_outside x
      → any || some light_outside (tab f (n - i) i) ≡ (any || r) || some light_outside (tab f (n - (i + 1)) (i + 1))
  unfolding some tab
  more x r h e p = rw (ahead i n h, p, e) (sym (or_assoc any (light_outside (f i)) (some light_outside (tab f (n - (i + 1)) (i + 1)))))

  pub all : n ≤ i → any || some light_outside (tab f (n - i) i) ≡ any
  unfolding some tab
  all h = let z : n - i ≡ 0 = omega arith in rw z (or-false any)

-- ---- the answers

module _ (s : List ℕ) where
  pub lights_refused : (k : ℕ) → k ≡ lights_refusal s → (k ≡ 0 → ⊥) → LightsOfFile s (no_lights k)
  lights_refused k e n = record { answer = kept k (lights_answer s) (no_lights k) n ∙ rw e refl }

  pub lights_given : (f : LightFigures) → 0 ≡ lights_refusal s → f ≡ light_figures (light_at s) → LightsOfFile s (record { refusal = 0; figures = f })
  unfolding lights_answer
  lights_given f z e = record { answer = rw e (given (lights_refusal s) (lights_answer s) (no_lights (lights_refusal s)) (sym z)) }
