-- A file is faulty exactly when one of these fails: head, axes, contents, corners, light, coefficients, masks. And what lengths the
-- bodies of one that is not faulty have.
use Rattle.std.specs.Prelude.{◌≡◌, refl, true, false, List, ◌↔◌, ℕ}
use Rattle.std.proofs.lemmas.Bool.{not-false}
use Rattle.grid.specs.Grid.{AxesWithin}
use Rattle.limits.specs.Limits.{bad_axes, bad_grid, bad_lights, bad_coefficients, bad_mask}
use Rattle.limits.specs.LimitsLaws.{either, axes_row}
use Rattle.contents.specs.Contents.{axes_at, entries_at, contents_good}
use Rattle.contents.specs.Laid.{Laid}
use Rattle.contents.specs.ContentsLaws.{Headed}
use Rattle.contents.proofs.ContentsLaws.{headed_found, headed_given, contents_laid}
use Rattle.volume_file.specs.VolumeFile.{voxels_at, light_at, volume_at, active_at, occupied_at, corners_at, bad_bodies, faulty}

pub record Accepted (s : List ℕ) : Type 0 where
  pub headed : Headed s
  pub axes : bad_axes (axes_at s) ≡ false
  pub contents : contents_good s (entries_at s) (voxels_at s) ≡ true
  pub grid : bad_grid (corners_at s) (axes_at s) ≡ false
  pub lights : bad_lights (light_at s) ≡ false
  pub coefficients : bad_coefficients (volume_at s) ≡ false
  pub active : bad_mask (active_at s) ≡ false
  pub occupied : bad_mask (occupied_at s) ≡ false

found : (s : List ℕ) → faulty s ≡ false → Accepted s
unfolding faulty bad_bodies
found s e =
    let p = (either _ _).0 e in
    let q = (either _ _).0 p.1 in
    let r = (either _ _).0 q.1 in
    let t = (either _ (bad_mask (occupied_at s))).0 r.1 in
    let u = (either _ (bad_mask (active_at s))).0 t.0 in
    let v = (either _ (bad_coefficients (volume_at s))).0 u.0 in
    let w = (either (bad_grid (corners_at s) (axes_at s)) (bad_lights (light_at s))).0 v.0 in
    record {
      headed = headed_found s (not-false _ p.0);
      axes = q.0;
      contents = not-false _ r.0;
      grid = w.0;
      lights = w.1;
      coefficients = v.1;
      active = u.1;
      occupied = t.1;
    }

given : (s : List ℕ) → Accepted s → faulty s ≡ false
unfolding faulty bad_bodies
given s a =
    rw (headed_given s a.headed, a.axes, a.contents, a.grid, a.lights, a.coefficients, a.active, a.occupied) refl

pub accepted_row : (s : List ℕ) → (faulty s ≡ false) ↔ Accepted s
accepted_row s = (found s, given s)

-- the places of the bodies of an accepted file
pub accepted_laid : (s : List ℕ) → Accepted s → Laid s (voxels_at s)
accepted_laid s a = contents_laid s (voxels_at s) a.headed.least a.contents

pub accepted_axes : (s : List ℕ) → Accepted s → AxesWithin (axes_at s)
accepted_axes s a = (axes_row (axes_at s)).0 a.axes
