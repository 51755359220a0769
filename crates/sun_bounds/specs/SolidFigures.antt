-- Between solid walls a voxel sees the whole sun or none of it: before the blur each figure of an accepted call is 1.0 or 0.
use Rattle.std.specs.Prelude.{Option, None, Some, ◌≡◌, refl, Bool, true, false, ◌⊎◌, List, ℕ, ◌<◌, get_or}
use Rattle.std.proofs.Common.{inl, inr}
use Rattle.std.specs.Float.{nan}
use Rattle.names.specs.Bits.{zero32, one32}
use Rattle.names.specs.Passed.{passed}
use Rattle.names.specs.Scene.{Scene, other_kind}
use Rattle.vectors.specs.declared.Ray.{Ray}
use Rattle.vectors.specs.declared.Vec3.{Vec3}
use Rattle.grid.specs.Grid.{voxels}
use Rattle.grid.specs.declared.Axes.{Axes}
use Rattle.grid.specs.declared.Corners.{Corners}
use Rattle.limits.specs.Limits.{bad_materials}
use Rattle.limits.specs.LimitsLaws.{either}
use Rattle.marks.specs.Marks.{is_marked}
use Rattle.words.specs.Words.{entries_of}
use Rattle.scan.specs.Nearest.{nearest_of}
use Rattle.scan.specs.Transmittance.{transmittance_of}
use Rattle.scan.specs.declared.PlacedHit.{PlacedHit}
use Rattle.scan_laws.specs.SolidScans.{all_or_nothing, solid_all_or_nothing}
use Rattle.sun.specs.Sun.{sun_before, sun_rows, sun_refusal}
use Rattle.sun.specs.SunLaws.{inactive_before, active_before, sun_numbered, sun_ready}

pub solid_figures : (axes : Axes) (corners : Corners) (scene : Scene) (direction : Vec3) (active : List ℕ) (light_length scratch_length : ℕ)
    → sun_refusal true axes corners scene direction active light_length scratch_length 0 0 ≡ 0 → (i : ℕ) → i < voxels axes
    → let figure = get_or (sun_before axes corners scene direction (entries_of active (voxels axes))) i nan in
    (figure ≡ one32) ⊎ (figure ≡ zero32)
unfolding sun_refusal all_or_nothing
solid_figures axes corners scene direction active light_length scratch_length e i h = by (is_marked entries i) refl
  where
    entries : List ℕ
    entries = entries_of active (voxels axes)

    none : other_kind scene.kinds ≡ false
    none =
        let p = passed (sun_rows true axes corners scene direction active light_length scratch_length 0 0) (sun_numbered true axes corners scene direction active light_length scratch_length 0 0) e in
        ((either (bad_materials scene.uses scene.kinds scene.numbers) (other_kind scene.kinds)).0 p.1.1.1.1.1.0).1

    passes : (ray : Ray) → (transmittance_of scene ray ≡ one32) ⊎ (transmittance_of scene ray ≡ zero32)
    passes ray =
        let f = solid_all_or_nothing scene ray (sun_ready true axes corners scene direction active light_length scratch_length 0 0 e).traceable.scene_fits none in
        go (nearest_of scene ray) f
      where
        go : (n : Option PlacedHit) → transmittance_of scene ray ≡ all_or_nothing n → (transmittance_of scene ray ≡ one32) ⊎ (transmittance_of scene ray ≡ zero32)
        go None f = inl f
        go (Some best) f = inr f

    by : (b : Bool) → is_marked entries i ≡ b
        → (get_or (sun_before axes corners scene direction entries) i nan ≡ one32) ⊎ (get_or (sun_before axes corners scene direction entries) i nan ≡ zero32)
    by false m = inl (inactive_before axes corners scene direction entries i h m)
    by true m = rw (active_before axes corners scene direction entries i h m) (passes _)
