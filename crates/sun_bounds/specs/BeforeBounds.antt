-- What an accepted call writes before the blur lies from 0 to 1.
use Rattle.std.specs.Prelude.{◌≡◌, refl, Bool, true, false, List, ℕ, ◌<◌, get_or}
use Rattle.std.specs.Float.{nan}
use Rattle.names.specs.Bits.{one32}
use Rattle.names.specs.Scene.{Scene}
use Rattle.vectors.specs.declared.Vec3.{Vec3}
use Rattle.grid.specs.Grid.{voxels}
use Rattle.grid.specs.declared.Axes.{Axes}
use Rattle.grid.specs.declared.Corners.{Corners}
use Rattle.limits.specs.Limits.{up_to}
use Rattle.limits.specs.LimitsLaws.{materials_row, materials_for}
use Rattle.names.specs.Passed.{passed}
use Rattle.marks.specs.Marks.{is_marked}
use Rattle.words.specs.Words.{entries_of}
use Rattle.scan_laws.specs.TransmittanceLaws.{transmittance_within, one_is_within}
use Rattle.sun.specs.Sun.{sun_before, sun_rows, sun_refusal}
use Rattle.sun.specs.SunLaws.{inactive_before, active_before, sun_numbered, sun_ready}

pub before_within : (solid : Bool) (axes : Axes) (corners : Corners) (scene : Scene) (direction : Vec3) (active : List ℕ) (light_length scratch_length distances_length places_length : ℕ)
    → sun_refusal solid axes corners scene direction active light_length scratch_length distances_length places_length ≡ 0 → (i : ℕ) → i < voxels axes
    → up_to one32 (get_or (sun_before axes corners scene direction (entries_of active (voxels axes))) i nan) ≡ true
unfolding sun_refusal
before_within solid axes corners scene direction active light_length scratch_length distances_length places_length e i h = by (is_marked (entries_of active (voxels axes)) i) refl
  where
    by : (b : Bool) → is_marked (entries_of active (voxels axes)) i ≡ b → up_to one32 (get_or (sun_before axes corners scene direction (entries_of active (voxels axes))) i nan) ≡ true
    by false f = rw (inactive_before axes corners scene direction (entries_of active (voxels axes)) i h f) one_is_within
    by true f =
        let p = passed (sun_rows solid axes corners scene direction active light_length scratch_length distances_length places_length) (sun_numbered solid axes corners scene direction active light_length scratch_length distances_length places_length) e in
        rw (active_before axes corners scene direction (entries_of active (voxels axes)) i h f)
        (transmittance_within scene _ (sun_ready solid axes corners scene direction active light_length scratch_length distances_length places_length e).traceable.scene_fits
        ((materials_row _ _ _).0 (materials_for solid scene.uses scene.kinds scene.numbers p.1.1.1.1.1.0)).1)
