-- What an accepted sun pass writes is never refused as light: before the blur each number lies from 0 to 1, and after it within ±1.
use Rattle.std.specs.Prelude.{◌≡◌, refl, Bool, true, false, cond, List, ℕ, ◌<◌, get_or, Float}
use Rattle.std.proofs.Math.Bool.{and-eq-true_iff}
use Rattle.std.proofs.Common.{arith, lit≤}
use Rattle.std.proofs.Math.ListN.{length}
use Rattle.std.specs.Float.Ieee.{nan, neg, le, lt, eq, of_bits}
use Rattle.names.specs.Bits.{zero32, one32}
use Rattle.names.specs.Numbers.{light_limit}
use Rattle.names.specs.Scene.{Scene}
use Rattle.lists.specs.Fold.{length_tab, get_or_tab}
use Rattle.floats.specs.OrderLaws.{le_transitive}
use Rattle.vectors.specs.declared.Vec3.{Vec3}
use Rattle.grid.specs.Grid.{voxels}
use Rattle.grid.specs.declared.Axes.{Axes}
use Rattle.grid.specs.declared.Corners.{Corners}
use Rattle.limits.specs.Limits.{within, up_to, bad_lights}
use Rattle.limits.specs.LimitsLaws.{lights_row}
use Rattle.bounds.specs.Bounds.{AtMost}
use Rattle.bounds.specs.BoundsLaws.{at_most_up, at_most_of_test, one_value, light_value}
use Rattle.grid_laws.specs.RowBounds.{at_most_within}
use Rattle.means.specs.Box.{light_blur_of, square_at}
use Rattle.words.specs.Words.{entries_of}
use Rattle.scan_laws.specs.TransmittanceLaws.{one_is_within}
use Rattle.sun.specs.Sun.{sun_before, sun_light, sun_refusal, none_active, all_ones}
use Rattle.sun.specs.SunLaws.{length_before, sun_ready}
use Rattle.sun_bounds.specs.BeforeBounds.{before_within}
use Rattle.sun_bounds.specs.BlurBounds.{blurred_at_most}

below_zero_lem : le (neg one32) zero32 ≡ true
unfolding le lt eq neg of_bits
below_zero_lem = refl

-- from 0 to 1, so within ±1
unit_at_most : (x : Float) → up_to one32 x ≡ true → AtMost 1 0 x
unfolding up_to
unit_at_most x h =
    let p = (and-eq-true_iff (le zero32 x) (le x one32)).0 h in
    at_most_of_test x one32 1 0 one_value (le_transitive (neg one32) zero32 x below_zero_lem p.0) p.1

-- within ±1, so within the light's limit
at_most_light : (x : Float) → AtMost 1 0 x → within light_limit x ≡ true
at_most_light x h = at_most_within light_limit x 1 64 light_value (at_most_up x 1 0 1 64 (lit≤ tt) h)

units_accepted : (l : List Float) → ((i : ℕ) → i < length l → AtMost 1 0 (get_or l i nan)) → bad_lights l ≡ false
units_accepted l h = (lights_row l).1 (λ i p. at_most_light _ (h i p))

module _ (solid : Bool) (axes : Axes) (corners : Corners) (scene : Scene) (direction : Vec3) (active : List ℕ) (light_length scratch_length distances_length places_length : ℕ)
    (accepted : sun_refusal solid axes corners scene direction active light_length scratch_length distances_length places_length ≡ 0) where
  before_units : (i : ℕ) → i < length (sun_before axes corners scene direction (entries_of active (voxels axes))) → AtMost 1 0 (get_or (sun_before axes corners scene direction (entries_of active (voxels axes))) i nan)
  before_units i h =
      unit_at_most _
      (before_within solid axes corners scene direction active light_length scratch_length distances_length places_length accepted i
      (omega (arith, length_before axes corners scene direction (entries_of active (voxels axes)))))

  -- what the light's scratch list holds
  pub before_accepted : bad_lights (sun_before axes corners scene direction (entries_of active (voxels axes))) ≡ false
  before_accepted = units_accepted _ before_units

  -- what the light holds
  pub sun_light_accepted : bad_lights (sun_light axes corners scene direction (entries_of active (voxels axes))) ≡ false
  unfolding sun_light light_blur_of
  sun_light_accepted = by (none_active (entries_of active (voxels axes)))
    where
      ones : (i : ℕ) → i < length (all_ones axes) → AtMost 1 0 (get_or (all_ones axes) i nan)
      ones i h =
          let l = length_tab (λ (j : ℕ). one32) (voxels axes) 0 in
          rw (get_or_tab (λ (j : ℕ). one32) (voxels axes) 0 i nan (omega arith)) (unit_at_most one32 one_is_within)

      blurred : (i : ℕ) → i < length (light_blur_of (sun_before axes corners scene direction (entries_of active (voxels axes))) axes.width axes.height axes.depth)
          → AtMost 1 0 (get_or (light_blur_of (sun_before axes corners scene direction (entries_of active (voxels axes))) axes.width axes.height axes.depth) i nan)
      blurred i h =
          let r = (sun_ready solid axes corners scene direction active light_length scratch_length distances_length places_length accepted).traceable.axes_fit in
          let b = sun_before axes corners scene direction (entries_of active (voxels axes)) in
          let l = length_tab (square_at b axes.width axes.height axes.depth) (length b) 0 in
          blurred_at_most axes b r.width r.height (length_before axes corners scene direction (entries_of active (voxels axes))) before_units i (omega arith)

      by : (c : Bool)
          → bad_lights (cond c (all_ones axes) (light_blur_of (sun_before axes corners scene direction (entries_of active (voxels axes))) axes.width axes.height axes.depth)) ≡ false
      by true = units_accepted _ ones
      by false = units_accepted _ blurred
