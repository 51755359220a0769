-- Row 8 would accept every ray of an accepted sun pass: a centre lies within ±`centre_most`, 12,416, three diagonals are at most 43,008, and a component of the light's direction is at
-- most 19/16, so that a ray starts within ±63,488. So every number of its test is finite (`Bounded`), and the departure that makes a non-finite distance a miss never shows.
use Rattle.std.specs.Prelude.{◌≡◌, Bool, true, false, List, ℕ, ◌+◌, ◌<◌, length}
use Rattle.std.proofs.Math.Path.{refl}
use Rattle.std.proofs.Common.{arith, lit<}
use Rattle.std.proofs.Math.Dec.{lit≤}
use Rattle.std.specs.Float.Ieee.{is_nan, le, lt, eq, of_bits}
use Rattle.names.specs.Bits.{lit, inf32}
use Rattle.names.specs.Numbers.{light_direction_limit, origin_limit, shortest_limit, direction_limit, flat_limit, sun_shortest}
use Rattle.names.specs.Scene.{Scene}
use Rattle.names.specs.Passed.{passed}
use Rattle.floats.specs.Choice.{magnitude_of}
use Rattle.vectors.specs.declared.Vec3.{Vec3}
use Rattle.vectors.specs.declared.Ray.{Ray}
use Rattle.vectors.specs.Vectors.{normal_v}
use Rattle.vectors.specs.Rays.{point_at, ray_from}
use Rattle.grid.specs.Grid.{voxels, x_of, y_of, z_of, edges_of, centre_of}
use Rattle.grid.specs.GridLaws.{x_within, y_within, z_within}
use Rattle.grid.specs.declared.Axes.{Axes}
use Rattle.grid.specs.declared.Corners.{Corners}
use Rattle.limits.specs.Limits.{up_to, bad_ray}
use Rattle.limits.specs.LimitsLaws.{axes_row, direction_row, ray_row}
use Rattle.bounds.specs.Bounds.{AtMost}
use Rattle.bounds.specs.BoundsLaws.{at_most_up, at_most_finite, mul_at_most, point_value, colour_value, direction_value}
use Rattle.bounds.specs.VectorLaws.{each_up, add_each, scale_under, dot_at_most}
use Rattle.bounds.specs.NormalLaws.{thin_normal_within, thin_normal_under}
use Rattle.grid_laws.specs.RowBounds.{within_each, each_within}
use Rattle.grid_laws.specs.GridBounds.{diagonal_bounded, centre_most, centre_bounded}
use Rattle.triangle.specs.Meet.{solved_of}
use Rattle.triangle.specs.Places.{triangle_at}
use Rattle.rays_bounds.specs.TestBounds.{NearPoints, near_place, Bounded, test_bounded}
use Rattle.rays_bounds.specs.Departure.{NoDeparture, accepted_same}
use Rattle.sun.specs.Sun.{ahead_of, sun_ray, sun_rows, sun_refusal}
use Rattle.sun.specs.SunLaws.{sun_numbered, sun_ready}

three_small : AtMost 3 0 (lit 0x40400000)
three_small = unfold AtMost of_bits in lit≤ tt

shortest_passes : up_to shortest_limit sun_shortest ≡ true
shortest_passes = unfold up_to le lt eq of_bits in refl

longest_passes : is_nan inf32 ≡ false
longest_passes = unfold is_nan of_bits in refl

-- the ray of voxel i
abbrev pub sun_ray_at : Axes → Corners → Vec3 → ℕ → Ray
sun_ray_at axes corners direction i = sun_ray (normal_v direction) (ahead_of (edges_of corners axes)) (centre_of corners axes (x_of axes i) (y_of axes i) (z_of axes i))

module _ (solid : Bool) (axes : Axes) (corners : Corners) (scene : Scene) (direction : Vec3) (active : List ℕ) (light_long scratch_long distances_long places_long : ℕ)
    (accepted : sun_refusal solid axes corners scene direction active light_long scratch_long distances_long places_long ≡ 0) where
  pub sun_ray_accepted : (i : ℕ) → i < voxels axes → bad_ray (sun_ray_at axes corners direction i) ≡ false
  unfolding sun_refusal ray_from point_at
  sun_ray_accepted i h =
      let p = passed (sun_rows solid axes corners scene direction active light_long scratch_long distances_long places_long) (sun_numbered solid axes corners scene direction active light_long scratch_long distances_long places_long) accepted in
      let a = (axes_row axes).0 p.0 in
      let d = (direction_row direction).0 p.1.1.1.1.1.1.0 in
      let e = within_each light_direction_limit direction 1 12 point_value d.0 in
      let f = at_most_finite _ 3 24 (dot_at_most direction direction 1 12 1 12 (lit< tt) (lit< tt) e e) in
      let centre = centre_bounded corners axes p.0 p.1.0 (x_of axes i) (y_of axes i) (z_of axes i) (x_within axes i a.width) (y_within axes i a.height) (z_within axes i a.width a.height h) in
      let ahead = mul_at_most _ _ 7 11 3 0 (lit< tt) (lit< tt) (diagonal_bounded corners axes p.0 p.1.0) three_small in
      let moved = scale_under (normal_v direction) _ 2688 0 19 4 (lit< tt) (lit< tt) (thin_normal_under direction d.1 f) (at_most_up _ 21 11 43008 0 (lit≤ tt) ahead) in
      let start = add_each _ _ centre_most 51072 0 (lit< tt) (lit< tt) centre moved in
      (ray_row (sun_ray_at axes corners direction i)).1 (
        each_within origin_limit _ 1 16 colour_value (each_up _ (centre_most + 51072) 0 1 16 (lit≤ tt) start),
        each_within direction_limit _ 1 1 direction_value (thin_normal_within direction d.1 f),
        shortest_passes,
        longest_passes,
      )

  -- the triangle at each place
  near : (k : ℕ) → k < length scene.uses → NearPoints (triangle_at scene.points k)
  unfolding sun_refusal
  near k h =
      let p = passed (sun_rows solid axes corners scene direction active light_long scratch_long distances_long places_long) (sun_numbered solid axes corners scene direction active light_long scratch_long distances_long places_long) accepted in
      let s = (sun_ready solid axes corners scene direction active light_long scratch_long distances_long places_long accepted).traceable.scene_fits in
      near_place scene.points k p.1.1.1.1.0 (omega (arith, s.points))

  -- every number of the test is finite, once the determinant has passed
  pub sun_ray_bounded : (i k : ℕ) → i < voxels axes → k < length scene.uses
      → le (magnitude_of (solved_of (sun_ray_at axes corners direction i) (triangle_at scene.points k)).det) flat_limit ≡ false → Bounded 16 12 (sun_ray_at axes corners direction i) (triangle_at scene.points k)
  sun_ray_bounded i k h g s = test_bounded (sun_ray_at axes corners direction i) _ (near k g) (sun_ray_accepted i h) s

  -- and the test is that without the departure
  pub sun_ray_same : (i : ℕ) → i < voxels axes → NoDeparture scene (sun_ray_at axes corners direction i)
  sun_ray_same i h k g = accepted_same (sun_ray_at axes corners direction i) _ (near k g) (sun_ray_accepted i h)
