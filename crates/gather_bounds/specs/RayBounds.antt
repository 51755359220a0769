-- The departure that makes a non-finite distance a miss never shows in an accepted bake (`NoDepartures`). A primary ray starts within 11·2^12, so that what it meets lies within
-- 288·2^63 along it and the surface's point within 578·2^63. A ray from there starts within 579·2^63, so that no distance passes 13920·2^114, which is finite. That holds in
-- whatever direction; but a ray to the sky starts moved along its own direction, which is not shown to be finite. Where it is not, u is NaN and the ray meets nothing.
use Rattle.std.specs.Prelude.{Some, ◌≡◌, Bool, false, ℕ, ◌<◌, length, Float}
use Rattle.std.proofs.Math.Logic.{⊎_elim}
use Rattle.std.proofs.Common.{arith, lit<, lit≤}
use Rattle.std.specs.Float.{binary32}
use Rattle.std.specs.Float.Ieee.{mul, of_bits}
use Rattle.names.specs.Bits.{lit, zero32, half32}
use Rattle.floats.specs.Choice.{larger_of}
use Rattle.floats.specs.OrderLaws.{le_numbers}
use Rattle.vectors.specs.declared.Vec3.{Vec3}
use Rattle.vectors.specs.declared.Ray.{Ray}
use Rattle.vectors.specs.Rays.{point_at, ray_from}
use Rattle.grid.specs.Grid.{voxels, x_of, y_of, z_of, edges_of}
use Rattle.grid.specs.GridLaws.{x_within, y_within, z_within}
use Rattle.limits.specs.Limits.{bad_axes, bad_grid, lamp_at}
use Rattle.limits.specs.LimitsLaws.{axes_row}
use Rattle.bounds.specs.Bounds.{AtMost, EachAtMost}
use Rattle.bounds.specs.BoundsLaws.{at_most_up, mul_at_most, larger_at_most, half_at_most}
use Rattle.bounds.specs.VectorLaws.{each_up, add_each, scale_each}
use Rattle.bounds.specs.WildLaws.{Wild}
use Rattle.bounds.specs.NormalLaws.{normal_spread}
use Rattle.grid_laws.specs.GridBounds.{diagonal_bounded, centre_most, centre_bounded}
use Rattle.triangle.specs.Places.{triangle_at}
use Rattle.triangle.specs.Laws.{hit_met}
use Rattle.rays_bounds.specs.TestBounds.{NearPoints, near_place, distance_bounded}
use Rattle.rays_bounds.specs.Departure.{NoDeparture, far_same, wild_same}
use Rattle.panels.specs.Panels.{meet_at}
use Rattle.panels.specs.PanelLaws.{by_answered}
use Rattle.scan.specs.Nearest.{nearest_of}
use Rattle.scan.specs.declared.PlacedHit.{PlacedHit}
use Rattle.bounce.specs.declared.Biases.{Biases}
use Rattle.bounce.specs.Biases.{biases_of}
use Rattle.bounce.specs.Hemisphere.{turned_by}
use Rattle.bounce.specs.Lamps.{way_to, lamp_ray_from}
use Rattle.surface.specs.declared.Setting.{Setting}
use Rattle.surface.specs.declared.Surface.{Surface}
use Rattle.surface.specs.Surface.{surface_of, sky_ray_in, shadow_ray, sky_ray, lamp_ray}
use Rattle.gather.specs.Gather.{GatherInput, setting_of, direction_at, primary_ray, centre_at}
use Rattle.gather_bounds.specs.SceneBounds.{nearest_found, surface_small}
use Rattle.gather_bounds.specs.GatherBounds.{Rows, modest, setting_small, direction_small}

-- ---- the biases, from a diagonal of at most 7·2^11

record SmallBiases (b : Biases) : Type 0 where
  primary : AtMost 7 11 b.primary
  hit : AtMost 7 11 b.hit
  step : AtMost 7 11 b.step

-- a part of it, or a floor
part_small : (d part floor : Float) → AtMost 7 11 d → AtMost 1 0 part → AtMost 1 0 floor → AtMost 7 11 (larger_of (mul binary32 d part) floor)
part_small d part floor h p q = larger_at_most _ floor 7 11 (mul_at_most d part 7 11 1 0 (lit< tt) (lit< tt) h p) (at_most_up floor 1 0 7 11 (lit≤ tt) q)

-- .35 and 4·1e-4, .05 and 8·1e-4
primary_parts : AtMost 1 0 (lit 0x3eb33333) × AtMost 1 0 (lit 0x39d1b717)
unfolding AtMost of_bits
primary_parts = (lit≤ tt, lit≤ tt)

hit_parts : AtMost 1 0 (lit 0x3d4ccccd) × AtMost 1 0 (lit 0x3a51b717)
unfolding AtMost of_bits
hit_parts = (lit≤ tt, lit≤ tt)

biases_small : (d e : Float) → AtMost 7 11 d → SmallBiases (biases_of d e)
unfolding biases_of
biases_small d e h =
    let hit = part_small d _ _ h hit_parts.0 hit_parts.1 in
    record { primary = part_small d _ _ h primary_parts.0 primary_parts.1; hit = hit; step = mul_at_most _ half32 7 11 1 0 (lit< tt) (lit< tt) hit half_at_most }

-- ---- the rays of voxel i

abbrev pub setting_in : GatherInput → Setting
setting_in g = setting_of (edges_of g.corners g.axes) g.light g.ambient

-- along direction k of the table
abbrev pub primary_at : GatherInput → ℕ → ℕ → Ray
primary_at g i k = primary_ray (setting_in g) (centre_at g.corners g.axes i) (direction_at k)

-- the surface that it meets at a place and a distance
abbrev pub surface_at : GatherInput → ℕ → ℕ → ℕ → Float → Surface
surface_at g i k place t = surface_of g.scene (primary_at g i k) place t (setting_in g).biases.hit

-- the rays along direction k, and those of a surface that the first of them meets: the test is that without the departure
pub record NoDepartures (g : GatherInput) (i k : ℕ) : Type 0 where
  pub primary : NoDeparture g.scene (primary_at g i k)
  pub shadow : (met : PlacedHit) → nearest_of g.scene (primary_at g i k) ≡ Some met
      → NoDeparture g.scene (shadow_ray (setting_in g) (surface_at g i k met.place met.hit.t))
  pub sky : (met : PlacedHit) → nearest_of g.scene (primary_at g i k) ≡ Some met → (j : ℕ)
      → NoDeparture g.scene (sky_ray (setting_in g) (surface_at g i k met.place met.hit.t) j)
  pub lamp : (met : PlacedHit) → nearest_of g.scene (primary_at g i k) ≡ Some met → (j : ℕ)
      → NoDeparture g.scene (lamp_ray (setting_in g) (surface_at g i k met.place met.hit.t) (way_to (surface_at g i k met.place met.hit.t).point (lamp_at g.lamps j).position))

module _ (g : GatherInput) (r : Rows g) (ha : bad_axes g.axes ≡ false) (hg : bad_grid g.corners g.axes ≡ false) where
  biases : SmallBiases (setting_in g).biases
  unfolding setting_of
  biases = biases_small _ _ (diagonal_bounded g.corners g.axes ha hg)

  near : (p : ℕ) → p < length g.scene.uses → NearPoints (triangle_at g.scene.points p)
  near p h = near_place g.scene.points p r.points (omega (arith, (modest g r).sound.points))

  module _ (i k : ℕ) (inside : i < voxels g.axes) (listed : k < 576) where
    primary_start : EachAtMost 11 12 (primary_at g i k).origin
    unfolding primary_ray ray_from point_at
    primary_start =
        let a = g.axes in
        let w = (axes_row a).0 ha in
        let centre = centre_bounded g.corners a ha hg (x_of a i) (y_of a i) (z_of a i) (x_within a i w.width) (y_within a i w.height) (z_within a i w.width w.height inside) in
        add_each _ _ 4 7 12 (lit< tt) (lit< tt) (each_up _ centre_most 0 4 12 (lit≤ tt) centre)
        (each_up _ 14 11 7 12 (lit≤ tt) (scale_each (direction_at k) _ 2 0 7 11 (lit< tt) (lit< tt) (direction_small k listed) biases.primary))

    primary_same : NoDeparture g.scene (primary_at g i k)
    primary_same p h = far_same (primary_at g i k) _ 11 12 (near p h) primary_start (lit≤ tt) (lit< tt) (lit≤ tt)

    -- ---- and of the surface that it meets
    module _ (met : PlacedHit) (e : nearest_of g.scene (primary_at g i k) ≡ Some met) where
      found : (met.place < length g.scene.uses) × (meet_at g.scene (primary_at g i k) met.place ≡ Some met.hit)
      unfolding nearest_of
      found = rw e at (nearest_found g.scene (modest g r) (primary_at g i k) (length g.scene.uses))

      distance_small : AtMost 288 63 met.hit.t
      distance_small =
          let m = hit_met (primary_at g i k) (triangle_at g.scene.points met.place) met.hit (by_answered g.scene.boxed g.scene.points g.scene.uses g.scene.kinds (primary_at g i k) met.place met.hit found.1) in
          let o = (le_numbers zero32 met.hit.u m.u_from).1 in
          rw m.distance
          (distance_bounded (primary_at g i k) (triangle_at g.scene.points met.place) 11 12 (near met.place found.0) primary_start (lit≤ tt) (lit< tt) (lit< tt) m.steep (rw m.first at o))

      point_small : EachAtMost 578 63 (surface_at g i k met.place met.hit.t).point
      unfolding surface_of primary_ray ray_from point_at
      point_small =
          let n = (surface_small g.scene (modest g r) (primary_at g i k) met.place met.hit (setting_in g).biases.hit found.0 found.1).normal in
          let reached = add_each _ _ 1 576 63 (lit< tt) (lit< tt) (each_up _ 11 12 1 63 (lit≤ tt) primary_start) (scale_each (direction_at k) met.hit.t 2 0 288 63 (lit< tt) (lit< tt) (direction_small k listed) distance_small) in
          add_each _ _ 577 1 63 (lit< tt) (lit< tt) reached (each_up _ 7 12 1 63 (lit≤ tt) (scale_each _ _ 1 1 7 11 (lit< tt) (lit< tt) n biases.hit))

      -- a ray that starts moved along its direction
      moved_start : (d : Vec3) → EachAtMost 1 1 d → EachAtMost 579 63 (point_at (surface_at g i k met.place met.hit.t).point d (setting_in g).biases.step)
      unfolding point_at
      moved_start d h = add_each _ _ 578 1 63 (lit< tt) (lit< tt) point_small (each_up _ 7 12 1 63 (lit≤ tt) (scale_each d _ 1 1 7 11 (lit< tt) (lit< tt) h biases.step))

      far : (ray : Ray) → EachAtMost 579 63 ray.origin → NoDeparture g.scene ray
      far ray h p l = far_same ray _ 579 63 (near p l) h (lit≤ tt) (lit< tt) (lit≤ tt)

      -- to the sun
      shadow_same : NoDeparture g.scene (shadow_ray (setting_in g) (surface_at g i k met.place met.hit.t))
      unfolding shadow_ray ray_from
      shadow_same = far _ (moved_start _ (setting_small (edges_of g.corners g.axes) g.light g.ambient r.light r.ambient).toward)

      -- to the sky
      sky_same : (j : ℕ) → NoDeparture g.scene (sky_ray (setting_in g) (surface_at g i k met.place met.hit.t) j)
      unfolding sky_ray_in ray_from turned_by
      sky_same j p l =
          ⊎_elim (λ (w : Wild _). wild_same (sky_ray (setting_in g) (surface_at g i k met.place met.hit.t) j) _ w) (λ (h : EachAtMost 1 1 _). far (sky_ray (setting_in g) (surface_at g i k met.place met.hit.t) j) (moved_start _ h) p l)
          (normal_spread _)

      -- to lamp j
      lamp_same : (j : ℕ)
          → NoDeparture g.scene (lamp_ray (setting_in g) (surface_at g i k met.place met.hit.t) (way_to (surface_at g i k met.place met.hit.t).point (lamp_at g.lamps j).position))
      unfolding lamp_ray lamp_ray_from
      lamp_same j = far _ (each_up _ 578 63 579 63 (lit≤ tt) point_small)

    pub no_departures : NoDepartures g i k
    no_departures = record { primary = primary_same; shadow = shadow_same; sky = sky_same; lamp = lamp_same }
