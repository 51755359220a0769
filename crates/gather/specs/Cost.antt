-- The rays of a voxel, by the customer's words alone: 64, one along each direction of its set, and along each that meets a surface that surface's
-- extra rays. No light is in it. Definitions only; `cost_counted` of CostLaws shows that the count beside the light is this.
use Rattle.std.specs.Prelude.{Option, None, Some, List, ℕ, zero, suc, ◌+◌, ◌*◌, Float}
use Rattle.names.specs.Numbers.{primary_rays}
use Rattle.names.specs.Scene.{Scene}
use Rattle.vectors.specs.declared.Vec3.{Vec3}
use Rattle.vectors.specs.declared.Ray.{Ray}
use Rattle.grid.specs.Grid.{edges_of}
use Rattle.scan.specs.Nearest.{nearest_of}
use Rattle.scan.specs.declared.PlacedHit.{PlacedHit}
use Rattle.surface.specs.declared.Setting.{Setting}
use Rattle.surface.specs.Surface.{surface_of}
use Rattle.surface.specs.Extra.{extra_rays}
use Rattle.gather.specs.Gather.{GatherInput, setting_of, direction_at, primary_ray, set_at, centre_at}

module _ (scene : Scene) (lamps : List Float) (setting : Setting) where
  -- the extra rays of what a ray has met: none on a miss, else those of the surface
  unfoldable pub extra_of : Ray → Option PlacedHit → ℕ
  extra_of ray None = 0
  extra_of ray (Some met) = extra_rays lamps setting.toward (surface_of scene ray met.place met.hit.t setting.biases.hit)

  -- along direction k of the table
  abbrev pub extra_along : Vec3 → ℕ → ℕ
  extra_along centre k =
      let ray = primary_ray setting centre (direction_at k) in
      extra_of ray (nearest_of scene ray)

  -- along n directions from k on
  unfoldable pub extra_sum : Vec3 → ℕ → ℕ → ℕ
  extra_sum centre zero k = 0
  extra_sum centre (suc n) k = extra_along centre k + extra_sum centre n (k + 1)

-- the rays of voxel i: its set's 64 directions, and the extra rays along them
unfoldable pub rays_of : GatherInput → ℕ → ℕ
rays_of g i =
    let setting = setting_of (edges_of g.corners g.axes) g.light g.ambient in
    primary_rays + extra_sum g.scene g.lamps setting (centre_at g.corners g.axes i) primary_rays (set_at g.axes i * primary_rays)
