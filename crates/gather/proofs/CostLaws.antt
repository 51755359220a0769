-- The rays of a voxel are exactly `rays_of`, since each direction adds one and its extra rays to the fold's count; and with no triangle they are 64.
use Rattle.std.specs.Prelude.{Option, None, Some, ◌≡◌, List, [], Float}
use Rattle.std.proofs.Math.Path.{refl}
use Rattle.std.proofs.Common.{◌∙◌, add-zero, zero-add}
use Prim.Native.Nat.{ℕ, zero, suc, ◌+◌, ◌*◌}
use native.Mathlib.Omega.{arith}
use Rattle.names.specs.Numbers.{primary_rays}
use Rattle.names.specs.Scene.{Scene}
use Rattle.lists.specs.Fold.{fold}
use Rattle.vectors.specs.declared.Vec3.{Vec3}
use Rattle.vectors.specs.declared.Ray.{Ray}
use Rattle.vectors.specs.Places.{vec_at}
use Rattle.scan.specs.Nearest.{nearest_of, nearest_to}
use Rattle.scan.specs.declared.PlacedHit.{PlacedHit}
use Rattle.surface.specs.declared.Setting.{Setting}
use Rattle.surface.specs.Surface.{surface_of}
use Rattle.surface.specs.SurfaceLaws.{extra_rays_lem}
use Rattle.gather.specs.declared.Gathering.{Gathering}
use Rattle.gather.specs.Gather.{GatherInput, incoming_by, primary_ray, direction_at, gathered_along, along_from, gathering_of, nothing_gathered, set_at, voxel_of, cost_of}
use Rattle.gather.specs.Cost.{extra_of, extra_along, extra_sum, rays_of}

module _ (scene : Scene) (lamps : List Float) (setting : Setting) where
  -- one direction: the primary ray, and the extra ones
  incoming_counted : (ray : Ray) (sky : Vec3) (found : Option PlacedHit) → (incoming_by scene lamps setting ray sky found).rays ≡ extra_of scene lamps setting ray found + 1
  unfolding incoming_by extra_of
  incoming_counted ray sky None = refl
  incoming_counted ray sky (Some met) =
      rw (extra_rays_lem scene lamps setting (surface_of scene ray met.place met.hit.t setting.biases.hit)) refl

  along_counted : (centre : Vec3) (sky : List Float) (k : ℕ) (s : Gathering)
      → (gathered_along scene lamps setting centre sky k s).rays ≡ s.rays + (extra_along scene lamps setting centre k + 1)
  unfolding gathered_along
  along_counted centre sky k s =
      let ray = primary_ray setting centre (direction_at k) in
      rw (incoming_counted ray (vec_at sky (k * 3)) (nearest_of scene ray)) refl

  -- n directions from place i of those that begin at `first`
  fold_counted : (centre : Vec3) (sky : List Float) (first n i : ℕ) (s : Gathering)
      → (fold (along_from scene lamps setting centre sky first) n i s).rays ≡ s.rays + (n + extra_sum scene lamps setting centre n (first + i))
  unfolding fold extra_sum
  fold_counted centre sky first zero i s = omega arith
  fold_counted centre sky first (suc n) i s =
      let e : first + (i + 1) ≡ first + i + 1 = omega arith in
      let h = rw e at (fold_counted centre sky first n (i + 1) (along_from scene lamps setting centre sky first i s)) in
      omega (arith, h, along_counted centre sky (first + i) s)

-- the whole voxel
pub cost_counted : (g : GatherInput) (i : ℕ) → cost_of g i ≡ rays_of g i
unfolding cost_of voxel_of gathering_of rays_of
cost_counted g i =
    let first = set_at g.axes i * primary_rays in
    fold_counted g.scene g.lamps _ _ g.sky first primary_rays 0 nothing_gathered ∙ rw (add-zero first, zero-add) refl

-- ---- with no triangle every ray misses

pub nothing_met : (scene : Scene) (ray : Ray) → scene.uses ≡ [] → nearest_of scene ray ≡ None
unfolding nearest_of nearest_to
nothing_met scene ray e = rw e

module _ (scene : Scene) (lamps : List Float) (setting : Setting) (centre : Vec3) (none : scene.uses ≡ []) where
  no_extra : (n k : ℕ) → extra_sum scene lamps setting centre n k ≡ 0
  unfolding extra_sum extra_of
  no_extra zero k = refl
  no_extra (suc n) k = rw (nothing_met scene (primary_ray setting centre (direction_at k)) none) (omega (arith, no_extra n (k + 1)))

pub cost_of_nothing : (g : GatherInput) (i : ℕ) → g.scene.uses ≡ [] → cost_of g i ≡ primary_rays
unfolding rays_of
cost_of_nothing g i e = cost_counted g i ∙ rw (no_extra g.scene g.lamps _ _ e primary_rays _) refl
