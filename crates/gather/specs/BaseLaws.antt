-- "L=0 gives every old bit": document 01's gather alone, without lamps, and that a voxel baked with no lamp has its numbers and its rays.
use Rattle.std.specs.Prelude.{Option, None, Some, ◌≡◌, get_or, Float}
use Rattle.std.proofs.Math.Path.{refl, ap}
use Rattle.std.proofs.Common.{◌∙◌}
use mathlib.Core.List.{List, []}
use Prim.Native.Nat.{ℕ, zero, suc, ◌+◌, ◌*◌}
use Rattle.std.specs.Float.{nan}
use Rattle.names.specs.Numbers.{primary_rays}
use Rattle.names.specs.Scene.{Scene}
use Rattle.lists.specs.Fold.{fold}
use Rattle.vectors.specs.declared.Vec3.{Vec3}
use Rattle.vectors.specs.declared.Ray.{Ray}
use Rattle.grid.specs.Grid.{edges_of}
use Rattle.vectors.specs.Places.{vec_at}
use Rattle.scan.specs.Nearest.{nearest_of}
use Rattle.scan.specs.declared.PlacedHit.{PlacedHit}
use Rattle.harmonics.specs.Harmonics.{added_to}
use Rattle.surface.specs.declared.Setting.{Setting}
use Rattle.surface.specs.Surface.{surface_of}
use Rattle.surface.specs.SurfaceLaws.{bounced_base, no_lamps}
use Rattle.gather.specs.declared.Incoming.{Incoming}
use Rattle.gather.specs.declared.Gathering.{Gathering}
use Rattle.gather.specs.Gather.{GatherInput, incoming, gathering, ambient_of, setting_of, direction_at, primary_ray, incoming_by, gathered_along, along_from, nothing_gathered, gathering_of, set_at, centre_at, voxel_of, cost_of, finished_of, sky_seen, sixteen_of, gathered_of}

module _ (scene : Scene) (setting : Setting) where
  unfoldable pub incoming_base : Ray → Vec3 → Option PlacedHit → Incoming
  incoming_base ray sky None = incoming sky 1 1
  incoming_base ray sky (Some met) =
      let sent = bounced_base scene setting (surface_of scene ray met.place met.hit.t setting.biases.hit) in
      incoming sent.light 0 (sent.rays + 1)

  unfoldable pub along_base : Vec3 → List Float → ℕ → ℕ → Gathering → Gathering
  along_base centre sky first i s =
      let k = first + i in
      let ray = primary_ray setting centre (direction_at k) in
      let n = incoming_base ray (vec_at sky (k * 3)) (nearest_of scene ray) in
      gathering (added_to s.sums (direction_at k) n.radiance) (s.misses + n.misses) (s.rays + n.rays)

  unfoldable pub gathering_base : Vec3 → List Float → ℕ → Gathering
  gathering_base centre sky first = fold (along_base centre sky first) primary_rays 0 nothing_gathered

  incoming_base_lem : (ray : Ray) (sky : Vec3) (found : Option PlacedHit) → incoming_by scene [] setting ray sky found ≡ incoming_base ray sky found
  unfolding incoming_by incoming_base
  incoming_base_lem ray sky None = refl
  incoming_base_lem ray sky (Some met) = rw (no_lamps scene setting (surface_of scene ray met.place met.hit.t setting.biases.hit)) refl

  along_base_lem : (centre : Vec3) (sky : List Float) (first i : ℕ) (s : Gathering)
      → along_from scene [] setting centre sky first i s ≡ along_base centre sky first i s
  unfolding gathered_along along_base
  along_base_lem centre sky first i s =
      let ray = primary_ray setting centre (direction_at (first + i)) in
      rw (incoming_base_lem ray (vec_at sky ((first + i) * 3)) (nearest_of scene ray)) refl

  fold_base : (centre : Vec3) (sky : List Float) (first k i : ℕ) (s : Gathering)
      → fold (along_from scene [] setting centre sky first) k i s ≡ fold (along_base centre sky first) k i s
  unfolding fold
  fold_base centre sky first zero i s = refl
  fold_base centre sky first (suc k) i s =
      fold_base centre sky first k (i + 1) (along_from scene [] setting centre sky first i s)
      ∙ ap (fold (along_base centre sky first) k (i + 1)) (along_base_lem centre sky first i s)

  gathering_base_lem : (centre : Vec3) (sky : List Float) (first : ℕ) → gathering_of scene [] setting centre sky first ≡ gathering_base centre sky first
  unfolding gathering_of gathering_base
  gathering_base_lem centre sky first = fold_base centre sky first primary_rays 0 nothing_gathered

-- the fold of voxel i by document 01 alone
unfoldable pub voxel_base : GatherInput → ℕ → Gathering
voxel_base g i =
    gathering_base g.scene (setting_of (edges_of g.corners g.axes) g.light g.ambient) (centre_at g.corners g.axes i) g.sky (set_at g.axes i * primary_rays)

voxel_base_lem : (g : GatherInput) (i : ℕ) → g.lamps ≡ [] → voxel_of g i ≡ voxel_base g i
unfolding voxel_of voxel_base
voxel_base_lem g i e = rw e (gathering_base_lem g.scene _ _ _ _)

-- its rays and its sixteen numbers
pub base_cost : (g : GatherInput) (i : ℕ) → g.lamps ≡ [] → cost_of g i ≡ (voxel_base g i).rays
unfolding cost_of
base_cost g i e = ap (λ (s : Gathering). s.rays) (voxel_base_lem g i e)

pub base_numbers : (g : GatherInput) (i : ℕ) → g.lamps ≡ []
    → gathered_of g i ≡ sixteen_of (finished_of (voxel_base g i).sums (ambient_of g.ambient)) (get_or g.lights i nan) (sky_seen (voxel_base g i).misses)
unfolding gathered_of
base_numbers g i e = rw (voxel_base_lem g i e) refl
