-- What a voxel's gathering means: sixteen numbers, and with L lamps from 64 to 384+64L rays: one for each direction, and up to 5+L more
-- where it meets a surface.
use Rattle.std.specs.Prelude.{Option, None, Some, ◌≡◌, refl, List, length, Float, Bool, true, false, cond}
use Rattle.std.proofs.Common.{sym, ◌∙◌}
use Prim.Native.Nat.{ℕ, zero, suc, ◌+◌, ◌*◌, ◌<◌, ◌≤◌}
use Rattle.std.proofs.Math.Nat.{suc-mul}
use native.Mathlib.Omega.{arith}
use Rattle.names.specs.Numbers.{primary_rays, voxel_cost}
use Rattle.names.specs.Scene.{Scene}
use Rattle.lists.specs.Fold.{fold}
use Rattle.vectors.specs.declared.Vec3.{Vec3}
use Rattle.vectors.specs.declared.Ray.{Ray}
use Rattle.limits.specs.Limits.{lamp_count}
use Rattle.vectors.specs.Places.{vec_at}
use Rattle.triangle.specs.declared.Hit.{Hit}
use Rattle.panels.specs.Panels.{meet_at}
use Rattle.scan.specs.Nearest.{placed, nearest_of, nearest_to, nearer_of, beats}
use Rattle.scan.specs.declared.PlacedHit.{PlacedHit}
use Rattle.surface.specs.declared.Setting.{Setting}
use Rattle.surface.specs.Surface.{surface_of}
use Rattle.surface.specs.SurfaceLaws.{extra_most}
use Rattle.gather.specs.declared.Gathering.{Gathering}
use Rattle.gather.specs.Gather.{GatherInput, Gathered, incoming_by, primary_ray, direction_at, gathered_along, along_from, gathering_of, nothing_gathered, voxel_of, cost_of, gathered_of, sixteen_of}

-- ---- two results of a call are the same

pub gathered_once : (g : GatherInput) (i r s : ℕ) (out out' : List Float) → Gathered g i r out → Gathered g i s out' → (r ≡ s) × (out ≡ out')
gathered_once g i r s out out' p q = (p.rays ∙ sym q.rays, p.numbers ∙ sym q.numbers)

pub length_gathered : (g : GatherInput) (i : ℕ) → length (gathered_of g i) ≡ 16
unfolding gathered_of sixteen_of
length_gathered g i = refl

-- ---- the rays of one direction: the primary one, and at most five more and one for each lamp; and at most one miss

pub record Costs (lamps n misses : ℕ) : Type 0 where
  pub least : 1 ≤ n
  pub most : n ≤ 6 + lamps
  pub missed : misses ≤ 1

pub incoming_costs : (scene : Scene) (lamps : List Float) (setting : Setting) (ray : Ray) (sky : Vec3) (found : Option PlacedHit)
    → Costs (lamp_count lamps) (incoming_by scene lamps setting ray sky found).rays (incoming_by scene lamps setting ray sky found).misses
unfolding incoming_by
incoming_costs scene lamps setting ray sky None = record { least = omega arith; most = omega arith; missed = omega arith }
incoming_costs scene lamps setting ray sky (Some met) =
    let h = extra_most scene lamps setting (surface_of scene ray met.place met.hit.t setting.biases.hit) in
    record { least = omega arith; most = omega arith; missed = omega arith }

pub along_adds : (scene : Scene) (lamps : List Float) (setting : Setting) (centre : Vec3) (sky : List Float) (k : ℕ) (s : Gathering)
    → ((gathered_along scene lamps setting centre sky k s).rays ≤ s.rays + (6 + lamp_count lamps))
    × ((gathered_along scene lamps setting centre sky k s).misses ≤ s.misses + 1)
unfolding gathered_along
along_adds scene lamps setting centre sky k s =
    let h = incoming_costs scene lamps setting (primary_ray setting centre (direction_at k)) (vec_at sky (k * 3)) (nearest_of scene (primary_ray setting centre (direction_at k))) in
    (omega (arith, h.most), omega (arith, h.missed))

-- ---- the rays of a voxel

module _ (scene : Scene) (lamps : List Float) (setting : Setting) (centre : Vec3) (sky : List Float) (first : ℕ) where
  -- after k more directions
  pub fold_costs : (k i : ℕ) (s : Gathering)
      → (s.rays + k ≤ (fold (along_from scene lamps setting centre sky first) k i s).rays)
      × ((fold (along_from scene lamps setting centre sky first) k i s).rays ≤ s.rays + k * (6 + lamp_count lamps))
      × ((fold (along_from scene lamps setting centre sky first) k i s).misses ≤ s.misses + k)
  unfolding fold gathered_along
  fold_costs zero i s = (omega arith, omega arith, omega arith)
  fold_costs (suc k) i s =
      let h = incoming_costs scene lamps setting (primary_ray setting centre (direction_at (first + i))) (vec_at sky ((first + i) * 3)) (nearest_of scene (primary_ray setting centre (direction_at (first + i)))) in
      let r = fold_costs k (i + 1) (along_from scene lamps setting centre sky first i s) in
      (omega (arith, h.least, r.0), omega (arith, h.most, r.1, suc-mul k (6 + lamp_count lamps)), omega (arith, h.missed, r.2))

  pub gathering_costs : (primary_rays ≤ (gathering_of scene lamps setting centre sky first).rays)
      × ((gathering_of scene lamps setting centre sky first).rays ≤ voxel_cost (lamp_count lamps))
      × ((gathering_of scene lamps setting centre sky first).misses ≤ primary_rays)
  unfolding gathering_of
  gathering_costs =
      let r = fold_costs primary_rays 0 nothing_gathered in
      (omega (arith, r.0), omega (arith, r.1), omega (arith, r.2))

pub cost_least : (g : GatherInput) (i : ℕ) → primary_rays ≤ cost_of g i
unfolding cost_of voxel_of
cost_least g i = (gathering_costs _ _ _ _ _ _).0

pub cost_most : (g : GatherInput) (i : ℕ) → cost_of g i ≤ voxel_cost (lamp_count g.lamps)
unfolding cost_of voxel_of
cost_most g i = (gathering_costs _ _ _ _ _ _).1

pub misses_most : (g : GatherInput) (i : ℕ) → (voxel_of g i).misses ≤ primary_rays
unfolding voxel_of
misses_most g i = (gathering_costs _ _ _ _ _ _).2

-- ---- where a surface is met, it is one of the scene's

-- the place of a hit is below n
unfoldable pub PlaceBelow : ℕ → Option PlacedHit → Type 0
PlaceBelow n None = Unit
PlaceBelow n (Some best) = best.place < n

later : (n : ℕ) (found : Option PlacedHit) → PlaceBelow n found → PlaceBelow (suc n) found
unfolding PlaceBelow
later n None h = tt
later n (Some best) h = omega arith

nearer_below : (n : ℕ) (best : Option PlacedHit) (m : Option Hit) → PlaceBelow n best → PlaceBelow (suc n) (nearer_of best n m)
unfolding PlaceBelow nearer_of
nearer_below n best None h = later n best h
nearer_below n None (Some m) h = omega arith
nearer_below n (Some best) (Some m) h = go (beats m.t n best.hit.t best.place)
  where
    go : (b : Bool) → PlaceBelow (suc n) (cond b (Some (placed n m)) (Some best))
    go true = omega arith
    go false = omega arith

pub nearest_below : (scene : Scene) (ray : Ray) (n : ℕ) → PlaceBelow n (nearest_to scene ray n)
unfolding nearest_to PlaceBelow
nearest_below scene ray zero = tt
nearest_below scene ray (suc n) = nearer_below n (nearest_to scene ray n) (meet_at scene ray n) (nearest_below scene ray n)

-- so a hit's place is one of the scene's triangles
pub place_below : (scene : Scene) (ray : Ray) (best : PlacedHit) → nearest_of scene ray ≡ Some best → best.place < length scene.uses
unfolding nearest_of PlaceBelow
place_below scene ray best e = rw e at (nearest_below scene ray (length scene.uses))
