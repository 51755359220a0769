-- The gather does not read a tree's lists: step by step in the order of the definitions, the light on a surface, what it sends back, what comes along a ray, a
-- voxel's fold, its rays and its sixteen numbers.
use Rattle.std.specs.Prelude.{Option, None, Some, ◌≡◌, Bool, List, Float}
use Rattle.std.proofs.Math.Path.{refl, ap, fun_ext}
use Rattle.std.proofs.Common.{◌∙◌}
use Prim.Native.Nat.{ℕ, ◌+◌, ◌*◌}
use Rattle.names.specs.Bits.{zero32}
use Rattle.names.specs.Numbers.{primary_rays}
use Rattle.names.specs.Scene.{Scene, scene_for}
use Rattle.lists.specs.Fold.{fold}
use Rattle.vectors.specs.Places.{vec_at}
use Rattle.vectors.specs.declared.Vec3.{Vec3}
use Rattle.vectors.specs.declared.Ray.{Ray}
use Rattle.grid.specs.declared.Axes.{Axes}
use Rattle.grid.specs.declared.Corners.{Corners}
use Rattle.limits.specs.declared.Lamp.{Lamp}
use Rattle.limits.specs.declared.Light.{Light}
use Rattle.limits.specs.declared.Ambient.{Ambient}
use Rattle.limits.specs.Limits.{lamp_count, lamp_at}
use Rattle.bounce.specs.Lamps.{way_to}
use Rattle.scan.specs.Nearest.{nearest_of}
use Rattle.scan.specs.Transmittance.{transmittance_of}
use Rattle.scan.specs.declared.PlacedHit.{PlacedHit}
use Rattle.tracing.specs.UnreadLaws.{nearest_unread, transmittance_unread}
use Rattle.surface.specs.declared.Setting.{Setting}
use Rattle.surface.specs.declared.Surface.{Surface}
use Rattle.surface.specs.declared.Seen.{Seen}
use Rattle.surface.specs.declared.Traced.{Traced}
use Rattle.surface.specs.Surface.{surface_of, seen, shadow_ray, lamp_ray, sky_ray, seen_by, seen_of, sky_of, sun_of, daylight_of, lit_by, lit_after, fallen_on, bounced_by}
use Rattle.gather.specs.declared.Gathering.{Gathering}
use Rattle.gather.specs.Gather.{GatherInput, gather_of, direction_at, primary_ray, sent_back, incoming_by, incoming_of, gathered_along, nothing_gathered, gathering_of, voxel_of, cost_of, gathered_of}

module _ (boxed : Bool) (points : List Float) (uses kinds : List ℕ) (numbers boxes boxes' : List Float) (nodes order nodes' order' : List ℕ) where
  abbrev one : Scene
  one = scene_for boxed points uses kinds numbers boxes nodes order

  abbrev other : Scene
  other = scene_for boxed points uses kinds numbers boxes' nodes' order'

  passes_alike : (ray : Ray) → transmittance_of one ray ≡ transmittance_of other ray
  passes_alike = transmittance_unread boxed points uses kinds numbers boxes boxes' nodes order nodes' order'

  -- ---- the light on a surface

  module _ (setting : Setting) (surface : Surface) where
    -- along a ray of the hemisphere, and along all four
    seen_by_unread : (ray : Ray) (s : Seen) → seen_by one ray s ≡ seen_by other ray s
    unfolding seen_by
    seen_by_unread ray s = rw (passes_alike ray) refl

    seen_unread : seen_of one setting surface ≡ seen_of other setting surface
    unfolding seen_of
    seen_unread = ap (λ (f : ℕ → Seen → Seen). fold f 4 0 (seen zero32 0)) (fun_ext (λ j. fun_ext (λ s. seen_by_unread (sky_ray setting surface j) s)))

    sky_unread : sky_of one setting surface ≡ sky_of other setting surface
    unfolding sky_of
    sky_unread = rw seen_unread refl

    sun_unread : sun_of one setting surface ≡ sun_of other setting surface
    unfolding sun_of
    sun_unread = rw (passes_alike (shadow_ray setting surface)) refl

    pub daylight_unread : daylight_of one setting surface ≡ daylight_of other setting surface
    unfolding daylight_of
    daylight_unread = rw (sun_unread, sky_unread) refl

    -- of a lamp, and of all
    lit_by_unread : (lamp : Lamp) (fallen : Traced) → lit_by one setting surface lamp fallen ≡ lit_by other setting surface lamp fallen
    unfolding lit_by
    lit_by_unread lamp fallen = rw (passes_alike (lamp_ray setting surface (way_to surface.point lamp.position))) refl

    pub fallen_unread : (lamps : List Float) → fallen_on one lamps setting surface ≡ fallen_on other lamps setting surface
    unfolding fallen_on
    fallen_unread lamps =
        ap (λ (f : ℕ → Traced → Traced). fold f (lamp_count lamps) 0 (daylight_of one setting surface)) (fun_ext (λ j. fun_ext (λ t. lit_by_unread (lamp_at lamps j) t)))
        ∙ ap (fold (lit_after other lamps setting surface) (lamp_count lamps) 0) daylight_unread

    -- what it sends back
    pub bounced_unread : (lamps : List Float) → bounced_by one lamps setting surface ≡ bounced_by other lamps setting surface
    unfolding bounced_by
    bounced_unread lamps = rw (fallen_unread lamps) refl

  -- ---- what comes along a ray, and along a voxel's 64

  module _ (lamps : List Float) (setting : Setting) where
    sent_unread : (ray : Ray) (place : ℕ) (distance : Float) → sent_back one lamps setting ray place distance ≡ sent_back other lamps setting ray place distance
    unfolding surface_of
    sent_unread ray place distance = bounced_unread setting (surface_of one ray place distance setting.biases.hit) lamps

    incoming_by_unread : (ray : Ray) (sky : Vec3) (found : Option PlacedHit) → incoming_by one lamps setting ray sky found ≡ incoming_by other lamps setting ray sky found
    unfolding incoming_by
    incoming_by_unread ray sky None = refl
    incoming_by_unread ray sky (Some met) = rw (sent_unread ray met.place met.hit.t) refl

    pub incoming_unread : (ray : Ray) (sky : Vec3) → incoming_of one lamps setting ray sky ≡ incoming_of other lamps setting ray sky
    incoming_unread ray sky =
        incoming_by_unread ray sky (nearest_of one ray)
        ∙ ap (incoming_by other lamps setting ray sky) (nearest_unread boxed points uses kinds numbers boxes boxes' nodes order nodes' order' ray)

    along_unread : (centre : Vec3) (sky : List Float) (k : ℕ) (s : Gathering)
        → gathered_along one lamps setting centre sky k s ≡ gathered_along other lamps setting centre sky k s
    unfolding gathered_along
    along_unread centre sky k s = rw (incoming_unread (primary_ray setting centre (direction_at k)) (vec_at sky (k * 3))) refl

    pub gathering_unread : (centre : Vec3) (sky : List Float) (first : ℕ) → gathering_of one lamps setting centre sky first ≡ gathering_of other lamps setting centre sky first
    unfolding gathering_of
    gathering_unread centre sky first =
        ap (λ (f : ℕ → Gathering → Gathering). fold f primary_rays 0 nothing_gathered) (fun_ext (λ i. fun_ext (λ s. along_unread centre sky (first + i) s)))

  -- ---- a voxel

  module _ (axes : Axes) (corners : Corners) (light : Light) (ambient : Ambient) (sky lamps lights : List Float) where
    abbrev gather_from : Scene → GatherInput
    gather_from scene = gather_of axes corners scene light ambient sky lamps lights

    pub voxel_unread : (i : ℕ) → voxel_of (gather_from one) i ≡ voxel_of (gather_from other) i
    unfolding voxel_of
    voxel_unread i = gathering_unread lamps _ _ sky _

    -- its rays
    pub cost_unread : (i : ℕ) → cost_of (gather_from one) i ≡ cost_of (gather_from other) i
    unfolding cost_of
    cost_unread i = ap (λ (s : Gathering). s.rays) (voxel_unread i)

    -- its sixteen numbers
    pub gathered_unread : (i : ℕ) → gathered_of (gather_from one) i ≡ gathered_of (gather_from other) i
    unfolding gathered_of
    gathered_unread i = rw (voxel_unread i) refl
