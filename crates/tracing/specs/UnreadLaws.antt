-- Neither scan reads a tree's lists: which boxes a tree has changes no answer.
use Rattle.std.specs.Prelude.{◌≡◌, Bool, length, Float}
use Rattle.std.proofs.Math.Path.{refl, ap}
use mathlib.Core.List.{List}
use Prim.Native.Nat.{ℕ, zero, suc}
use Rattle.names.specs.Bits.{one32}
use Rattle.names.specs.Scene.{Scene, scene_for, Sound}
use Rattle.vectors.specs.declared.Ray.{Ray}
use Rattle.hits.specs.Hits.{Struck, hits_of, places_of}
use Rattle.scan.specs.Nearest.{nearest_to, nearest_of}
use Rattle.scan.specs.Transmittance.{pass_of, transmittance_of}

-- whether a scene's lists fit each other is asked of four lists alone
pub sound_unread : {points : List Float} {uses kinds : List ℕ} {numbers boxes boxes' : List Float} {nodes order nodes' order' : List ℕ} (boxed boxed' : Bool)
    → Sound (scene_for boxed points uses kinds numbers boxes nodes order) → Sound (scene_for boxed' points uses kinds numbers boxes' nodes' order')
sound_unread boxed boxed' s = record { points = s.points; numbers = s.numbers; triangles = s.triangles; materials = s.materials; within = s.within }

module _ (boxed : Bool) (points : List Float) (uses kinds : List ℕ) (numbers boxes boxes' : List Float) (nodes order nodes' order' : List ℕ) (ray : Ray) where
  abbrev one : Scene
  one = scene_for boxed points uses kinds numbers boxes nodes order

  abbrev other : Scene
  other = scene_for boxed points uses kinds numbers boxes' nodes' order'

  nearest_to_unread : (n : ℕ) → nearest_to one ray n ≡ nearest_to other ray n
  unfolding nearest_to
  nearest_to_unread zero = refl
  nearest_to_unread (suc n) = rw (nearest_to_unread n) refl

  pub nearest_unread : nearest_of one ray ≡ nearest_of other ray
  unfolding nearest_of
  nearest_unread = nearest_to_unread (length uses)

  hits_unread : (n : ℕ) → hits_of one ray n ≡ hits_of other ray n
  unfolding hits_of
  hits_unread zero = refl
  hits_unread (suc n) = rw (hits_unread n) refl

  pub transmittance_unread : transmittance_of one ray ≡ transmittance_of other ray
  unfolding transmittance_of
  transmittance_unread = ap (λ (hs : List Struck). pass_of uses kinds numbers one32 (places_of hs)) (hits_unread (length uses))
