-- What the nearest hit is: no hit has a smaller distance, and none at an equal distance a higher place; there is nothing exactly where every
-- triangle is missed. So the answer is the one hit that is nearest, whatever the order of the walk.
use Rattle.std.specs.Prelude.{◌≡◌, Option, None, Some, length}
use Rattle.std.proofs.Math.Path.{refl, ap}
use Rattle.std.proofs.Common.{sym, ◌∙◌}
use Prim.Native.Nat.{ℕ, zero, suc}
use Rattle.names.specs.Scene.{Scene}
use Rattle.vectors.specs.declared.Ray.{Ray}
use Rattle.panels.specs.Panels.{meet_at}
use Rattle.scan.specs.Nearest.{nearer_of, nearest_to, nearest_of}
use Rattle.scan.specs.declared.PlacedHit.{PlacedHit}
use Rattle.hits.specs.BeforeLaws.{hit_number}
use Rattle.scan_laws.specs.BestLaws.{best_to, IsBest, AllMisses, best_is_best, nothing_is_misses, misses_is_nothing, best_is_answered}

module _ (scene : Scene) (ray : Ray) where
  -- among the first n triangles
  abbrev pub IsNearest : ℕ → PlacedHit → Type 0
  IsNearest n best = IsBest (meet_at scene ray) n best

  abbrev pub AllMissed : ℕ → Type 0
  AllMissed n = AllMisses (meet_at scene ray) n

  nearest_best : (n : ℕ) → nearest_to scene ray n ≡ best_to (meet_at scene ray) n
  unfolding nearest_to
  nearest_best zero = refl
  nearest_best (suc n) = ap (λ (b : Option PlacedHit). nearer_of b n (meet_at scene ray n)) (nearest_best n)

  -- a hit that is answered is the nearest
  pub nearest_is_nearest : (best : PlacedHit) → nearest_of scene ray ≡ Some best → IsNearest (length scene.uses) best
  unfolding nearest_of
  nearest_is_nearest best e = best_is_best (meet_at scene ray) (length scene.uses) best (sym (nearest_best (length scene.uses)) ∙ e)

  -- nothing is answered only where every triangle is missed
  pub nothing_is_missed : nearest_of scene ray ≡ None → AllMissed (length scene.uses)
  unfolding nearest_of
  nothing_is_missed e = nothing_is_misses (meet_at scene ray) (length scene.uses) (sym (nearest_best (length scene.uses)) ∙ e)

  -- and wherever it is
  pub missed_is_nothing : AllMissed (length scene.uses) → nearest_of scene ray ≡ None
  unfolding nearest_of
  missed_is_nothing h = nearest_best (length scene.uses) ∙ misses_is_nothing (meet_at scene ray) (length scene.uses) h

  -- the nearest hit is the answer
  pub nearest_is_answered : (best : PlacedHit) → IsNearest (length scene.uses) best → nearest_of scene ray ≡ Some best
  unfolding nearest_of
  nearest_is_answered best h =
      nearest_best (length scene.uses)
      ∙ best_is_answered (meet_at scene ray) (λ j k e. hit_number _ _ _ _ ray j k e) (length scene.uses) best h
