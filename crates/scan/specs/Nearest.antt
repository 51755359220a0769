-- The nearest hit. "Nearest: smallest t; among equal t the highest list place. Places count the lent list, absent triangles too." The back
-- of a panel is no hit.
-- The definition goes through the list and keeps the better of what it holds and what it meets. Which is better goes by distance and place alone,
-- and not by the order of the walk.
use Rattle.std.specs.Prelude.{Option, None, Some, Bool, cond, ◌||◌, ◌&&◌, ℕ, zero, suc, length, ltb, Float}
use Rattle.std.specs.Float.Ieee as Ieee
use Rattle.names.specs.Scene.{Scene}
use Rattle.vectors.specs.declared.Ray.{Ray}
use Rattle.triangle.specs.declared.Hit.{Hit}
use Rattle.panels.specs.Panels.{meet_at}
use Rattle.scan.specs.declared.PlacedHit.{PlacedHit}

-- whether a hit at distance t and place i is kept over one at distance s and place j: it is nearer, or as near and of a higher place
unfoldable pub beats : Float → ℕ → Float → ℕ → Bool
beats t i s j = Ieee.lt t s || (Ieee.eq t s && ltb j i)

-- a hit at a place
abbrev pub placed : ℕ → Hit → PlacedHit
placed i h = record { place = i; hit = h }

-- the better of what is held and a meeting at place i
unfoldable pub nearer_of : Option PlacedHit → ℕ → Option Hit → Option PlacedHit
nearer_of best i None = best
nearer_of None i (Some h) = Some (placed i h)
nearer_of (Some held) i (Some h) = cond (beats h.t i held.hit.t held.place) (Some (placed i h)) (Some held)

-- the nearest hit among the first n triangles
unfoldable pub nearest_to : Scene → Ray → ℕ → Option PlacedHit
nearest_to scene ray zero = None
nearest_to scene ray (suc i) = nearer_of (nearest_to scene ray i) i (meet_at scene ray i)

-- and among all
unfoldable pub nearest_of : Scene → Ray → Option PlacedHit
nearest_of scene ray = nearest_to scene ray (length scene.uses)
