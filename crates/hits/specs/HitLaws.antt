-- What the laws of proofs/HitLaws.antt are said with. Definitions only.
use Rattle.std.specs.Prelude.{◌≡◌, Some, Bool, ℕ, ◌<◌, Float}
use Rattle.names.specs.Scene.{Scene}
use Rattle.vectors.specs.declared.Ray.{Ray}
use Rattle.triangle.specs.Meet.{hit_of}
use Rattle.panels.specs.Panels.{meet_at}
use Rattle.hits.specs.Hits.{Struck}

-- ---- all of them

-- a hit of the ray at a place below n
pub record Stands (scene : Scene) (ray : Ray) (n : ℕ) (h : Struck) : Type 0 where
  pub within : h.place < n
  pub first : Float
  pub second : Float
  pub front : Bool
  pub met : meet_at scene ray h.place ≡ Some (hit_of h.distance first second front)
