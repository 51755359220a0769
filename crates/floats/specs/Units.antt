-- A finite number exactly, as a whole number of units. Definitions only.
use Rattle.std.specs.Prelude.{ℕ, Bool, Float}
use Rattle.std.specs.Float.Ieee.Exact.{HasValue}

-- x is finite, and it is `size` units of 1 / c, or as many below 0 where it is negative, with nothing over. A zero has a sign too.
pub record InUnits (c : ℕ) (x : Float) : Type 0 where
  pub negative : Bool
  pub size : ℕ
  pub exact : HasValue x negative size c
