-- What the laws of proofs/RuleLaws.antt are said with. Definitions only.
use Rattle.std.specs.Prelude.{◌+◌, ◌^◌, ◌<◌, length, Float}
use Rattle.floats.specs.Units.{InUnits}
use Rattle.directions.specs.Triples.{at}

-- each number of a ruled triple is below 1 + 2^-21 in magnitude: its square is at most the squared length
pub record Small (x : Float) : Type 0 where
  pub in_units : InUnits (2 ^ 149) x
  pub below : in_units.size < 2 ^ 149 + 2 ^ 128
