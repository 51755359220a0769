-- A number less than 1 from a whole number, by its exact value; and a coordinate clamped to an axis. Definitions only.
use Rattle.std.specs.Prelude.{ℕ, ◌+◌, ◌-◌, ◌*◌, ◌<◌, true, false, Float}
use Rattle.std.specs.Float.{nan, inf, fin}
use Rattle.std.specs.Float.Ieee.{up, down}
use Rattle.names.specs.Bits.{zero32}
use Rattle.floats.specs.Choice.{larger_of, smaller_of}
use Rattle.grid.specs.Grid.{float_of}

-- x is finite, and i − 1 < x < i + 1
unfoldable pub WithinOne : ℕ → Float → Type 0
WithinOne i nan = ⊥
WithinOne i (inf s) = ⊥
WithinOne i (fin false m e) = (i * down e < m * up e + down e) × (m * up e < (i + 1) * down e)
WithinOne i (fin true m e) = i * down e + m * up e < down e

-- "clamped to 0..axis−1": the larger of x and 0, then the smaller of that and n − 1
abbrev pub within_axis : ℕ → Float → Float
within_axis n x = smaller_of (larger_of x zero32) (float_of (n - 1))
