-- Magnitude, larger and smaller. Definitions only: specs/FiniteLaws.antt says what they mean.
use Rattle.std.specs.Prelude.{false, cond, ◌||◌, Float}
use Rattle.std.specs.Float.{nan, inf, fin}
use Rattle.std.specs.Float.Ieee.{is_nan, lt}

-- x with its sign made plus
unfoldable pub magnitude_of : Float → Float
magnitude_of nan = nan
magnitude_of (inf s) = inf false
magnitude_of (fin s m e) = fin false m e

-- "Of two equals, larger and smaller give the second, so −0 against +0 gives +0." A NaN gives a NaN.
unfoldable pub larger_of : Float → Float → Float
larger_of x y = cond (is_nan x || is_nan y) nan (cond (lt y x) x y)

unfoldable pub smaller_of : Float → Float → Float
smaller_of x y = cond (is_nan x || is_nan y) nan (cond (lt x y) x y)
