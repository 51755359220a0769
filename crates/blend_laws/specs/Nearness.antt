-- How near two numbers are: a part of the second, and so many units of 2 ^ -149, where rounding stops. Definitions only.
use Rattle.std.specs.Prelude.{◌≡◌, ℕ, ◌+◌, ◌*◌, ◌^◌, ◌≤◌, Bool, true, Float}
use Rattle.std.specs.Float.Ieee.{le}
use Rattle.floats.specs.Units.{InUnits}
use Rattle.blend_laws.specs.Signed.{above_zero, below_zero}

-- ±a ≤ ±b + b / part + units, and ±b − b / part − units ≤ ±a
abbrev pub LittleOver : ℕ → ℕ → Bool → ℕ → Bool → ℕ → Type 0
LittleOver part units s a t b = (above_zero s a + below_zero t b) * part ≤ (above_zero t b + below_zero s a) * part + (b + units * part)

abbrev pub LittleUnder : ℕ → ℕ → Bool → ℕ → Bool → ℕ → Type 0
LittleUnder part units s a t b = (above_zero t b + below_zero s a) * part ≤ (above_zero s a + below_zero t b) * part + (b + units * part)

-- x ≤ y + |y| / part + units * 2 ^ -149
pub record NotFarAbove (part units : ℕ) (x y : Float) : Type 0 where
  pub left : InUnits (2 ^ 149) x
  pub right : InUnits (2 ^ 149) y
  pub near : LittleOver part units left.negative left.size right.negative right.size

-- y − |y| / part − units * 2 ^ -149 ≤ x
pub record NotFarBelow (part units : ℕ) (x y : Float) : Type 0 where
  pub left : InUnits (2 ^ 149) x
  pub right : InUnits (2 ^ 149) y
  pub near : LittleUnder part units left.negative left.size right.negative right.size

-- both
pub record NotFar (part units : ℕ) (x y : Float) : Type 0 where
  pub left : InUnits (2 ^ 149) x
  pub right : InUnits (2 ^ 149) y
  pub above : LittleOver part units left.negative left.size right.negative right.size
  pub below : LittleUnder part units left.negative left.size right.negative right.size

-- x lies between a and b, whichever is the lower, up to such a part of each
pub record BetweenThem (part units : ℕ) (x a b : Float) : Type 0 where
  pub rising : le a b ≡ true → NotFarBelow part units x a × NotFarAbove part units x b
  pub falling : le b a ≡ true → NotFarBelow part units x b × NotFarAbove part units x a
