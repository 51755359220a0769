-- Numbers with a sign as two whole numbers, so that sums and comparisons of them have no cases. Definitions only.
use Rattle.std.specs.Prelude.{◌≡◌, Bool, true, false, ℕ, ◌+◌, ◌≤◌, Float}
use Rattle.std.specs.Float.{binary32}
use Rattle.std.specs.Float.Ieee.{round}

-- ±a is what stands above zero less what stands below: one of them is a, the other 0
abbrev pub above_zero : Bool → ℕ → ℕ
above_zero false a = a
above_zero true a = 0

abbrev pub below_zero : Bool → ℕ → ℕ
below_zero false a = 0
below_zero true a = a

-- ±a ≤ ±b
abbrev pub NoMore : Bool → ℕ → Bool → ℕ → Type 0
NoMore s a t b = above_zero s a + below_zero t b ≤ above_zero t b + below_zero s a

-- x is ±a / c + ±b / c, rounded once
pub record SumRounded (s : Bool) (a : ℕ) (t : Bool) (b c : ℕ) (x : Float) : Type 0 where
  pub negative : Bool
  pub size : ℕ
  pub same : x ≡ round binary32 negative size c
  pub net : above_zero negative size + (below_zero s a + below_zero t b) ≡ below_zero negative size + (above_zero s a + above_zero t b)
