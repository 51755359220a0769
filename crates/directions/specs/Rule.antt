-- Module 2's rule. "The exact squared length differs from 1 by at most 2^-20, and the third component differs from 1−k/32 by at
-- most 2^-20, with k=(i+o) mod 64 and o=32,16,48,8,40,24,56,4,36 for sets 0..8." Every finite f32 is a whole number of units of
-- 2^-149, so that the rule is said of whole numbers, exactly. Definitions only.
use Rattle.std.specs.Prelude.{Bool, true, false, List, [], ◌∷◌, ℕ, ◌+◌, ◌*◌, ◌^◌, ◌%◌, ◌≤◌, get_or, Float}
use Rattle.floats.specs.Units.{InUnits}

-- "o=32,16,48,8,40,24,56,4,36 for sets 0..8"
abbrev pub offsets : List ℕ
offsets = 32 ∷ 16 ∷ 48 ∷ 8 ∷ 40 ∷ 24 ∷ 56 ∷ 4 ∷ 36 ∷ []

-- k, of entry i of set s
abbrev pub step_of : ℕ → ℕ → ℕ
step_of s i = (i + get_or offsets s 0) % 64

-- a and b differ by at most d
pub record Close (d a b : ℕ) : Type 0 where
  pub low : b ≤ a + d
  pub high : a ≤ b + d

-- A third component of `size` units, above 0 or below, differs from 1 − k/32 by at most 2^-20. A unit is 2^-149, so k/32 is k · 2^144 units; what would be
-- taken away stands on the other side.
abbrev pub AtHeight : ℕ → Bool → ℕ → Type 0
AtHeight k false size = Close (2 ^ 129) (size + k * 2 ^ 144) (2 ^ 149)
AtHeight k true size = Close (2 ^ 129) (k * 2 ^ 144) (2 ^ 149 + size)

-- the rule of an entry with this k; a squared length counts units of 2^-298
pub record Ruled (k : ℕ) (x y z : Float) : Type 0 where
  pub in_x : InUnits (2 ^ 149) x
  pub in_y : InUnits (2 ^ 149) y
  pub in_z : InUnits (2 ^ 149) z
  pub length : Close (2 ^ 278) (in_x.size * in_x.size + in_y.size * in_y.size + in_z.size * in_z.size) (2 ^ 298)
  pub height : AtHeight k in_z.negative in_z.size
