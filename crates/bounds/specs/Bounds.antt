-- How large a number is, as a whole number times a power of two. Definitions only.
use Rattle.std.specs.Prelude.{ℕ, ◌*◌, ◌^◌, ◌≤◌, Float}
use Rattle.std.specs.Float.{nan, inf, fin}
use Rattle.std.specs.Float.Ieee.{up, down}
use Rattle.vectors.specs.declared.Vec3.{Vec3}

-- x is finite, and |x| ≤ n * 2 ^ k
unfoldable pub AtMost : ℕ → ℕ → Float → Type 0
AtMost n k nan = ⊥
AtMost n k (inf s) = ⊥
AtMost n k (fin s m e) = m * up e ≤ n * 2 ^ k * down e

-- x is finite, and n / 2 ^ k ≤ |x|
unfoldable pub AtLeast : ℕ → ℕ → Float → Type 0
AtLeast n k nan = ⊥
AtLeast n k (inf s) = ⊥
AtLeast n k (fin s m e) = n * down e ≤ m * up e * 2 ^ k

-- x is finite, and |x| ≤ n / 2 ^ k
unfoldable pub Under : ℕ → ℕ → Float → Type 0
Under n k nan = ⊥
Under n k (inf s) = ⊥
Under n k (fin s m e) = m * up e * 2 ^ k ≤ n * down e

-- |x| ≤ 2 ^ k
abbrev pub Within : ℕ → Float → Type 0
Within k x = AtMost 1 k x

-- each component
pub record EachAtMost (n k : ℕ) (a : Vec3) : Type 0 where
  pub x : AtMost n k a.x
  pub y : AtMost n k a.y
  pub z : AtMost n k a.z

pub record EachUnder (n k : ℕ) (a : Vec3) : Type 0 where
  pub x : Under n k a.x
  pub y : Under n k a.y
  pub z : Under n k a.z
