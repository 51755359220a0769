-- The integer part of the root: what the functions under `root` promise each other. Definitions only.
use Rattle.std.specs.Prelude.{◌≡◌, ℕ, ◌+◌, ◌*◌, ◌/◌, ◌%◌, ◌^◌, ◌<◌, ◌≤◌}

-- n is a number of 24 digits times 2 ^ 23 or 2 ^ 24
pub record Near (n : ℕ) : Type 0 where
  pub least : 70368744177664 ≤ n
  pub most : n ≤ 281474959933440

-- r has 24 binary digits, and r is the whole number nearest to √n: r - 1/2 < √n < r + 1/2
pub record Rounds (n r : ℕ) : Type 0 where
  pub least : 8388608 ≤ r
  pub most : r < 16777216
  pub low : r * r < n + r
  pub high : n ≤ r * r + r

-- the bits of √(m * 2 ^ e / 2 ^ 173): the digits r and the exponent's field, less one for the leading digit of r
pub record Rooted (m e b : ℕ) : Type 0 where
  pub r : ℕ
  pub bits : b ≡ (e / 2 + 51) * 8388608 + r
  pub rounds : Rounds (m * 2 ^ (23 + e % 2)) r

-- the same of t units, which are m * 2 ^ e / 2 ^ 24 for an m of 24 binary digits
pub record SmallRooted (t b : ℕ) : Type 0 where
  pub m : ℕ
  pub e : ℕ
  pub same : m * 2 ^ e ≡ t * 2 ^ 24
  pub full : 8388608 ≤ m
  pub small : e < 278
  pub rooted : Rooted m e b
