-- How the operations on vectors keep their components within bounds n * 2 ^ k. Each law is `BoundsLaws`' law at x, y and z. Assumes nothing.
use Rattle.std.specs.Prelude.{◌≡◌, ℕ, ◌+◌, ◌*◌, ◌^◌, ◌≤◌, ◌<◌, false, Float}
use Rattle.std.proofs.Common.{lt_of_le_of_lt, mul-le-mul_right, arith}
use Rattle.std.specs.Float.Ieee.{is_nan}
use Rattle.vectors.specs.declared.Vec3.{Vec3}
use Rattle.vectors.specs.Vectors.{add_v, sub_v, mul_v, scale_v, neg_v, dot_v, cross_v, larger_v, smaller_v, clamp_v}
use Rattle.bounds.specs.Bounds.{AtMost, EachAtMost, EachUnder}
use Rattle.bounds.specs.BoundsLaws.{at_most_up, neg_at_most, add_at_most, sub_at_most, mul_at_most, under_mul, larger_at_most, smaller_at_most, clamp_at_most}

pub each_up : (a : Vec3) (n k l j : ℕ) → n * 2 ^ k ≤ l * 2 ^ j → EachAtMost n k a → EachAtMost l j a
each_up a n k l j h b =
    record { x = at_most_up a.x n k l j h b.x; y = at_most_up a.y n k l j h b.y; z = at_most_up a.z n k l j h b.z }

pub neg_each : (a : Vec3) (n k : ℕ) → EachAtMost n k a → EachAtMost n k (neg_v a)
unfolding neg_v
neg_each a n k h = record { x = neg_at_most a.x n k h.x; y = neg_at_most a.y n k h.y; z = neg_at_most a.z n k h.z }

pub add_each : (a b : Vec3) (n l k : ℕ) → n + l < 16777216 → (n + l) * 2 ^ k < 2 ^ 128 → EachAtMost n k a → EachAtMost l k b → EachAtMost (n + l) k (add_v a b)
unfolding add_v
add_each a b n l k N B h g = record {
  x = add_at_most a.x b.x n l k N B h.x g.x;
  y = add_at_most a.y b.y n l k N B h.y g.y;
  z = add_at_most a.z b.z n l k N B h.z g.z;
}

pub sub_each : (a b : Vec3) (n l k : ℕ) → n + l < 16777216 → (n + l) * 2 ^ k < 2 ^ 128 → EachAtMost n k a → EachAtMost l k b → EachAtMost (n + l) k (sub_v a b)
unfolding sub_v
sub_each a b n l k N B h g = record {
  x = sub_at_most a.x b.x n l k N B h.x g.x;
  y = sub_at_most a.y b.y n l k N B h.y g.y;
  z = sub_at_most a.z b.z n l k N B h.z g.z;
}

pub mul_each : (a b : Vec3) (n j l k : ℕ) → n * l < 16777216 → n * l * 2 ^ (j + k) < 2 ^ 128 → EachAtMost n j a → EachAtMost l k b → EachAtMost (n * l) (j + k) (mul_v a b)
unfolding mul_v
mul_each a b n j l k N B h g = record {
  x = mul_at_most a.x b.x n j l k N B h.x g.x;
  y = mul_at_most a.y b.y n j l k N B h.y g.y;
  z = mul_at_most a.z b.z n j l k N B h.z g.z;
}

pub scale_each : (a : Vec3) (s : Float) (n j l k : ℕ) → n * l < 16777216 → n * l * 2 ^ (j + k) < 2 ^ 128 → EachAtMost n j a → AtMost l k s → EachAtMost (n * l) (j + k) (scale_v a s)
unfolding scale_v
scale_each a s n j l k N B h g = record {
  x = mul_at_most a.x s n j l k N B h.x g;
  y = mul_at_most a.y s n j l k N B h.y g;
  z = mul_at_most a.z s n j l k N B h.z g;
}

-- a vector whose components are fractions, by a number
pub scale_under : (a : Vec3) (s : Float) (n k l d : ℕ) → n * l < 16777216 → n * l * 2 ^ k < 2 ^ 128 → EachUnder l d a → AtMost (n * 2 ^ d) k s → EachAtMost (n * l) k (scale_v a s)
unfolding scale_v
scale_under a s n k l d N B h g = record {
  x = under_mul a.x s n k l d N B h.x g;
  y = under_mul a.y s n k l d N B h.y g;
  z = under_mul a.z s n k l d N B h.z g;
}

pub larger_each : (a b : Vec3) (n k : ℕ) → EachAtMost n k a → EachAtMost n k b → EachAtMost n k (larger_v a b)
unfolding larger_v
larger_each a b n k h g = record {
  x = larger_at_most a.x b.x n k h.x g.x;
  y = larger_at_most a.y b.y n k h.y g.y;
  z = larger_at_most a.z b.z n k h.z g.z;
}

pub smaller_each : (a b : Vec3) (n k : ℕ) → EachAtMost n k a → EachAtMost n k b → EachAtMost n k (smaller_v a b)
unfolding smaller_v
smaller_each a b n k h g = record {
  x = smaller_at_most a.x b.x n k h.x g.x;
  y = smaller_at_most a.y b.y n k h.y g.y;
  z = smaller_at_most a.z b.z n k h.z g.z;
}

pub clamp_each : (a : Vec3) → is_nan a.x ≡ false → is_nan a.y ≡ false → is_nan a.z ≡ false → EachAtMost 1 0 (clamp_v a)
unfolding clamp_v
clamp_each a h g i = record { x = clamp_at_most a.x h; y = clamp_at_most a.y g; z = clamp_at_most a.z i }

-- the bound of a dot is three times that of a product, and of a cross twice
less : (a b c p : ℕ) → a ≤ b → b * p < c → a * p < c
less a b c p h g = lt_of_le_of_lt (mul-le-mul_right p h) g

pub dot_at_most : (a b : Vec3) (n j l k : ℕ) → n * l + n * l + n * l < 16777216 → (n * l + n * l + n * l) * 2 ^ (j + k) < 2 ^ 128 → EachAtMost n j a → EachAtMost l k b → AtMost (n * l + n * l + n * l) (j + k) (dot_v a b)
unfolding dot_v
dot_at_most a b n j l k N B h g =
    let q = n * l in
    let N₁ : q < 16777216 = omega arith in
    let N₂ : q + q < 16777216 = omega arith in
    let B₁ : q * 2 ^ (j + k) < 2 ^ 128 = less q (q + q + q) (2 ^ 128) (2 ^ (j + k)) (omega arith) B in
    let B₂ : (q + q) * 2 ^ (j + k) < 2 ^ 128 = less (q + q) (q + q + q) (2 ^ 128) (2 ^ (j + k)) (omega arith) B in
    let x = mul_at_most a.x b.x n j l k N₁ B₁ h.x g.x in
    let y = mul_at_most a.y b.y n j l k N₁ B₁ h.y g.y in
    let z = mul_at_most a.z b.z n j l k N₁ B₁ h.z g.z in
    add_at_most _ _ (q + q) q (j + k) N B (add_at_most _ _ q q (j + k) N₂ B₂ x y) z

pub cross_each : (a b : Vec3) (n j l k : ℕ) → n * l + n * l < 16777216 → (n * l + n * l) * 2 ^ (j + k) < 2 ^ 128 → EachAtMost n j a → EachAtMost l k b → EachAtMost (n * l + n * l) (j + k) (cross_v a b)
unfolding cross_v
cross_each a b n j l k N B h g =
    let q = n * l in
    let N₁ : q < 16777216 = omega arith in
    let B₁ : q * 2 ^ (j + k) < 2 ^ 128 = less q (q + q) (2 ^ 128) (2 ^ (j + k)) (omega arith) B in
    record {
      x = sub_at_most _ _ q q (j + k) N B (mul_at_most a.y b.z n j l k N₁ B₁ h.y g.z) (mul_at_most a.z b.y n j l k N₁ B₁ h.z g.y);
      y = sub_at_most _ _ q q (j + k) N B (mul_at_most a.z b.x n j l k N₁ B₁ h.z g.x) (mul_at_most a.x b.z n j l k N₁ B₁ h.x g.z);
      z = sub_at_most _ _ q q (j + k) N B (mul_at_most a.x b.y n j l k N₁ B₁ h.x g.y) (mul_at_most a.y b.x n j l k N₁ B₁ h.y g.x);
    }
