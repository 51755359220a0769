-- A number within t of a difference p − m of whole numbers of units, said in natural numbers alone; and that a sum of two such numbers, rounded, is one again: near the sum of the
-- differences, further off by what one rounding moves. A unit is a dth part of 2^-149, so that no number need be an f32. Assumes nothing.
use Rattle.std.specs.Prelude.{◌≡◌, ℕ, ◌+◌, ◌-◌, ◌*◌, ◌^◌, ◌≤◌, ◌<◌, Bool, not, cond, Float}
use Rattle.std.proofs.Math.Path.{refl}
use Rattle.std.proofs.Common.{sym, ap, ◌∙◌, subst, mul_assoc, mul_right_comm, mul-pos, le_of_mul-le-mul_right, pow_pos}
use Rattle.std.proofs.Math.Bool.{true, false}
use native.Mathlib.Omega.{arith}
use borrow.Author.Tests.{ltb-true, ltb-false}
use Rattle.std.proofs.Math.Dec.{ltb}
use Rattle.std.specs.Float.{nan, inf, fin}
use Rattle.std.specs.Float.Ieee.{binary32, up, down, round, neg, sum, add, sub}
use Rattle.std.specs.Float.Ieee.Exact.{HasValue}
use Rattle.std.specs.Float.Ieee.Scale.{finite}
use Rattle.centre_laws.specs.Rounding.{rounded_from, add_of}

-- ±a lies within t of p − m
abbrev pub Apart : Bool → ℕ → ℕ → ℕ → ℕ → Type 0
Apart false a p m t = (a + m ≤ p + t) × (p ≤ a + m + t)
Apart true a p m t = (m ≤ p + a + t) × (p + a ≤ m + t)

pub record NearTo (d : ℕ) (x : Float) (p m t : ℕ) : Type 0 where
  pub minus : Bool
  pub size : ℕ
  pub value : HasValue x minus size (2 ^ 149 * d)
  pub apart : Apart minus size p m t

-- ---- one rounding

-- k whole units of 2^-149
pub finer_value : (d : ℕ) (x : Float) (s : Bool) (k : ℕ) → HasValue x s k (2 ^ 149) → HasValue x s (k * d) (2 ^ 149 * d)
finer_value d nan s k v = v
finer_value d (inf t) s k v = v
finer_value d (fin t m e) s k v = (v.0, sym (mul_assoc (m * up e) (2 ^ 149) d) ∙ ap (λ (z : ℕ). z * d) v.1 ∙ mul_right_comm k (down e) d)

off : (u d n k r : ℕ) → 0 < u → 16777216 * (k * (u * d)) ≤ 16777217 * (n * u) + 8388608 * (u * d) → 16777215 * (n * u) ≤ 16777216 * (k * (u * d)) + 8388608 * (u * d) → n + 8388608 * d ≤ 16777216 * r
    → (k * d ≤ n + r) × (n ≤ k * d + r)
off u d n k r U h l b =
    let h' : 16777216 * (k * d) ≤ 16777217 * n + 8388608 * d = le_of_mul-le-mul_right {k = u} (omega arith) U in
    let l' : 16777215 * n ≤ 16777216 * (k * d) + 8388608 * d = le_of_mul-le-mul_right {k = u} (omega arith) U in
    (omega arith, omega arith)

-- a size that lies within t of p − m, which is at most w in size
size_most : (s : Bool) (a p m t w : ℕ) → Apart s a p m t → p ≤ m + w → m ≤ p + w → a ≤ w + t
size_most false a p m t w h k l = omega arith
size_most true a p m t w h k l = omega arith

further : (s : Bool) (a b p m t r : ℕ) → Apart s a p m t → (b ≤ a + r) × (a ≤ b + r) → Apart s b p m (t + r)
further false a b p m t r h k = (omega arith, omega arith)
further true a b p m t r h k = (omega arith, omega arith)

round_near : (d : ℕ) (s : Bool) (a p m t w r : ℕ) → 0 < d → finite (round binary32 s a (2 ^ 149 * d)) ≡ true → Apart s a p m t → p ≤ m + w → m ≤ p + w → w + t + 8388608 * d ≤ 16777216 * r
    → NearTo d (round binary32 s a (2 ^ 149 * d)) p m (t + r)
round_near d s a p m t w r D f h k l b =
    let o = rounded_from s a (2 ^ 149 * d) (mul-pos (pow_pos 149) D) f in
    record {
      minus = s;
      size = o.units * d;
      value = finer_value d (round binary32 s a (2 ^ 149 * d)) s o.units o.value;
      apart = further s a (o.units * d) p m t r h (off (2 ^ 149) d a o.units r (pow_pos 149) o.most o.least (room a (size_most s a p m t w h k l)));
    }
  where
    room : (a : ℕ) → a ≤ w + t → a + 8388608 * d ≤ 16777216 * r
    room a z = omega arith

-- ---- sums and differences

module _ (d p m t q n v w r : ℕ) (D : 0 < d) (k : p + q ≤ m + n + w) (l : m + n ≤ p + q + w) (b : w + t + v + 8388608 * d ≤ 16777216 * r) where
  rounded : (s : Bool) (a : ℕ) → finite (round binary32 s a (2 ^ 149 * d)) ≡ true → Apart s a (p + q) (m + n) (t + v) → NearTo d (round binary32 s a (2 ^ 149 * d)) (p + q) (m + n) (t + v + r)
  rounded s a f h = round_near d s a (p + q) (m + n) (t + v) w r D f h k l (omega arith)

  sum_near : (s : Bool) (a : ℕ) (u : Bool) (c : ℕ) → Apart s a p m t → Apart u c q n v → finite (sum binary32 s a u c (2 ^ 149 * d)) ≡ true
      → NearTo d (sum binary32 s a u c (2 ^ 149 * d)) (p + q) (m + n) (t + v + r)
  unfolding sum
  sum_near false a false c g h f = rounded false (a + c) f (omega arith, omega arith)
  sum_near true a true c g h f = rounded true (a + c) f (omega arith, omega arith)
  sum_near false a true c g h f = go (ltb a c) refl f
    where
      go : (z : Bool) → ltb a c ≡ z → finite (cond z (round binary32 true (c - a) (2 ^ 149 * d)) (round binary32 false (a - c) (2 ^ 149 * d))) ≡ true
          → NearTo d (cond z (round binary32 true (c - a) (2 ^ 149 * d)) (round binary32 false (a - c) (2 ^ 149 * d))) (p + q) (m + n) (t + v + r)
      go true e f = let i = ltb-true a c e in rounded true (c - a) f (omega arith, omega arith)
      go false e f = let i = ltb-false a c e in rounded false (a - c) f (omega arith, omega arith)
  sum_near true a false c g h f = go (ltb a c) refl (ltb c a) refl f
    where
      go : (z : Bool) → ltb a c ≡ z → (y : Bool) → ltb c a ≡ y → finite (cond z (round binary32 false (c - a) (2 ^ 149 * d)) (round binary32 y (a - c) (2 ^ 149 * d))) ≡ true
          → NearTo d (cond z (round binary32 false (c - a) (2 ^ 149 * d)) (round binary32 y (a - c) (2 ^ 149 * d))) (p + q) (m + n) (t + v + r)
      go true e y o f = let i = ltb-true a c e in rounded false (c - a) f (omega arith, omega arith)
      go false e true o f = let i = ltb-false a c e in rounded true (a - c) f (omega arith, omega arith)
      go false e false o f = let i = ltb-false a c e in let j = ltb-false c a o in rounded false (a - c) f (omega arith, omega arith)

  pub add_near : (x y : Float) → finite (add binary32 x y) ≡ true → NearTo d x p m t → NearTo d y q n v → NearTo d (add binary32 x y) (p + q) (m + n) (t + v + r)
  add_near x y f g h =
      let e = add_of x y g.minus h.minus g.size h.size (2 ^ 149 * d) (mul-pos (pow_pos 149) D) g.value h.value in
      subst (λ (z : Float). NearTo d z (p + q) (m + n) (t + v + r)) (sym e) (sum_near g.minus g.size h.minus h.size g.apart h.apart (ap finite (sym e) ∙ f))

neg_value : (x : Float) (s : Bool) (a c : ℕ) → HasValue x s a c → HasValue (neg x) (not s) a c
unfolding neg
neg_value nan s a c v = v
neg_value (inf t) s a c v = v
neg_value (fin t i e) s a c v = (ap not v.0, v.1)

neg_near : (d : ℕ) (x : Float) (p m t : ℕ) → NearTo d x p m t → NearTo d (neg x) m p t
neg_near d x p m t h =
    record { minus = not h.minus; size = h.size; value = neg_value x h.minus h.size (2 ^ 149 * d) h.value; apart = turned h.minus h.size h.apart }
  where
    turned : (s : Bool) (a : ℕ) → Apart s a p m t → Apart (not s) a m p t
    turned false a h = (omega arith, omega arith)
    turned true a h = (omega arith, omega arith)

pub sub_near : (d p m t q n v w r : ℕ) → 0 < d → p + n ≤ m + q + w → m + q ≤ p + n + w → w + t + v + 8388608 * d ≤ 16777216 * r → (x y : Float) → finite (sub binary32 x y) ≡ true
    → NearTo d x p m t → NearTo d y q n v → NearTo d (sub binary32 x y) (p + n) (m + q) (t + v + r)
unfolding sub
sub_near d p m t q n v w r D k l b x y f g h = add_near d p m t n q v w r D k l b x (neg y) f g (neg_near d y q n v h)
