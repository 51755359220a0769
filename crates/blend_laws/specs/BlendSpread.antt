-- How far rounding takes a blend from its values. The blend of a number with itself is off by no more than its 2 ^ 22nd part and two units of 2 ^ -149: 1 − t is off by a part of 2 ^ -24, so is each
-- product and the sum, and each of these three may be off by half a unit where it is tiny. What a blend of two values lies between is near them, so. Assumes nothing.
use Rattle.std.specs.Prelude.{◌≡◌, refl, Bool, true, false, ◌⊎◌, ℕ, ◌+◌, ◌*◌, ◌^◌, ◌≤◌, ◌<◌, Float}
use Rattle.std.proofs.Common.{sym, ap, ◌∙◌, inl, inr, mul_assoc, mul_right_comm, mul-add, add-mul, mul-le-mul_left, mul-le-mul_right, le_of_mul-le-mul_right, arith}
use Rattle.std.proofs.lemmas.Bool.{false≢true}
use Rattle.std.specs.Float.{binary32}
use Rattle.std.specs.Float.Ieee.{unlike, le}
use Rattle.std.specs.Float.Ieee.Exact.{HasValue}
use Rattle.std.specs.Float.Ieee.Scale.{grid}
use Rattle.floats.specs.Units.{InUnits}
use Rattle.bounds.specs.BoundsLaws.{at_most_finite}
use Rattle.lookup.specs.Place.{blend_of}
use Rattle.blend_laws.specs.Signed.{above_zero, below_zero, NoMore}
use Rattle.blend_laws.specs.RoundErrors.{round_in_units}
use Rattle.blend_laws.specs.PartLaws.{part_error, sum_error, part_none, units_once}
use Rattle.blend_laws.specs.SignedLaws.{not_negative, units_no_more}
use Rattle.blend_laws.specs.Blendable.{Blendable, Weight, rest_units, part_units}
use Rattle.blend_laws.specs.WeightLaws.{unit_pos, value_units, weight_from, weight_units, rest_rounded}
use Rattle.blend_laws.specs.BlendWithin.{weights_over, weights_under, blend_rounded, blend_within}
use Rattle.blend_laws.specs.Nearness.{LittleOver, LittleUnder, NotFarAbove, NotFarBelow, NotFar}

-- ---- whole numbers: v units blended with themselves, by weights of w and t units, where u units are 1

-- the two products, p and q
products_over : (v w t p q u : ℕ) → 0 < u → p * u * 16777216 ≤ v * w * 16777217 + u * 8388608 → q * u * 16777216 ≤ v * t * 16777217 + u * 8388608 → (w + t) * 16777216 ≤ u * 16777217
    → (p + q) * 281474976710656 ≤ v * 281475010265089 + 281474976710656
products_over v w t p q u U h k l =
    let g : v * ((w + t) * 16777216) ≤ v * (u * 16777217) = mul-le-mul_left v l in
    let e : v * ((w + t) * 16777216) ≡ (v * w + v * t) * 16777216 = sym (mul_assoc v (w + t) 16777216) ∙ ap (λ (x : ℕ). x * 16777216) (mul-add v w t) in
    let f : v * (u * 16777217) ≡ v * u * 16777217 = sym (mul_assoc v u 16777217) in
    let m : (p + q) * 281474976710656 * u ≡ (p * u + q * u) * 281474976710656 = mul_right_comm (p + q) 281474976710656 u ∙ ap (λ (x : ℕ). x * 281474976710656) (add-mul p q u) in
    let n : (v * 281475010265089 + 281474976710656) * u ≡ v * u * 281475010265089 + 281474976710656 * u = add-mul (v * 281475010265089) 281474976710656 u ∙ ap (λ (x : ℕ). x + 281474976710656 * u) (mul_right_comm v 281475010265089 u) in
    le_of_mul-le-mul_right (omega arith) U

products_under : (v w t p q u : ℕ) → 0 < u → v * w * 16777215 ≤ p * u * 16777216 + u * 8388608 → v * t * 16777215 ≤ q * u * 16777216 + u * 8388608 → u * 16777215 ≤ (w + t) * 16777216
    → v * 281474943156225 ≤ (p + q) * 281474976710656 + 281474976710656
products_under v w t p q u U h k l =
    let g : v * (u * 16777215) ≤ v * ((w + t) * 16777216) = mul-le-mul_left v l in
    let e : v * ((w + t) * 16777216) ≡ (v * w + v * t) * 16777216 = sym (mul_assoc v (w + t) 16777216) ∙ ap (λ (x : ℕ). x * 16777216) (mul-add v w t) in
    let f : v * (u * 16777215) ≡ v * u * 16777215 = sym (mul_assoc v u 16777215) in
    let m : ((p + q) * 281474976710656 + 281474976710656) * u ≡ (p * u + q * u) * 281474976710656 + 281474976710656 * u = add-mul ((p + q) * 281474976710656) 281474976710656 u ∙ ap (λ (x : ℕ). x + 281474976710656 * u) (mul_right_comm (p + q) 281474976710656 u ∙ ap (λ (x : ℕ). x * 281474976710656) (add-mul p q u)) in
    let n : v * 281474943156225 * u ≡ v * u * 281474943156225 = mul_right_comm v 281474943156225 u in
    le_of_mul-le-mul_right (omega arith) U

-- and their sum z, rounded to s
sum_over : (v y s : ℕ) → y * 281474976710656 ≤ v * 281475010265089 + 281474976710656 → s * 16777216 ≤ y * 16777217 + 8388608 → s * 4194304 ≤ v * 4194305 + 8388608
sum_over v y s h k = omega arith

rounder : (v y : ℕ) → v * 281474943156225 ≤ y * 281474976710656 + 281474976710656 → v * 8388607 ≤ y * 8388608 + 8388608
rounder v y h = omega arith

sum_under : (v y s : ℕ) → v * 8388607 ≤ y * 8388608 + 8388608 → y * 16777215 ≤ s * 16777216 + 8388608 → v * 4194303 ≤ s * 4194304 + 8388608
sum_under v y s h k = omega arith

-- ---- signs

-- both products have the value's sign, or the second is 0; so the sum is that of their sizes, with that sign
sum_signed : (s : Bool) (p : ℕ) (o : Bool) (t q : ℕ) (r : Bool) (z : ℕ) → below_zero o t ≡ 0 → (t ≡ 0 → q ≡ 0)
    → above_zero r z + (below_zero (unlike s false) p + below_zero (unlike s o) q) ≡ below_zero r z + (above_zero (unlike s false) p + above_zero (unlike s o) q)
    → (z ≡ p + q) × ((r ≡ s) ⊎ (z ≡ 0))
sum_signed false p false t q false z b f h = (omega arith, inl refl)
sum_signed false p false t q true z b f h = (omega arith, inr (omega arith))
sum_signed true p false t q true z b f h = (omega arith, inl refl)
sum_signed true p false t q false z b f h = (omega arith, inr (omega arith))
sum_signed false p true t q false z b f h = (omega (arith, f b), inl refl)
sum_signed false p true t q true z b f h = (omega (arith, f b), inr (omega (arith, f b)))
sum_signed true p true t q true z b f h = (omega (arith, f b), inl refl)
sum_signed true p true t q false z b f h = (omega (arith, f b), inr (omega (arith, f b)))

signed_near : (r : Bool) (x : ℕ) (s : Bool) (v : ℕ) → x * 4194304 ≤ v * 4194305 + 8388608 → v * 4194303 ≤ x * 4194304 + 8388608 → (r ≡ s) ⊎ (x ≡ 0)
    → LittleOver 4194304 2 r x s v × LittleUnder 4194304 2 r x s v
signed_near false x false v h k o = (omega arith, omega arith)
signed_near true x true v h k o = (omega arith, omega arith)
signed_near false x true v h k (inl e) = absurd (false≢true e)
signed_near false x true v h k (inr z) = (omega arith, omega arith)
signed_near true x false v h k (inl e) = absurd (false≢true (sym e))
signed_near true x false v h k (inr z) = (omega arith, omega arith)

same_side : (b y s : Bool) (z x : ℕ) → b ≡ y → x * 16777216 ≤ z * 16777217 + 8388608 → (b ≡ s) ⊎ (z ≡ 0) → (y ≡ s) ⊎ (x ≡ 0)
same_side b y s z x q h (inl e) = inl (sym q ∙ e)
same_side b y s z x q h (inr e) = inr (omega arith)

-- ---- a blend of a value with itself

module _ (t : Float) (w : Weight t) (k : ℕ) (K : k ≤ 126) where
  pub itself_units : (v : Float) (p : Blendable k v) → (r : Blendable k (blend_of v v t))
      → LittleOver 4194304 2 (value_units k (blend_of v v t) r).negative (value_units k (blend_of v v t) r).size (value_units k v p).negative (value_units k v p).size
      × LittleUnder 4194304 2 (value_units k (blend_of v v t) r).negative (value_units k (blend_of v v t) r).size (value_units k v p).negative (value_units k v p).size
  itself_units v p r =
      let u = value_units k v p in
      let x = weight_units t w in
      let rest = rest_units x.size in
      let first = part_units u.size rest in
      let second = part_units u.size x.size in
      let b = blend_rounded t w k v v K p p in
      let y = value_units k (blend_of v v t) r in
      let l = (rest_rounded t w).0 in
      let n = sum_signed u.negative first x.negative x.size second b.negative b.size (not_negative (2 ^ 149) unit_pos t x (weight_from t w).0) (λ e. ap (λ (z : ℕ). part_units u.size z) e ∙ part_none u.size) b.net in
      let value : HasValue (blend_of v v t) b.negative (grid binary32 b.size (2 ^ 149)) (2 ^ 149) = rw b.same (round_in_units b.negative b.size (2 ^ 149) (rw b.same at (at_most_finite (blend_of v v t) 1 k r.within))) in
      let o = units_once (blend_of v v t) b.negative y.negative (grid binary32 b.size (2 ^ 149)) y.size (2 ^ 149) value y.exact in
      let e = rw o.1 at (sum_error b.size) in
      let h1 = part_error u.size rest in
      let h2 = part_error u.size x.size in
      let over = sum_over u.size b.size y.size (rw n.0 (products_over u.size rest x.size first second (2 ^ 149) unit_pos h1.0 h2.0 (weights_over x.size l))) e.0 in
      let under = sum_under u.size b.size y.size (rw n.0 (rounder u.size (first + second) (products_under u.size rest x.size first second (2 ^ 149) unit_pos h1.1 h2.1 (weights_under x.size l)))) e.1 in
      signed_near y.negative y.size u.negative u.size over under (same_side b.negative y.negative u.negative b.size y.size o.0 e.0 n.1)

  -- it lies near that value
  pub blend_itself_near : (v : Float) → Blendable k v → NotFar 4194304 2 (blend_of v v t) v
  blend_itself_near v p =
      let r = blend_within t w k v v K p p in
      let n = itself_units v p r in
      record { left = value_units k (blend_of v v t) r; right = value_units k v p; above = n.0; below = n.1 }

-- ---- what is no more than a number near y is not far above y, and what is no less is not far below

scaled : (a b c d k : ℕ) → a + b ≤ c + d → a * k + b * k ≤ c * k + d * k
scaled a b c d k h = let g : (a + b) * k ≤ (c + d) * k = mul-le-mul_right k h in omega (arith, add-mul a b k, add-mul c d k)

over_through : (part units : ℕ) (s : Bool) (a : ℕ) (r : Bool) (x : ℕ) (t : Bool) (b : ℕ) → NoMore s a r x → LittleOver part units r x t b → LittleOver part units s a t b
over_through part units s a r x t b h g =
    omega (
      arith,
      scaled (above_zero s a) (below_zero r x) (above_zero r x) (below_zero s a) part h,
      add-mul (above_zero s a) (below_zero t b) part,
      add-mul (above_zero t b) (below_zero s a) part,
      add-mul (above_zero r x) (below_zero t b) part,
      add-mul (above_zero t b) (below_zero r x) part,
    )

under_through : (part units : ℕ) (s : Bool) (a : ℕ) (r : Bool) (x : ℕ) (t : Bool) (b : ℕ) → NoMore r x s a → LittleUnder part units r x t b → LittleUnder part units s a t b
under_through part units s a r x t b h g =
    omega (
      arith,
      scaled (above_zero r x) (below_zero s a) (above_zero s a) (below_zero r x) part h,
      add-mul (above_zero s a) (below_zero t b) part,
      add-mul (above_zero t b) (below_zero s a) part,
      add-mul (above_zero r x) (below_zero t b) part,
      add-mul (above_zero t b) (below_zero r x) part,
    )

pub not_far_above : (part units : ℕ) (x m y : Float) → InUnits (2 ^ 149) x → NotFar part units m y → le x m ≡ true → NotFarAbove part units x y
not_far_above part units x m y u n h = record {
  left = u;
  right = n.right;
  near = over_through part units u.negative u.size n.left.negative n.left.size n.right.negative n.right.size (units_no_more (2 ^ 149) unit_pos x m u n.left h) n.above;
}

pub not_far_below : (part units : ℕ) (x m y : Float) → InUnits (2 ^ 149) x → NotFar part units m y → le m x ≡ true → NotFarBelow part units x y
not_far_below part units x m y u n h = record {
  left = u;
  right = n.right;
  near = under_through part units u.negative u.size n.left.negative n.left.size n.right.negative n.right.size (units_no_more (2 ^ 149) unit_pos m x n.left u h) n.below;
}
