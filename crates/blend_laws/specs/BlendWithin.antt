-- A blend stays where its values are: of two numbers from −2 ^ k to 2 ^ k it is one too, with nothing over for rounding, and of two that are not negative it is not negative. Assumes nothing.
use Rattle.std.specs.Prelude.{◌≡◌, refl, Bool, true, ℕ, zero, suc, ◌+◌, ◌-◌, ◌*◌, ◌^◌, ◌≤◌, ◌<◌, ℤ, T, Float}
use Rattle.std.proofs.Common.{sym, ap, ◌∙◌, le_trans, le_of_eq, lt_of_le_of_lt, sub-le, one-mul, mul_comm, mul_assoc, mul_left_comm, mul_right_comm, mul-pos, mul-le-mul_left, mul-add, mul-le-mul_right, le_of_mul-le-mul_right, add-mul, mul-div_cancel, arith, lit<, pow-add, pow_mono}
use Rattle.std.proofs.Math.Bool.{false}
use Rattle.std.specs.Float.{nan, inf, fin}
use Rattle.std.specs.Float.Ieee.{binary32, down, unlike, fits, size, sub, mul}
use Rattle.std.specs.Float.Ieee.Digits.{size-le}
use Rattle.std.specs.Float.Ieee.Fits.{down_pos, add-fits, sub-fits}
use Rattle.std.specs.Float.Ieee.Exact.{HasValue}
use Rattle.std.specs.Float.Ieee.Order.{drop}
use Rattle.std.specs.Float.Ieee.Scale.{finite, grid}
use Rattle.names.specs.Bits.{one32}
use Rattle.floats.specs.RootLaws.Units.{fits_spread, counted}
use Rattle.bounds.specs.Bounds.{AtMost, Within}
use Rattle.bounds.specs.BoundsLaws.{grid_most, at_most_finite}
use Rattle.lookup.specs.Place.{blend_of}
use Rattle.centre_laws.specs.Rounding.{add_of, mul_of}
use Rattle.blend_laws.specs.Signed.{above_zero, below_zero, SumRounded}
use Rattle.blend_laws.specs.RoundErrors.{grid_near, round_past_power, round_in_units}
use Rattle.blend_laws.specs.SignedLaws.{sum_rounded}
use Rattle.blend_laws.specs.Blendable.{Blendable, Weight, rest_units, part_units}
use Rattle.blend_laws.specs.WeightLaws.{unit_pos, value_units, weight_within, weight_units, rest_rounded, rest_within, part_finite}

-- ---- a number in units

-- |x| ≤ 2 ^ k
pub units_within : (x : Float) (s : Bool) (a k : ℕ) → HasValue x s a (2 ^ 149) → Within k x → a ≤ 2 ^ k * 2 ^ 149
unfolding AtMost
units_within nan s a k v h = absurd v
units_within (inf t) s a k v h = absurd v
units_within (fin t m e) s a k v h =
    le_of_mul-le-mul_right (le_trans (le_of_eq (sym v.1)) (le_trans (mul-le-mul_right (2 ^ 149) h) (le_of_eq (ap (λ (z : ℕ). z * down e * 2 ^ 149) (one-mul (2 ^ k)) ∙ mul_right_comm (2 ^ k) (down e) (2 ^ 149))))) (down_pos e)

plain_fits : (s : Bool) (m : ℕ) (e : ℤ) → T (fits binary32 (fin s m e)) → T (fits binary32 (fin false m e))
unfolding fits
plain_fits s zero e h = h
plain_fits s (suc m) e h = h

-- its 24 digits, and how far they are raised
units_spread : (x : Float) (s : Bool) (a : ℕ) → T (fits binary32 x) → HasValue x s a (2 ^ 149) → (n : ℕ) × (n < 16777216) × ((i : ℕ) × (a ≡ n * 2 ^ i))
units_spread nan s a f v = absurd v
units_spread (inf t) s a f v = absurd v
units_spread (fin t m e) s a f v =
    let p = fits_spread m e (plain_fits t m e f) in
    (m, p.0, (p.1.0, sym (counted m e a v.1) ∙ p.1.1))

-- ---- the two weights

-- the drop of a fraction that is at most 1
one_drop : (n : ℕ) → n ≤ 2 ^ 149 → 2 ^ drop 24 (n * 2 ^ 149) (2 ^ 149) ≤ 2 ^ 126
one_drop n h =
    let d : drop 24 (n * 2 ^ 149) (2 ^ 149) ≤ 126 = rw (mul-div_cancel n unit_pos) (let g : size n ≤ 150 = size-le n 150 (lt_of_le_of_lt h (lit< tt)) in omega arith) in
    pow_mono d

one_step : (x y u d e : ℕ) → 0 < u → d ≤ e → x * u * 2 ≤ y * u * 2 + u * d → x * 2 ≤ y * 2 + e
one_step x y u d e U h g =
    let k : d * u ≤ e * u = mul-le-mul_right u h in
    let l : x * 2 * u ≡ x * u * 2 = mul_right_comm x 2 u in
    let m : (y * 2 + e) * u ≡ y * u * 2 + e * u = add-mul (y * 2) e u ∙ ap (λ (z : ℕ). z + e * u) (mul_right_comm y 2 u) in
    le_of_mul-le-mul_right (omega (arith, mul_comm u d)) U

both_over : (w t u h : ℕ) → t ≤ u → w * 2 ≤ (u - t) * 2 + h → h * 8388608 ≡ u → (w + t) * 16777216 ≤ u * 16777217
both_over w t u h l g e = omega arith

both_under : (w t u h : ℕ) → t ≤ u → (u - t) * 2 ≤ w * 2 + h → h * 8388608 ≡ u → u * 16777215 ≤ (w + t) * 16777216
both_under w t u h l g e = omega arith

-- t and 1 − t, rounded, are together 1 but for its 2 ^ 24th part
pub weights_over : (t : ℕ) → t ≤ 2 ^ 149 → (rest_units t + t) * 16777216 ≤ 2 ^ 149 * 16777217
unfolding rest_units
weights_over t h =
    let n = 2 ^ 149 - t in
    both_over (grid binary32 n (2 ^ 149)) t (2 ^ 149) (2 ^ 126) h (one_step (grid binary32 n (2 ^ 149)) n (2 ^ 149) (2 ^ drop 24 (n * 2 ^ 149) (2 ^ 149)) (2 ^ 126) unit_pos (one_drop n (sub-le (2 ^ 149) t)) (grid_near n (2 ^ 149) unit_pos).0) refl

pub weights_under : (t : ℕ) → t ≤ 2 ^ 149 → 2 ^ 149 * 16777215 ≤ (rest_units t + t) * 16777216
unfolding rest_units
weights_under t h =
    let n = 2 ^ 149 - t in
    both_under (grid binary32 n (2 ^ 149)) t (2 ^ 149) (2 ^ 126) h (one_step n (grid binary32 n (2 ^ 149)) (2 ^ 149) (2 ^ drop 24 (n * 2 ^ 149) (2 ^ 149)) (2 ^ 126) unit_pos (one_drop n (sub-le (2 ^ 149) t)) (grid_near n (2 ^ 149) unit_pos).1) refl

-- ---- a value times a weight of w units: no more than w of them, raised by 2 ^ k
part_most : (a w n i k : ℕ) → a ≤ 2 ^ k * 2 ^ 149 → n < 16777216 → w ≡ n * 2 ^ i → part_units a w ≤ 2 ^ k * w
unfolding part_units
part_most a w n i k h N e =
    let u = 2 ^ 149 in
    let f : n * 2 ^ (i + k) ≡ 2 ^ k * w = ap (λ (z : ℕ). n * z) (pow-add 2 i k) ∙ sym (mul_assoc n (2 ^ i) (2 ^ k)) ∙ ap (λ (z : ℕ). z * 2 ^ k) (sym e) ∙ mul_comm w (2 ^ k) in
    le_trans (grid_most (a * w * u) (u * u) n (i + k) (mul-pos unit_pos unit_pos) N (rw f (le_trans (mul-le-mul_right u (mul-le-mul_right w h)) (le_of_eq (moved (2 ^ k) u w))))) (le_of_eq f)
  where
    moved : (p u w : ℕ) → p * u * w * u ≡ p * w * (u * u)
    moved p u w = simp (mul_assoc, mul_comm, mul_left_comm)

-- ---- the blend

-- a product in units
part_value : (x y : Float) (s t : Bool) (a b : ℕ) → HasValue x s a (2 ^ 149) → HasValue y t b (2 ^ 149) → finite (mul binary32 x y) ≡ true
    → HasValue (mul binary32 x y) (unlike s t) (part_units a b) (2 ^ 149)
unfolding part_units
part_value x y s t a b v w f =
    let e = mul_of x y s t a (2 ^ 149) b (2 ^ 149) unit_pos unit_pos v w in
    rw e (round_in_units (unlike s t) (a * b) (2 ^ 149 * 2 ^ 149) (rw e at f))

halves : (s : Bool) (a : ℕ) → above_zero s a + below_zero s a ≡ a
halves false a = omega arith
halves true a = omega arith

-- a sum is no longer than its two numbers together
pub net_most : (s : Bool) (a : ℕ) (t : Bool) (b : ℕ) (r : Bool) (z : ℕ) → above_zero r z + (below_zero s a + below_zero t b) ≡ below_zero r z + (above_zero s a + above_zero t b) → z ≤ a + b
net_most s a t b false z h = omega (arith, halves s a, halves t b)
net_most s a t b true z h = omega (arith, halves s a, halves t b)

raised : (z p q w t k u : ℕ) → z ≤ p + q → p ≤ k * w → q ≤ k * t → (w + t) * 16777216 ≤ u * 16777217 → z * 16777216 ≤ k * 16777217 * u
raised z p q w t k u h m n l =
    let g : k * ((w + t) * 16777216) ≤ k * (u * 16777217) = mul-le-mul_left k l in
    let e : k * ((w + t) * 16777216) ≡ (k * w + k * t) * 16777216 = sym (mul_assoc k (w + t) 16777216) ∙ ap (λ (x : ℕ). x * 16777216) (mul-add k w t) in
    let f : k * (u * 16777217) ≡ k * 16777217 * u = ap (λ (x : ℕ). k * x) (mul_comm u 16777217) ∙ sym (mul_assoc k 16777217 u) in
    omega arith

blend_fits : (a b t : Float) → T (fits binary32 (blend_of a b t))
unfolding blend_of
blend_fits a b t = add-fits binary32 (mul binary32 a (sub binary32 one32 t)) (mul binary32 b t)

module _ (t : Float) (w : Weight t) where
  pub rest_value : HasValue (sub binary32 one32 t) false (rest_units (weight_units t w).size) (2 ^ 149)
  unfolding rest_units
  rest_value =
      let e = (rest_rounded t w).1 in
      rw e (round_in_units false (2 ^ 149 - (weight_units t w).size) (2 ^ 149) (rw e at (at_most_finite (sub binary32 one32 t) 1 0 (rest_within t w))))

  module _ (k : ℕ) (a b : Float) (K : k ≤ 126) (p : Blendable k a) (q : Blendable k b) where
    -- which sum is rounded
    pub blend_rounded : SumRounded (unlike (value_units k a p).negative false) (part_units (value_units k a p).size (rest_units (weight_units t w).size))
        (unlike (value_units k b q).negative (weight_units t w).negative) (part_units (value_units k b q).size (weight_units t w).size) (2 ^ 149) (blend_of a b t)
    unfolding blend_of
    blend_rounded =
        let u = value_units k a p in
        let v = value_units k b q in
        let x = weight_units t w in
        let r = sub binary32 one32 t in
        let first = part_value a r u.negative false u.size (rest_units x.size) u.exact rest_value (part_finite k a r K p (rest_within t w)) in
        let second = part_value b t v.negative x.negative v.size x.size v.exact x.exact (part_finite k b t K q (weight_within t w)) in
        rw (add_of (mul binary32 a r) (mul binary32 b t) (unlike u.negative false) (unlike v.negative x.negative) (part_units u.size (rest_units x.size)) (part_units v.size x.size) (2 ^ 149) unit_pos first second)
        (sum_rounded (unlike u.negative false) (part_units u.size (rest_units x.size)) (unlike v.negative x.negative) (part_units v.size x.size) (2 ^ 149))

    -- of two values from −2 ^ k to 2 ^ k
    pub blend_within : Blendable k (blend_of a b t)
    blend_within =
        let u = value_units k a p in
        let v = value_units k b q in
        let x = weight_units t w in
        let f = units_spread (sub binary32 one32 t) false (rest_units x.size) (sub-fits binary32 one32 t) rest_value in
        let g = units_spread t x.negative x.size w.fit x.exact in
        let m = part_most u.size (rest_units x.size) f.0 f.2.0 k (units_within a u.negative u.size k u.exact p.within) f.1 f.2.1 in
        let n = part_most v.size x.size g.0 g.2.0 k (units_within b v.negative v.size k v.exact q.within) g.1 g.2.1 in
        let r = blend_rounded in
        let l = net_most (unlike u.negative false) (part_units u.size (rest_units x.size)) (unlike v.negative x.negative) (part_units v.size x.size) r.negative r.size r.net in
        record {
          fit = blend_fits a b t;
          within = rw r.same (round_past_power r.negative r.size (2 ^ 149) k unit_pos K
              (raised r.size (part_units u.size (rest_units x.size)) (part_units v.size x.size) (rest_units x.size) x.size (2 ^ k) (2 ^ 149) l m n (weights_over x.size (rest_rounded t w).0)));
        }
