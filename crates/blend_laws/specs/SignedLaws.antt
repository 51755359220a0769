-- A sum and a product of finite numbers, each as a whole number of units with a sign: which fraction is rounded, and that a sum grows with both its numbers and a
-- product by a factor that is not negative with the other. Assumes nothing.
use Rattle.std.specs.Prelude.{◌≡◌, refl, Bool, cond, ℕ, ◌+◌, ◌-◌, ◌*◌, ◌≤◌, ◌<◌, ltb, Float}
use Rattle.std.proofs.Common.{ap, ◌∙◌, zero-le, mul-zero, mul-pos, ltb-true, ltb-false, le-ltb}
use Rattle.std.proofs.Math.Bool.{true, false, not}
use Rattle.std.proofs.Math.Nat.{zero-mul}
use native.Mathlib.Omega.{arith}
use Rattle.std.specs.Float.Ieee.{nan, unlike, round, neg, sum, add, mul, le, of_bits}
use Rattle.std.specs.Float.{inf, fin, binary32}
use Rattle.std.specs.Float.Ieee.Exact.{HasValue}
use Rattle.names.specs.Bits.{zero32, one32}
use Rattle.floats.specs.Units.{InUnits}
use Rattle.centre_laws.specs.Rounding.{add_of, mul_of}
use Rattle.blend_laws.specs.Signed.{below_zero, NoMore, SumRounded}
use Rattle.blend_laws.specs.RoundLaws.{no_more_of_le, no_more_times, no_more_back, round_no_more}

-- ---- which fraction is rounded

pub sum_rounded : (s : Bool) (a : ℕ) (t : Bool) (b c : ℕ) → SumRounded s a t b c (sum binary32 s a t b c)
unfolding sum
sum_rounded false a false b c = record { negative = false; size = a + b; same = refl; net = omega arith }
sum_rounded true a true b c = record { negative = true; size = a + b; same = refl; net = omega arith }
sum_rounded false a true b c = go (ltb a b) refl
  where
    go : (p : Bool) → ltb a b ≡ p → SumRounded false a true b c (cond p (round binary32 true (b - a) c) (round binary32 false (a - b) c))
    go true h = record { negative = true; size = b - a; same = refl; net = omega (arith, ltb-true a b h) }
    go false h = record { negative = false; size = a - b; same = refl; net = omega (arith, ltb-false a b h) }
sum_rounded true a false b c = go (ltb a b) (ltb b a) refl refl
  where
    go : (p q : Bool) → ltb a b ≡ p → ltb b a ≡ q → SumRounded true a false b c (cond p (round binary32 false (b - a) c) (round binary32 q (a - b) c))
    go true q h k = record { negative = false; size = b - a; same = refl; net = omega (arith, ltb-true a b h) }
    go false true h k = record { negative = true; size = a - b; same = refl; net = omega (arith, ltb-true b a k) }
    go false false h k = record { negative = false; size = a - b; same = refl; net = omega (arith, ltb-false a b h, ltb-false b a k) }

-- ---- numbers in units

module _ (c : ℕ) (C : 0 < c) where
  pub zero_in_units : HasValue zero32 false 0 c
  unfolding of_bits
  zero_in_units = (refl, zero-mul c)

  pub one_in_units : HasValue one32 false c c
  unfolding of_bits
  one_in_units = (refl, omega arith)

  pub neg_in_units : (x : Float) (s : Bool) (a : ℕ) → HasValue x s a c → HasValue (neg x) (not s) a c
  unfolding neg
  neg_in_units nan s a v = absurd v
  neg_in_units (inf t) s a v = absurd v
  neg_in_units (fin t m e) s a v = (ap not v.0, v.1)

  pub units_no_more : (x y : Float) (u : InUnits c x) (w : InUnits c y) → le x y ≡ true → NoMore u.negative u.size w.negative w.size
  units_no_more x y u w h =
      no_more_back u.negative u.size w.negative w.size c C (no_more_of_le x y u.negative w.negative u.size c w.size c C C u.exact w.exact h)

  -- 0 ≤ x
  pub not_negative : (x : Float) (u : InUnits c x) → le zero32 x ≡ true → below_zero u.negative u.size ≡ 0
  not_negative x u h = go u.negative u.size (units_no_more zero32 x (record { negative = false; size = 0; exact = zero_in_units }) u h)
    where
      go : (s : Bool) (a : ℕ) → NoMore false 0 s a → below_zero s a ≡ 0
      go false a g = refl
      go true a g = omega arith

  -- ---- the order of sums and of products

  pub add_no_more : (x y x' y' : Float) → InUnits c x → InUnits c y → InUnits c x' → InUnits c y' → le x x' ≡ true → le y y' ≡ true → le (add binary32 x y) (add binary32 x' y') ≡ true
  add_no_more x y x' y' u w u' w' h k =
      let r = sum_rounded u.negative u.size w.negative w.size c in
      let r' = sum_rounded u'.negative u'.size w'.negative w'.size c in
      let p = units_no_more x x' u u' h in
      let q = units_no_more y y' w w' k in
      let l : NoMore r.negative r.size r'.negative r'.size = omega (arith, r.net, r'.net, p, q) in
      rw (add_of x y _ _ _ _ c C u.exact w.exact ∙ r.same, add_of x' y' _ _ _ _ c C u'.exact w'.exact ∙ r'.same)
      (round_no_more r.negative r.size c r'.negative r'.size c C C (no_more_times r.negative r.size r'.negative r'.size c l))

  unlike_plus : (s : Bool) → unlike s false ≡ s
  unlike_plus true = refl
  unlike_plus false = refl

  nought : (s t : Bool) → NoMore s 0 t 0
  nought true true = zero-le
  nought true false = zero-le
  nought false true = zero-le
  nought false false = zero-le

  -- ±a ≤ ±b, times a factor that is not negative
  factor_no_more : (s : Bool) (a : ℕ) (s' : Bool) (a' : ℕ) (t : Bool) (b : ℕ) → below_zero t b ≡ 0 → NoMore s a s' a' → NoMore (unlike s t) (a * b) (unlike s' t) (a' * b)
  factor_no_more s a s' a' false b z h = rw (unlike_plus s, unlike_plus s') (no_more_times s a s' a' b h)
  factor_no_more s a s' a' true b z h = rw (z, mul-zero a, mul-zero a') (nought (unlike s true) (unlike s' true))

  pub mul_no_more : (x x' y : Float) → InUnits c x → InUnits c x' → (w : InUnits c y) → below_zero w.negative w.size ≡ 0 → le x x' ≡ true → le (mul binary32 x y) (mul binary32 x' y) ≡ true
  mul_no_more x x' y u u' w z h =
      let l = factor_no_more u.negative u.size u'.negative u'.size w.negative w.size z (units_no_more x x' u u' h) in
      rw (mul_of x y _ _ _ c _ c C C u.exact w.exact, mul_of x' y _ _ _ c _ c C C u'.exact w.exact)
      (round_no_more (unlike u.negative w.negative) (u.size * w.size) (c * c) (unlike u'.negative w.negative) (u'.size * w.size) (c * c) (mul-pos C C) (mul-pos C C)
      (no_more_times (unlike u.negative w.negative) (u.size * w.size) (unlike u'.negative w.negative) (u'.size * w.size) (c * c) l))

  -- ---- 1 − t, for a t from 0 to 1

  rest_sum : (s : Bool) (a : ℕ) → below_zero s a ≡ 0 → a ≤ c → sum binary32 false c (not s) a c ≡ round binary32 false (c - a) c
  unfolding sum
  rest_sum false a z m = rw (le-ltb c a m)
  rest_sum true a z m = let e : c + a ≡ c - a = omega arith in rw e

  pub rest_at : (t : Float) (u : InUnits c t) → le zero32 t ≡ true → le t one32 ≡ true → (u.size ≤ c) × (add binary32 one32 (neg t) ≡ round binary32 false (c - u.size) c)
  rest_at t u h k =
      let z = not_negative t u h in
      let l = units_no_more t one32 u (record { negative = false; size = c; exact = one_in_units }) k in
      let m = most u.negative u.size z l in
      (m, add_of one32 (neg t) false (not u.negative) c u.size c C one_in_units (neg_in_units t u.negative u.size u.exact) ∙ rest_sum u.negative u.size z m)
    where
      most : (s : Bool) (a : ℕ) → below_zero s a ≡ 0 → NoMore s a false c → a ≤ c
      most false a z l = omega arith
      most true a z l = omega arith
