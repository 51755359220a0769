-- What lies within 1 of i, clamped to 0..n−1 with i below n, and comes out whole, is i: between the ends no other whole number lies there, and what is clamped to an end has its cell there.
-- Assumes nothing.
use Rattle.std.specs.Prelude.{◌≡◌, ℕ, ◌+◌, ◌-◌, ◌*◌, ◌/◌, ◌^◌, ◌≤◌, ◌<◌, Bool, ℤ, Float}
use Rattle.std.proofs.Math.Path.{refl, ap}
use Rattle.std.proofs.Common.{sym, ◌∙◌, subst, le_of_eq, mul-one, mul-lt-mul_of_pos_right, lt_of_mul-lt-mul_right, lt_of_le_of_lt, div-mul-le_self, arith, lit<, pow_pos}
use Rattle.std.proofs.Math.Bool.{true, false, cond}
use Rattle.std.proofs.lemmas.Bool.{false≢true}
use borrow.Author.Tests.{ltb-false, lt-ltb}
use Rattle.std.proofs.Math.Dec.{ltb}
use Rattle.std.specs.Float.Ieee.{nan, binary32, up, down, round, neg, lt, is_nan, of_bits, of_int}
use Rattle.std.specs.Float.{inf, fin}
use Rattle.std.specs.Float.Ieee.Fits.{down_pos}
use Rattle.std.specs.Float.Ieee.Exact.{HasValue}
use Rattle.names.specs.Bits.{zero32, one32}
use Rattle.floats.specs.Choice.{larger_of, smaller_of}
use Rattle.floats.specs.Whole.{step, toward, floor_of}
use Rattle.floats.specs.WholeLaws.Steps.{step_whole, toward_of}
use Rattle.floats.specs.FiniteLaws.{larger_number, smaller_number}
use Rattle.floats.specs.OrderLaws.{lt_values}
use Rattle.grid.specs.Grid.{float_of}
use Rattle.std.specs.Float.Ieee as Ieee
use Rattle.std.specs.Float.Ieee.Back.{round_whole}
use Rattle.centre_laws.specs.Near.{Apart, NearTo}
use Rattle.centre_laws.specs.WithinOne.{WithinOne, within_axis}

-- a small whole number as a float is that number
whole_value : (a : ℕ) → a ≤ 16777216 → HasValue (float_of a) false a 1
unfolding Ieee.of_int
whole_value a h = round_whole binary32 false a h

-- ---- from units: m / e is a / u, and ±a lies within t of i · u

inside : (a i m e u t b : ℕ) → 0 < u → 0 < e → m * u ≡ a * e → Apart false a (i * u + b + 0) (0 + b) t → t < u → (i * e < m + e) × (m < (i + 1) * e)
inside a i m e u t b U E v h l =
    let lo : i * u < a + u = omega arith in
    let hi : a < (i + 1) * u = omega arith in
    let lo' = mul-lt-mul_of_pos_right lo E in
    let hi' = mul-lt-mul_of_pos_right hi E in
    (lt_of_mul-lt-mul_right u (omega arith), lt_of_mul-lt-mul_right u (omega arith))

inside_minus : (a i m e u t b : ℕ) → 0 < u → 0 < e → m * u ≡ a * e → Apart true a (i * u + b + 0) (0 + b) t → t < u → i * e + m < e
inside_minus a i m e u t b U E v h l =
    let hi : i * u + a < u = omega arith in
    let hi' = mul-lt-mul_of_pos_right hi E in
    lt_of_mul-lt-mul_right u (omega arith)

pub near_within : (x : Float) (i b t : ℕ) → t < 2 ^ 149 → NearTo 1 x (i * 2 ^ 149 + b + 0) (0 + b) t → WithinOne i x
unfolding WithinOne
near_within x i b t l h = go x h.minus h.size h.value h.apart
  where
    go : (x : Float) (s : Bool) (a : ℕ) → HasValue x s a (2 ^ 149) → Apart s a (i * 2 ^ 149 + b + 0) (0 + b) t → WithinOne i x
    go nan s a v h = absurd v
    go (inf r) s a v h = absurd v
    go (fin false m e) true a v h = absurd (false≢true v.0)
    go (fin true m e) false a v h = absurd (false≢true (sym v.0))
    go (fin false m e) false a v h = inside a i (m * up e) (down e) (2 ^ 149) t b (pow_pos 149) (down_pos e) v.1 h l
    go (fin true m e) true a v h = inside_minus a i (m * up e) (down e) (2 ^ 149) t b (pow_pos 149) (down_pos e) v.1 h l

-- ---- as floats compare

minus_one_value : HasValue (neg one32) true 1 1
unfolding neg of_bits
minus_one_value = (refl, refl)

pub below_next : (i : ℕ) (x : Float) → i < 16777216 → WithinOne i x → lt x (float_of (i + 1)) ≡ true
unfolding WithinOne
below_next i nan b w = absurd w
below_next i (inf s) b w = absurd w
below_next i (fin false m e) b w =
    lt_values (fin false m e) (float_of (i + 1)) false false (m * up e) (down e) (i + 1) 1 (down_pos e) (lit< tt) (refl, refl) (whole_value (i + 1) (omega arith)) ∙ lt-ltb (m * up e * 1) ((i + 1) * down e) (omega arith)
below_next i (fin true m e) b w =
    let d = down_pos e in
    lt_values (fin true m e) (float_of (i + 1)) true false (m * up e) (down e) (i + 1) 1 (down_pos e) (lit< tt) (refl, refl) (whole_value (i + 1) (omega arith)) ∙ lt-ltb 0 (m * up e * 1 + (i + 1) * down e) (omega arith)

pub above_previous : (i : ℕ) (x : Float) → i < 16777216 → WithinOne (i + 1) x → lt (float_of i) x ≡ true
unfolding WithinOne
above_previous i nan b w = absurd w
above_previous i (inf s) b w = absurd w
above_previous i (fin false m e) b w =
    lt_values (float_of i) (fin false m e) false false i 1 (m * up e) (down e) (lit< tt) (down_pos e) (whole_value i (omega arith)) (refl, refl) ∙ lt-ltb (i * down e) (m * up e * 1) (omega (arith, w.0))
above_previous i (fin true m e) b w = absurd (omega (arith, w))

-- and −1 is below what lies within 1 of 0
pub past_minus_one : (x : Float) → WithinOne 0 x → lt (neg one32) x ≡ true
unfolding WithinOne
past_minus_one nan w = absurd w
past_minus_one (inf s) w = absurd w
past_minus_one (fin false m e) w =
    let d = down_pos e in
    lt_values (neg one32) (fin false m e) true false 1 1 (m * up e) (down e) (lit< tt) (down_pos e) minus_one_value (refl, refl) ∙ lt-ltb 0 (1 * down e + m * up e * 1) (omega arith)
past_minus_one (fin true m e) w =
    lt_values (neg one32) (fin true m e) true true 1 1 (m * up e) (down e) (lit< tt) (down_pos e) minus_one_value (refl, refl) ∙ lt-ltb (m * up e * 1) (1 * down e) (omega arith)

-- ---- clamped and whole

value_number : (x : Float) (s : Bool) (a c : ℕ) → HasValue x s a c → is_nan x ≡ false
unfolding is_nan
value_number nan s a c v = absurd v
value_number (inf r) s a c v = absurd v
value_number (fin r m e) s a c v = refl

zero_value : HasValue zero32 false 0 1
unfolding of_bits
zero_value = (refl, refl)

zero_float : zero32 ≡ float_of 0
unfolding of_bits of_int
zero_float = refl

-- nothing with a minus is above 0
minus_below : (m : ℕ) (e : ℤ) → lt zero32 (fin true m e) ≡ false
unfolding lt of_bits
minus_below m e = refl

-- a whole number that is not negative is its whole part's float
whole_part : (m : ℕ) (e : ℤ) → floor_of (fin false m e) ≡ float_of (m * up e / down e)
unfolding toward step of_int
whole_part m e = refl

-- k whole ones of e are m, and m lies within e of i of them
only : (k i m e : ℕ) → m * 1 ≡ k * e → i * e < m + e → m < (i + 1) * e → k ≡ i
only k i m e v h l =
    let a : i < k + 1 = lt_of_mul-lt-mul_right e (omega arith) in
    let b : k < i + 1 = lt_of_mul-lt-mul_right e (omega arith) in
    omega arith

-- n − 1 of e are at most m, and m lies below i + 1 of them
last : (n i m e : ℕ) → i < n → (n - 1) * e ≤ m * 1 → m < (i + 1) * e → n - 1 ≡ i
last n i m e h g l = let a : n - 1 < i + 1 = lt_of_mul-lt-mul_right e (lt_of_le_of_lt g (lt_of_le_of_lt (le_of_eq (mul-one m)) l)) in omega arith

-- m is 0
none : (i m e : ℕ) → m ≡ 0 → i * e < m + e → i ≡ 0
none i m e z h = let a : i < 1 = lt_of_mul-lt-mul_right e (omega arith) in omega arith

module _ (n i : ℕ) (h : i < n) (b : n ≤ 16777216) where
  end_value : HasValue (float_of (n - 1)) false (n - 1) 1
  end_value = whole_value (n - 1) (omega arith)

  -- the smaller of a number and the end
  lowered : (y : Float) (s : Bool) (a c : ℕ) → HasValue y s a c → smaller_of y (float_of (n - 1)) ≡ cond (lt y (float_of (n - 1))) y (float_of (n - 1))
  lowered y s a c v = smaller_number y (float_of (n - 1)) (value_number y s a c v) (value_number (float_of (n - 1)) false (n - 1) 1 end_value)

  -- the larger of a number and 0
  raised : (y : Float) (s : Bool) (a c : ℕ) → HasValue y s a c → larger_of y zero32 ≡ cond (lt zero32 y) y zero32
  raised y s a c v = larger_number y zero32 (value_number y s a c v) (value_number zero32 false 0 1 zero_value)

  -- above 0 and below the end
  whole_index : (m : ℕ) (e : ℤ) → (i * down e < m * up e + down e) × (m * up e < (i + 1) * down e) → floor_of (fin false m e) ≡ fin false m e → fin false m e ≡ float_of i
  whole_index m e w f =
      let k = m * up e / down e in
      let is : fin false m e ≡ float_of k = sym f ∙ whole_part m e in
      let few : k < i + 1 = lt_of_mul-lt-mul_right (down e) (lt_of_le_of_lt (div-mul-le_self (m * up e) (down e)) w.1) in
      let v : HasValue (fin false m e) false k 1 = subst (λ (z : Float). HasValue z false k 1) (sym is) (whole_value k (omega arith)) in
      is ∙ ap float_of (only k i (m * up e) (down e) v.1 w.0 w.1)

  -- raised to 0
  at_zero_lem : i ≡ 0 → smaller_of zero32 (float_of (n - 1)) ≡ float_of i
  at_zero_lem z = lowered zero32 false 0 1 zero_value ∙ go (lt zero32 (float_of (n - 1))) (sym (lt_values zero32 (float_of (n - 1)) false false 0 1 (n - 1) 1 (lit< tt) (lit< tt) zero_value end_value))
    where
      go : (t : Bool) → ltb (0 * 1) ((n - 1) * 1) ≡ t → cond t zero32 (float_of (n - 1)) ≡ float_of i
      go true g = zero_float ∙ ap float_of (sym z)
      go false g = let l = ltb-false (0 * 1) ((n - 1) * 1) g in ap float_of (omega arith)

  -- not negative
  above_end : (m : ℕ) (e : ℤ) → (i * down e < m * up e + down e) × (m * up e < (i + 1) * down e) → floor_of (smaller_of (fin false m e) (float_of (n - 1))) ≡ smaller_of (fin false m e) (float_of (n - 1))
      → smaller_of (fin false m e) (float_of (n - 1)) ≡ float_of i
  above_end m e w f =
      let g = fin false m e in
      let is = lowered g false (m * up e) (down e) (refl, refl) in
      is ∙ go (lt g (float_of (n - 1))) (sym (lt_values g (float_of (n - 1)) false false (m * up e) (down e) (n - 1) 1 (down_pos e) (lit< tt) (refl, refl) end_value)) (ap floor_of (sym is) ∙ f ∙ is)
    where
      go : (t : Bool) → ltb (m * up e * 1) ((n - 1) * down e) ≡ t → floor_of (cond t (fin false m e) (float_of (n - 1))) ≡ cond t (fin false m e) (float_of (n - 1)) → cond t (fin false m e) (float_of (n - 1)) ≡ float_of i
      go true g k = whole_index m e w k
      go false g k = ap float_of (last n i (m * up e) (down e) h (ltb-false (m * up e * 1) ((n - 1) * down e) g) w.1)

  pub clamped_whole : (x : Float) → WithinOne i x → floor_of (within_axis n x) ≡ within_axis n x → within_axis n x ≡ float_of i
  unfolding WithinOne
  clamped_whole nan w f = absurd w
  clamped_whole (inf s) w f = absurd w
  clamped_whole (fin true m e) w f =
      let is = raised (fin true m e) true (m * up e) (down e) (refl, refl) ∙ ap (λ (t : Bool). cond t (fin true m e) zero32) (minus_below m e) in
      ap (λ (y : Float). smaller_of y (float_of (n - 1))) is ∙ at_zero_lem (none i 0 (down e) refl (omega arith))
  clamped_whole (fin false m e) w f =
      go (lt zero32 (fin false m e)) (sym (lt_values zero32 (fin false m e) false false 0 1 (m * up e) (down e) (lit< tt) (down_pos e) zero_value (refl, refl))) (raised (fin false m e) false (m * up e) (down e) (refl, refl))
    where
      go : (t : Bool) → ltb (0 * down e) (m * up e * 1) ≡ t → larger_of (fin false m e) zero32 ≡ cond t (fin false m e) zero32 → within_axis n (fin false m e) ≡ float_of i
      go true g is = let to = ap (λ (y : Float). smaller_of y (float_of (n - 1))) is in to ∙ above_end m e w (ap floor_of (sym to) ∙ f ∙ to)
      go false g is =
          let l = ltb-false (0 * down e) (m * up e * 1) g in
          ap (λ (y : Float). smaller_of y (float_of (n - 1))) is ∙ at_zero_lem (none i (m * up e) (down e) (omega arith) w.0)

  -- what is whole stays so
  end_whole : (k : ℕ) → k ≤ 16777216 → floor_of (float_of k) ≡ float_of k
  unfolding of_int
  end_whole k l = toward_of false (float_of k) false k 1 (lit< tt) (whole_value k l) ∙ ap (λ (z : ℕ). round binary32 false z 1) (ap (λ (z : ℕ). step false z 1) (sym (mul-one k)) ∙ step_whole false k 1 (lit< tt))

  either_whole : (t : Bool) (x y : Float) → floor_of x ≡ x → floor_of y ≡ y → floor_of (cond t x y) ≡ cond t x y
  either_whole true x y f g = f
  either_whole false x y f g = g

  stays_whole : (x : Float) → is_nan x ≡ false → floor_of x ≡ x → floor_of (within_axis n x) ≡ within_axis n x
  stays_whole x o f =
      let z : floor_of zero32 ≡ zero32 = subst (λ (v : Float). floor_of v ≡ v) (sym zero_float) (end_whole 0 (omega arith)) in
      let to = larger_number x zero32 o (value_number zero32 false 0 1 zero_value) in
      subst (λ (y : Float). floor_of (smaller_of y (float_of (n - 1))) ≡ smaller_of y (float_of (n - 1))) (sym to) (low (cond (lt zero32 x) x zero32) (either_number (lt zero32 x)) (either_whole (lt zero32 x) x zero32 f z))
    where
      either_number : (t : Bool) → is_nan (cond t x zero32) ≡ false
      either_number true = o
      either_number false = value_number zero32 false 0 1 zero_value

      low : (y : Float) → is_nan y ≡ false → floor_of y ≡ y → floor_of (smaller_of y (float_of (n - 1))) ≡ smaller_of y (float_of (n - 1))
      low y p g =
          subst (λ (v : Float). floor_of v ≡ v) (sym (smaller_number y (float_of (n - 1)) p (value_number (float_of (n - 1)) false (n - 1) 1 end_value)))
          (either_whole (lt y (float_of (n - 1))) y (float_of (n - 1)) g (end_whole (n - 1) (omega arith)))

  within_number : (x : Float) → WithinOne i x → is_nan x ≡ false
  unfolding WithinOne is_nan
  within_number nan w = absurd w
  within_number (inf s) w = absurd w
  within_number (fin s m e) w = refl

  pub whole_clamped : (x : Float) → WithinOne i x → floor_of x ≡ x → within_axis n x ≡ float_of i
  whole_clamped x w f = clamped_whole x w (stays_whole x (within_number x w) f)
