-- How a number compares with a whole number up to 2^24, which an f32 holds as it is: as the fraction does that the number is. Assumes nothing.
use Rattle.std.specs.Prelude.{◌≡◌, ℕ, ◌+◌, ◌*◌, ◌^◌, ◌<◌, ◌≤◌, Bool, true, false, ltb, ℤ, nat_lt, refl, Float}
use Rattle.std.proofs.Common.{sym, ap, ◌∙◌, mul-one, zero-mul, add-mul, mul_right_comm, mul-le-mul_right, mul-lt-mul_of_pos_right, ltb-true, ltb-false, lt-ltb, le-ltb}
use Rattle.std.proofs.lemmas.Bool.{false≢true}
use Rattle.std.specs.Float.{nan, inf, fin, binary32}
use Rattle.std.specs.Float.Ieee.{up, down, below, lt, is_nan, of_int}
use Rattle.std.specs.Float.Ieee.Fits.{down_pos}
use Rattle.std.specs.Float.Ieee.Exact.{HasValue}
use Rattle.std.specs.Float.Ieee.Back.{round_whole}
use Rattle.grid.specs.Grid.{float_of}

pub float_value : (n : ℕ) → n ≤ 2 ^ 24 → HasValue (float_of n) false n 1
unfolding of_int
float_value n h = round_whole binary32 false n h

-- both sides times k
scaled_test : (a b k : ℕ) → 0 < k → nat_lt (a * k) (b * k) ≡ nat_lt a b
scaled_test a b k p = go (nat_lt a b) refl
  where
    go : (c : Bool) → nat_lt a b ≡ c → nat_lt (a * k) (b * k) ≡ c
    go true e = lt-ltb (a * k) (b * k) (mul-lt-mul_of_pos_right (ltb-true a b e) p)
    go false e = le-ltb (a * k) (b * k) (mul-le-mul_right k (ltb-false a b e))

-- k·2^d is n: over another denominator
crossed : (n k : ℕ) (d e : ℤ) → k * up d * 1 ≡ n * down d → k * up d * down e ≡ n * down e * down d
crossed n k d e w = ap (λ (z : ℕ). z * down e) (sym (mul-one (k * up d)) ∙ w) ∙ mul_right_comm n (down d) (down e)

-- ---- y is the whole number n

pub value_number : (y : Float) (n : ℕ) → HasValue y false n 1 → is_nan y ≡ false
unfolding is_nan
value_number nan n v = absurd v
value_number (inf t) n v = absurd v
value_number (fin t k d) n v = refl

-- it lies between the infinities
pub not_infinite : (y : Float) (n : ℕ) → HasValue y false n 1 → (lt (inf false) y ≡ false) × (lt y (inf true) ≡ false) × (lt y (inf false) ≡ true)
unfolding lt
not_infinite nan n v = absurd v
not_infinite (inf t) n v = absurd v
not_infinite (fin t k d) n v = (refl, refl, refl)

pub below_whole : (s : Bool) (m : ℕ) (e : ℤ) (y : Float) (n : ℕ) → HasValue y false n 1 → lt (fin s m e) y ≡ below s (m * up e) false (n * down e)
unfolding lt
below_whole s m e nan n v = absurd v
below_whole s m e (inf t) n v = absurd v
below_whole s m e (fin true k d) n v = absurd (false≢true (sym v.0))
below_whole false m e (fin false k d) n v = rw (crossed n k d e v.1) (scaled_test (m * up e) (n * down e) (down d) (down_pos d))
below_whole true m e (fin false k d) n v =
    rw (crossed n k d e v.1, ← add-mul (m * up e) (n * down e) (down d))
    (ap (λ (z : ℕ). ltb z ((m * up e + n * down e) * down d)) (sym (zero-mul (down d))) ∙ scaled_test 0 (m * up e + n * down e) (down d) (down_pos d))

pub above_whole : (s : Bool) (m : ℕ) (e : ℤ) (y : Float) (n : ℕ) → HasValue y false n 1 → lt y (fin s m e) ≡ below false (n * down e) s (m * up e)
unfolding lt
above_whole s m e nan n v = absurd v
above_whole s m e (inf t) n v = absurd v
above_whole s m e (fin true k d) n v = absurd (false≢true (sym v.0))
above_whole false m e (fin false k d) n v = rw (crossed n k d e v.1) (scaled_test (n * down e) (m * up e) (down d) (down_pos d))
above_whole true m e (fin false k d) n v = refl
