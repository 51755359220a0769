-- How far rounding moves a fraction, in units of 2 ^ -149: by half a step at most, and a step is one unit or no more than the 2 ^ 23rd part of the fraction. Assumes nothing.
use Rattle.std.specs.Prelude.{◌≡◌, refl, Bool, true, false, not, ◌⊎◌, ℕ, ◌+◌, ◌-◌, ◌*◌, ◌/◌, ◌^◌, ◌≤◌, ◌<◌, T, Float}
use Rattle.std.proofs.Common.{sym, ap, ◌∙◌, subst, inl, inr, le_trans, le_of_eq, le_of_lt, lt_of_lt_of_le, lt_of_le_of_lt, eq-or-lt_of_le, div-lt_iff_lt-mul, mul_left_comm, one-mul, mul_comm, mul_assoc, mul_right_comm, mul-pos, mul-le-mul_right, arith, lit<, pow_pos, pow-add, pow_mono}
use Rattle.std.proofs.lemmas.Bool.{false≢true}
use Rattle.std.proofs.Math.Pow.{pow-lt}
use Rattle.std.specs.Float.{nan, inf, fin, binary32}
use Rattle.std.specs.Float.Ieee.{size, units, round, neg}
use Rattle.std.specs.Float.Ieee.Digits.{size-lt, size-le}
use Rattle.std.specs.Float.Ieee.Fits.{round_is}
use Rattle.std.specs.Float.Ieee.Exact.{HasValue, units_val}
use Rattle.std.specs.Float.Ieee.Nearest.{closest, closest_mono}
use Rattle.std.specs.Float.Ieee.Order.{drop, kept}
use Rattle.std.specs.Float.Ieee.Scale.{finite, grid, round_val, round_under}
use Rattle.bounds.specs.Bounds.{AtMost}
use Rattle.bounds.specs.BoundsLaws.{grid_most, at_most_of_value}
use Rattle.centre_laws.specs.Rounding.{grid_of, closest_off, grid_off}
use Rattle.blend_laws.specs.RoundLaws.{round_turned}

-- ---- a fraction to the nearest f32: G units for a / c

-- half a step
pub grid_near : (a c : ℕ) → 0 < c
    → (grid binary32 a c * c * 2 ≤ a * 2 ^ 149 * 2 + c * 2 ^ drop 24 (a * 2 ^ 149) c) × (a * 2 ^ 149 * 2 ≤ grid binary32 a c * c * 2 + c * 2 ^ drop 24 (a * 2 ^ 149) c)
grid_near a c C =
    let d = drop 24 (a * 2 ^ 149) c in
    let n = closest_off (a * 2 ^ 149) (c * 2 ^ d) (mul-pos C (pow_pos d)) in
    let q = kept 24 (a * 2 ^ 149) c in
    let e : q * 2 ^ d * c ≡ q * (c * 2 ^ d) = mul_assoc q (2 ^ d) c ∙ ap (λ (z : ℕ). q * z) (mul_comm (2 ^ d) c) in
    rw e (halves (q * (c * 2 ^ d)) (a * 2 ^ 149) (c * 2 ^ d) n)
  where
    halves : (g n u : ℕ) → (2 * g ≤ 2 * n + u) × (2 * n ≤ 2 * g + u) → (g * 2 ≤ n * 2 + u) × (n * 2 ≤ g * 2 + u)
    halves g n u h = (omega (arith, h.0), omega (arith, h.1))

-- so by the 2 ^ 24th part and half a unit
pub grid_error : (a c : ℕ) → 0 < c
    → (grid binary32 a c * c * 16777216 ≤ a * 2 ^ 149 * 16777217 + c * 8388608) × (a * 2 ^ 149 * 16777215 ≤ grid binary32 a c * c * 16777216 + c * 8388608)
grid_error a c C = go (grid_of (a * 2 ^ 149) c * c) (a * 2 ^ 149) (grid_off (a * 2 ^ 149) c C)
  where
    go : (g n : ℕ) → (16777216 * g ≤ 16777217 * n + 8388608 * c) × (16777215 * n ≤ 16777216 * g + 8388608 * c) → (g * 16777216 ≤ n * 16777217 + c * 8388608) × (n * 16777215 ≤ g * 16777216 + c * 8388608)
    go g n h = (omega (arith, h.0), omega (arith, h.1))

-- ---- where a fraction passes a power of two by no more than its 2 ^ 24th part, it is rounded back to it: a tie goes to the even one

-- p is 2 ^ (k + 149), and n / c passes it by so little
under_twice : (n p c : ℕ) → 0 < p * c → n * 16777216 ≤ p * 16777217 * c → n < 2 * p * c
under_twice n p c P h =
    let e : p * 16777217 * c ≡ p * c * 16777217 = mul_right_comm p 16777217 c in
    let f : 2 * p * c ≡ p * c * 2 = mul_assoc 2 p c ∙ mul_comm 2 (p * c) in
    omega arith

-- q is 2 ^ (k + 126), the step above p, and 2 ^ 23 of them are p
half_over : (n q c : ℕ) → n * 16777216 ≤ 8388608 * q * 16777217 * c → n * 2 ≤ 16777217 * (c * q)
half_over n q c h =
    let e : 8388608 * q * 16777217 * c ≡ 16777217 * (c * q) * 8388608 = simp (mul_assoc, mul_comm, mul_left_comm) in
    omega arith

past_power : (n c k : ℕ) → 0 < c → n * 16777216 ≤ 2 ^ (k + 149) * 16777217 * c → kept 24 n c * 2 ^ drop 24 n c ≤ 1 * 2 ^ (k + 149)
past_power n c k C h = go (eq-or-lt_of_le dropped)
  where
    split : 2 ^ (k + 149) ≡ 8388608 * 2 ^ (k + 126)
    split = let e : k + 149 ≡ 23 + (k + 126) = omega arith in ap (λ (z : ℕ). 2 ^ z) e ∙ pow-add 2 23 (k + 126)

    twice : 2 ^ (k + 150) ≡ 2 * 2 ^ (k + 149)
    twice = let e : k + 150 ≡ 1 + (k + 149) = omega arith in ap (λ (z : ℕ). 2 ^ z) e ∙ pow-add 2 1 (k + 149)

    dropped : drop 24 n c ≤ k + 126
    dropped =
        let g : n < 2 ^ (k + 150) * c = rw twice (under_twice n (2 ^ (k + 149)) c (mul-pos (pow_pos (k + 149)) C) h) in
        let z : size (n / c) ≤ k + 150 = size-le (n / c) (k + 150) ((div-lt_iff_lt-mul C).1 g) in
        omega arith

    few : (z : ℕ) → z - 24 < k + 126 → z ≤ k + 149
    few z g = omega arith

    go : (drop 24 n c ≡ k + 126) ⊎ (drop 24 n c < k + 126) → kept 24 n c * 2 ^ drop 24 n c ≤ 1 * 2 ^ (k + 149)
    go (inr l) =
        let g : n / c < 2 ^ (k + 149) = lt_of_lt_of_le (size-lt (n / c)) (pow_mono (few (size (n / c)) l)) in
        grid_most n c 1 (k + 149) C (lit< tt) (le_trans (le_of_lt ((div-lt_iff_lt-mul C).0 g)) (le_of_eq (ap (λ (z : ℕ). z * c) (sym (one-mul (2 ^ (k + 149)))))))
    go (inl e) =
        let g : closest n (c * 2 ^ (k + 126)) ≤ 8388608 = closest_mono n (c * 2 ^ (k + 126)) 16777217 2 (mul-pos C (pow_pos (k + 126))) (lit< tt) (half_over n (2 ^ (k + 126)) c (rw split at h)) in
        rw e (le_trans (mul-le-mul_right (2 ^ (k + 126)) g) (le_of_eq (sym split ∙ sym (one-mul (2 ^ (k + 149))))))

pub round_past_power : (s : Bool) (a c k : ℕ) → 0 < c → k ≤ 126 → a * 16777216 ≤ 2 ^ k * 16777217 * c → AtMost 1 k (round binary32 s a c)
round_past_power s a c k C K h =
    let b = a * 2 ^ 149 in
    let e : 2 ^ k * 16777217 * c * 2 ^ 149 ≡ 2 ^ (k + 149) * 16777217 * c = moved (2 ^ k) c (2 ^ 149) ∙ ap (λ (z : ℕ). z * 16777217 * c) (sym (pow-add 2 k 149)) in
    let g : kept 24 b c * 2 ^ drop 24 b c ≤ 1 * 2 ^ (k + 149) = past_power b c k C (le_trans (le_of_eq (mul_right_comm a (2 ^ 149) 16777216)) (le_trans (mul-le-mul_right (2 ^ 149) h) (le_of_eq e))) in
    let small : kept 24 b c * 2 ^ drop 24 b c < 2 ^ 277 = lt_of_le_of_lt g (lt_of_le_of_lt (le_of_eq (one-mul (2 ^ (k + 149)))) (pow-lt {i = k + 149} {j = 277} (omega arith))) in
    subst (λ (v : Float). AtMost 1 k v) (sym (round_is binary32 s a c)) (at_most_of_value (units binary32 s (kept 24 b c) (drop 24 b c)) s (kept 24 b c * 2 ^ drop 24 b c) 1 k (units_val binary32 s (kept 24 b c) (drop 24 b c) small) g)
  where
    moved : (p c u : ℕ) → p * 16777217 * c * u ≡ p * u * 16777217 * c
    moved p c u = simp (mul_assoc, mul_comm, mul_left_comm)

-- ---- what a finite rounding is, in units

holds : (b : Bool) → b ≡ true → T b
holds true h = tt
holds false h = absurd (false≢true h)

turned_finite : (x : Float) → finite (neg x) ≡ finite x
unfolding neg
turned_finite nan = refl
turned_finite (inf s) = refl
turned_finite (fin s m e) = refl

turned_value : (x : Float) (a c : ℕ) → HasValue x false a c → HasValue (neg x) true a c
unfolding neg
turned_value nan a c v = absurd v
turned_value (inf s) a c v = absurd v
turned_value (fin s m e) a c v = (ap not v.0, v.1)

plain_in_units : (a c : ℕ) → finite (round binary32 false a c) ≡ true → HasValue (round binary32 false a c) false (grid binary32 a c) (2 ^ 149)
plain_in_units a c h = round_val binary32 a c (round_under binary32 a c (holds (finite (round binary32 false a c)) h))

pub round_in_units : (s : Bool) (a c : ℕ) → finite (round binary32 s a c) ≡ true → HasValue (round binary32 s a c) s (grid binary32 a c) (2 ^ 149)
round_in_units false a c h = plain_in_units a c h
round_in_units true a c h =
    let g : finite (round binary32 false a c) ≡ true = sym (turned_finite (round binary32 false a c)) ∙ ap finite (round_turned a c) ∙ h in
    rw (← round_turned a c) (turned_value (round binary32 false a c) (grid binary32 a c) (2 ^ 149) (plain_in_units a c g))
