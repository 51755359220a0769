-- A number of 24 digits whose square is near n, raised by a power of two, is nearer to the root of n raised by that power's square than every other f32. Assumes nothing.
use Rattle.std.specs.Prelude.{◌≡◌, refl, ◌⊎◌, ℕ, zero, suc, ◌+◌, ◌-◌, ◌*◌, ◌/◌, ◌%◌, ◌^◌, ◌≤◌, ◌<◌, Bool, true, false, ◌&&◌, ℤ, pos, negsuc, T, leb, ltb, eqb, Float}
use Rattle.std.proofs.Common.{sym, ap, ◌∙◌, subst, inl, inr, lt_of_not-le, not-le_of_lt, eq-or-lt_of_le, mul_assoc, mul-one, zero-mul, mul-div_cancel, div-one, arith, leb→le, ltb→lt, lit<, pow_pos, pow-add}
use Rattle.std.specs.Int.{◌∣◌}
use Rattle.std.proofs.Math.Nat.{div-eq_of_lt, dvd-zero, dvd-mul_left, dvd-mul_left_of_dvd, dvd-mul_right_of_dvd, one-dvd, div-mul_cancel}
use Rattle.std.proofs.Math.Pow.{pow-lt}
use Rattle.std.specs.Float.{nan, inf, fin, binary32}
use Rattle.std.specs.Float.Ieee.{up, down, fits}
use Rattle.std.specs.Float.Ieee.Fits.{and_l, and_r, down_pos}
use Rattle.std.specs.Float.Ieee.Exact.{HasValue}
use Rattle.std.specs.Float.Ieee.Digits.{back}
use Rattle.floats.specs.Root.{count, Nearer, NearestRoot}
use Rattle.floats.specs.RootParts.{Rounds}
use Rattle.floats.specs.RootLaws.Grid.{next_above, next_below, over_middle, under_middle, under_least}

-- ---- a finite f32 is k * 2 ^ i units, with k below 2 ^ 24
abbrev pub Spread : ℕ → ℕ → Type 0
Spread k z = (i : ℕ) × (z ≡ k * 2 ^ i)

pow_back : (i j : ℕ) → 2 ^ i ≤ 2 ^ j → i ≤ j
pow_back i j h = le_of_not (λ (g : j < i). not-le_of_lt (pow-lt g) h)
  where
    le_of_not : (j < i → ⊥) → i ≤ j
    le_of_not f = let g : j < suc (suc j) = omega arith in low (lt_of_not-le (λ (k : suc j ≤ i). f k))
      where
        low : i < suc j → i ≤ j
        low h = omega arith

spread : (k : ℕ) (j : ℤ) → down j ≤ 2 ^ 149 → Spread k (count k j)
unfolding count
spread k (pos p) h = (p + 149, div-one (k * 2 ^ p * 2 ^ 149) ∙ mul_assoc k (2 ^ p) (2 ^ 149) ∙ ap (λ (z : ℕ). k * z) (sym (pow-add 2 p 149)))
spread k (negsuc p) h =
    let l = pow_back (suc p) 149 h in (
      149 - suc p,
      ap (λ (z : ℕ). k * 1 * z / 2 ^ suc p) (sym (ap (λ (z : ℕ). 2 ^ z) (back 149 (suc p) l)) ∙ pow-add 2 (149 - suc p) (suc p))
          ∙ ap (λ (z : ℕ). z / 2 ^ suc p) (sym (mul_assoc (k * 1) (2 ^ (149 - suc p)) (2 ^ suc p)))
          ∙ mul-div_cancel (k * 1 * 2 ^ (149 - suc p)) (pow_pos (suc p))
          ∙ ap (λ (z : ℕ). z * 2 ^ (149 - suc p)) (mul-one k),
    )

-- an f32 is no finer than a unit
not_finer : (s : Bool) (m : ℕ) (e : ℤ) → T (fits binary32 (fin s (suc m) e)) → down e ≤ 2 ^ 149
unfolding fits
not_finer s m e h =
    leb→le (down e) (2 ^ 149) (and_r (eqb (suc m % 2) 1 && ltb (suc m) (2 ^ 24)) (leb (down e) (2 ^ 149)) (and_l (eqb (suc m % 2) 1 && ltb (suc m) (2 ^ 24) && leb (down e) (2 ^ 149)) (ltb (suc m * up e) (2 ^ 128 * down e)) h))

pub fits_spread : (k : ℕ) (j : ℤ) → T (fits binary32 (fin false k j)) → (k < 16777216) × Spread k (count k j)
unfolding fits count
fits_spread zero j h = (lit< tt, (0, ap (λ (z : ℕ). z / down j) (ap (λ (z : ℕ). z * 2 ^ 149) (zero-mul (up j)) ∙ zero-mul (2 ^ 149)) ∙ div-eq_of_lt (down_pos j)))
fits_spread (suc m) j h =
    let a = and_l (eqb (suc m % 2) 1 && ltb (suc m) (2 ^ 24) && leb (down j) (2 ^ 149)) (ltb (suc m * up j) (2 ^ 128 * down j)) h in
    let b = and_l (eqb (suc m % 2) 1 && ltb (suc m) (2 ^ 24)) (leb (down j) (2 ^ 149)) a in
    (ltb→lt (suc m) (2 ^ 24) (and_r (eqb (suc m % 2) 1) (ltb (suc m) (2 ^ 24)) b), spread (suc m) j (not_finer false m j h))

-- so `count` leaves nothing over
power_divides : (e : ℤ) → down e ≤ 2 ^ 149 → down e ∣ 2 ^ 149
power_divides (pos k) h = one-dvd (2 ^ 149)
power_divides (negsuc k) h = subst (λ (z : ℕ). 2 ^ suc k ∣ z) (sym (pow-add 2 (149 - suc k) (suc k)) ∙ ap (λ (z : ℕ). 2 ^ z) (back 149 (suc k) (pow_back (suc k) 149 h))) (dvd-mul_left (2 ^ suc k) (2 ^ (149 - suc k)))

pub count_exact : (s : Bool) (m : ℕ) (e : ℤ) → T (fits binary32 (fin s m e)) → HasValue (fin s m e) s (count m e) (2 ^ 149)
unfolding count
count_exact s zero e h = (refl, sym (div-mul_cancel (down e) (dvd-mul_right_of_dvd (down e) (subst (λ (z : ℕ). down e ∣ z) (sym (zero-mul (up e))) (dvd-zero (down e))) (2 ^ 149))))
count_exact s (suc m) e h = (refl, sym (div-mul_cancel (down e) (dvd-mul_left_of_dvd (down e) (power_divides e (not_finer s m e h)) (suc m * up e))))

-- a value in units is what `count` says
pub counted : (m : ℕ) (e : ℤ) (a : ℕ) → m * up e * 2 ^ 149 ≡ a * down e → count m e ≡ a
unfolding count
counted m e a h = ap (λ (z : ℕ). z / down e) h ∙ mul-div_cancel a (down_pos e)

-- ---- in units: x with x * 2 ^ 149 = n * P * P, and y = r * P
module _ (x n r K : ℕ) (sq : x * 2 ^ 149 ≡ n * (2 ^ K * 2 ^ K)) (full : 70368744177664 ≤ n) (R : Rounds n r) where
  nearer : (k i : ℕ) → k < 16777216 → Nearer x (r * 2 ^ K) (k * 2 ^ i)
  nearer k i q = record {
    over = λ h. subst (λ (z : ℕ). 4 * z < (r * P + k * 2 ^ i) * (r * P + k * 2 ^ i)) (sym sq) (over_middle n r P (k * 2 ^ i) (pow_pos K) R.high (next_above r K k i R.least q h));
    under = λ h. subst (λ (z : ℕ). (r * P + k * 2 ^ i) * (r * P + k * 2 ^ i) < 4 * z) (sym sq) (below h (eq-or-lt_of_le R.least));
  }
    where
      P : ℕ
      P = 2 ^ K

      below : k * 2 ^ i < r * 2 ^ K → (8388608 ≡ r) ⊎ (8388608 < r) → (r * 2 ^ K + k * 2 ^ i) * (r * 2 ^ K + k * 2 ^ i) < 4 * (n * (2 ^ K * 2 ^ K))
      below h (inl e) = under_least n r (2 ^ K) (k * 2 ^ i) (pow_pos K) (omega arith) (subst (λ (z : ℕ). z * z ≤ n) e full) h
      below h (inr l) = under_middle n r (2 ^ K) (k * 2 ^ i) (pow_pos K) (omega arith) R.low (next_below r K k i l q h)

-- ---- together
pub nearest_root : (a m' : ℕ) (e' : ℤ) (y : Float) (n r K : ℕ) → count m' e' ≡ a → a * 2 ^ 149 ≡ n * (2 ^ K * 2 ^ K) → 70368744177664 ≤ n → Rounds n r → T (fits binary32 y) → HasValue y false (r * 2 ^ K) (2 ^ 149) → NearestRoot m' e' y
unfolding NearestRoot
nearest_root a m' e' nan n r K c sq full R f v = absurd v
nearest_root a m' e' (inf s) n r K c sq full R f v = absurd v
nearest_root a m' e' (fin true l d) n r K c sq full R f v = absurd (true_false v.0)
  where
    true_false : true ≡ false → ⊥
    true_false p = subst T p tt
nearest_root a m' e' (fin false l d) n r K c sq full R f v = (
  f,
  λ k j h.
      let s = fits_spread k j h in
      subst (λ (z : ℕ). Nearer z (count l d) (count k j)) (sym c)
      (subst (λ (z : ℕ). Nearer a z (count k j)) (sym (counted l d (r * 2 ^ K) v.1))
      (subst (λ (z : ℕ). Nearer a (r * 2 ^ K) z) (sym s.1.1) (nearer a n r K sq full R k s.1.0 s.0))),
)
