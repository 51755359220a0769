-- A light times 2^24 is exact, since an f32 keeps its digits, so that its whole part is the light's units; and it is small enough to be cut to a u64.
use Rattle.std.proofs.Common.{◌≡◌, ℕ, zero, suc, ◌+◌, ◌-◌, ◌*◌, ◌/◌, ◌%◌, ◌^◌, ◌<◌, ◌≤◌, Bool, true, false, ◌&&◌, T, eqb, ltb, leb, ℤ, pos, negsuc, sym, refl, ap, ◌∙◌, subst, lt_of_lt_of_le, lt_of_le_of_lt, lt_irrefl, mul-le-mul_right, mul_assoc, mul_comm, one-mul, zero-mul, mul-one, arith, eqb→eq, ltb→lt, lt→ltb, leb→le, pow_pos, pow_mono, pow-add, shl_lt, leb-false, leb-true}
use mathlib.Core.Bool.{false≢true}
use native.Mathlib.Nat.{zero-div, lt-div-mul-add, div-le_of_le-mul, eq_of_mul-eq-mul_right, mul-div-mul_right, min-eq_left}
use lib.Pow.{pow-lt}
use lib.Ieee as Ieee
use lib.Ieee.{Float, nan, inf, fin, up, down, binary32, fits, round, mul, to_unsigned}
use lib.Ieee.Fits.{down_pos, and_l, and_r}
use lib.Ieee.Exact.{HasValue, round_exact}
use Rattle.names.specs.Numbers.{most_units}
use Rattle.names.specs.Bits.{lit}
use Rattle.light_units.specs.Units.{units_of, light_outside}
use Rattle.light_units.specs.UnitsLaws.{Counted, above, minus_zero, counted_found}

-- a light's product by 2^24
abbrev pub product : Float → Float
product x = mul binary32 x (lit 0x4b800000)

-- an f32 has at most 24 digits, of at least 2^-149
digits : (s : Bool) (m : ℕ) (e : ℤ) → T (fits binary32 (fin s m e)) → (m < 2 ^ 24) × (down e ≤ 2 ^ 149)
unfolding fits
digits s zero (pos k) h = (pow_pos 24, pow_pos 149)
digits s zero (negsuc k) h = (pow_pos 24, subst (λ (n : ℕ). n ≤ 2 ^ 149) (sym (sym (one-mul (2 ^ suc k)) ∙ eqb→eq (1 * 2 ^ suc k) 1 h)) (pow_pos 149))
digits s (suc m) e h =
    let a = and_l (eqb (suc m % 2) 1 && ltb (suc m) (2 ^ 24) && leb (down e) (2 ^ 149)) (ltb (suc m * up e) (2 ^ 128 * down e)) h in
    let b = and_l (eqb (suc m % 2) 1 && ltb (suc m) (2 ^ 24)) (leb (down e) (2 ^ 149)) a in
    (ltb→lt (suc m) (2 ^ 24) (and_r (eqb (suc m % 2) 1) (ltb (suc m) (2 ^ 24)) b), leb→le (down e) (2 ^ 149) (and_r (eqb (suc m % 2) 1 && ltb (suc m) (2 ^ 24)) (leb (down e) (2 ^ 149)) a))

-- 2^k is at most 2^149 for no k above 149
exponent : (k : ℕ) → 2 ^ k ≤ 2 ^ 149 → k ≤ 149
exponent k h = go (leb k 149) refl
  where
    go : (b : Bool) → leb k 149 ≡ b → k ≤ 149
    go true e = leb-true k 149 e
    go false e = absurd (lt_irrefl (2 ^ 149) (lt_of_lt_of_le (pow-lt {i = 149} {j = k} (leb-false k 149 e)) h))

rounded : (s : Bool) (m : ℕ) (e : ℤ) → T (fits binary32 (fin s m e)) → m * up e ≤ down e
    → HasValue (round binary32 s (m * up e * (1 * 2 ^ 24)) (down e * 1)) s (m * up e * (1 * 2 ^ 24)) (down e * 1)
rounded s m (pos k) f h =
    let p : m * 2 ^ (k + 173) ≡ m * 2 ^ k * 2 ^ 173 = ap (λ (x : ℕ). m * x) (pow-add 2 k 173) ∙ sym (mul_assoc m (2 ^ k) (2 ^ 173)) in
    let small : m * 2 ^ k * 2 ^ 173 < 2 ^ 277 = lt_of_le_of_lt (mul-le-mul_right (2 ^ 173) h) (pow-lt {i = 173} {j = 277} (omega arith)) in
    round_exact binary32 s (m * 2 ^ k * (1 * 2 ^ 24)) (1 * 1) m (k + 173) (omega arith) (digits s m (pos k) f).0 (subst (λ (x : ℕ). x < 2 ^ 277) (sym p) small)
    (mul_assoc (m * 2 ^ k) (2 ^ 24) (2 ^ 149) ∙ sym p ∙ sym (mul-one (m * 2 ^ (k + 173))))
rounded s m (negsuc k) f h =
    let d = digits s m (negsuc k) f in
    let l : suc k ≤ 149 = exponent (suc k) d.1 in
    let j : ℕ = 173 - suc k in
    let i : j + suc k ≡ 173 = omega arith in
    let q : 2 ^ j * 2 ^ suc k ≡ 2 ^ 173 = sym (pow-add 2 j (suc k)) ∙ ap (λ (x : ℕ). 2 ^ x) i in
    let p : m * 2 ^ j * (2 ^ suc k * 1) ≡ m * 2 ^ 173 = ap (λ (x : ℕ). m * 2 ^ j * x) (mul-one (2 ^ suc k)) ∙ mul_assoc m (2 ^ j) (2 ^ suc k) ∙ ap (λ (x : ℕ). m * x) q in
    round_exact binary32 s (m * 1 * (1 * 2 ^ 24)) (2 ^ suc k * 1) m j (omega (arith, pow_pos (suc k))) d.0 (lt_of_lt_of_le (shl_lt 24 j d.0) (pow_mono {i = 24 + j} {j = 277} (omega arith)))
    (mul_assoc (m * 1) (2 ^ 24) (2 ^ 149) ∙ ap (λ (x : ℕ). x * 2 ^ 173) (mul-one m) ∙ sym p)

exact : (s : Bool) (m : ℕ) (e : ℤ) → T (fits binary32 (fin s m e)) → m * up e ≤ down e → HasValue (product (fin s m e)) s (m * up e * (1 * 2 ^ 24)) (down e * 1)
unfolding mul Ieee.of_bits
exact true m e f h = rounded true m e f h
exact false m e f h = rounded false m e f h

same_quotient : (a b c d : ℕ) → 0 < b → 0 < d → a * d ≡ c * b → a / b ≡ c / d
same_quotient a b c d hb hd e =
    sym (mul-div-mul_right a b hd) ∙ ap (λ (x : ℕ). x / (b * d)) e ∙ ap (λ (x : ℕ). c * b / x) (mul_comm b d) ∙ mul-div-mul_right c d hb

-- what the product says: its whole part is the units, and it lies above −1 and below 2^64
pub record Cut (x : Float) : Type 0 where
  pub above : T (Ieee.lt (fin true 1 (pos 0)) (product x))
  pub below : T (Ieee.lt (product x) (fin false 1 (pos 64)))
  pub whole : to_unsigned 64 (product x) ≡ units_of x

cut : (x : Float) → T (fits binary32 x) → Counted x → Cut x
unfolding units_of to_unsigned Ieee.lt
cut _ f (above {m} {e} h) = go (product (fin false m e)) refl (exact false m e f h)
  where
    go : (y : Float) → product (fin false m e) ≡ y → HasValue y false (m * up e * (1 * 2 ^ 24)) (down e * 1) → Cut (fin false m e)
    go nan p v = absurd v
    go (inf t) p v = absurd v
    go (fin true n d) p v = absurd (false≢true (sym v.0))
    go (fin false n d) p v =
        let u : n * up d / down d ≡ m * up e * most_units / down e = same_quotient (n * up d) (down d) (m * up e * (1 * 2 ^ 24)) (down e * 1) (down_pos d) (omega (arith, down_pos e)) v.1 ∙ ap (λ (z : ℕ). m * up e * most_units / z) (mul-one (down e)) in
        let most : n * up d / down d ≤ most_units = rw u (div-le_of_le-mul (down e) (mul-le-mul_right most_units h)) in
        let near : n * up d < n * up d / down d * down d + down d = lt-div-mul-add (down_pos d) in
        let far : n * up d / down d * down d ≤ most_units * down d = mul-le-mul_right (down d) most in
        record {
          above = rw p (lt→ltb 0 (1 * 1 * down d + n * up d * 1) (omega (arith, down_pos d)));
          below = rw p (lt→ltb (n * up d * 1) (1 * 2 ^ 64 * down d) (omega (arith, down_pos d)));
          whole = rw p (min-eq_left {n = n * up d / down d} {m = 2 ^ 64 - 1} (omega arith) ∙ u);
        }
cut _ f (minus_zero {m} {e} h) = go (product (fin true m e)) refl (exact true m e f (omega arith))
  where
    go : (y : Float) → product (fin true m e) ≡ y → HasValue y true (m * up e * (1 * 2 ^ 24)) (down e * 1) → Cut (fin true m e)
    go nan p v = absurd v
    go (inf t) p v = absurd v
    go (fin false n d) p v = absurd (false≢true v.0)
    go (fin true n d) p v =
        let w : n * up d * (down e * 1) ≡ 0 * (down e * 1) = v.1 ∙ rw (h, zero-mul (down d)) (sym (zero-mul (down e * 1))) in
        let z : n * up d ≡ 0 = eq_of_mul-eq-mul_right (down e * 1) (omega (arith, down_pos e)) (n * up d) 0 w in
        record {
          above = rw p (lt→ltb (n * up d * 1) (1 * 1 * down d) (omega (arith, down_pos d)));
          below = rw p (lt→ltb 0 (n * up d * 1 + 1 * 2 ^ 64 * down d) (omega (arith, down_pos d)));
          whole = rw (p, h) (sym (zero-div (down e)));
        }

pub cut_of : (x : Float) → T (fits binary32 x) → light_outside x ≡ false → Cut x
cut_of x f h = cut x f (counted_found x h)
