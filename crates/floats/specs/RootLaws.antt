-- What `root_of` means: it is the f32 nearest to the root, as IEEE 754 asks, and no other f32 is. Assumes nothing.
pub mod Grid
pub mod Square
pub mod Units
pub mod Digits
use Rattle.std.specs.Prelude.{◌≡◌, refl, ℕ, zero, suc, ◌+◌, ◌-◌, ◌*◌, ◌/◌, ◌%◌, ◌^◌, ◌≤◌, ◌<◌, true, false, ◌&&◌, ℤ, T, ltb, leb, eqb, Float}
use Rattle.std.proofs.Common.{sym, ap, ◌∙◌, subst, le_trans, le_of_eq, le_antisymm, lt_irrefl, lt_trans, add_comm, lt_of_not-le, mul-le-mul_right, mul-lt-mul_of_pos_right, mul_right_comm, mul_assoc, mul-pos, zero-lt-suc, div-lt_iff_lt-mul, arith, ltb→lt, pow_pos, pow-add}
use Rattle.std.proofs.Math.Nat.{mul-mul-mul_comm}
use Rattle.std.proofs.Math.Decide.{dec_le}
use Rattle.std.specs.Float.{nan, inf, fin, binary32}
use Rattle.std.specs.Float.Ieee.{up, down, size, units, odd, fits, to_bits, of_bits}
use Rattle.std.specs.Float.Ieee.Fits.{and_r, down_pos, odd-fits, cond-fits, inf-fits}
use Rattle.std.specs.Float.Ieee.Exact.{HasValue, units_val}
use Rattle.std.specs.Float.Ieee.Bits.{of_bits-to_bits}
use Rattle.floats.specs.Root.{count, fours, closest_root, Nearer, NearestRoot, RootOf, root_of, root_of_units}
use Rattle.floats.specs.RootLaws.Units.{fits_spread, nearest_root}
use Rattle.floats.specs.RootLaws.Digits.{cut_of}

-- ---- it is nearest

units_fits : (r k : ℕ) → r < 16777216 → r * 2 ^ k < 2 ^ 277 → T (fits binary32 (units binary32 false r k))
unfolding units
units_fits r k h l = cond-fits binary32 (ltb (r * 2 ^ k) (2 ^ 277)) (odd 25 false r k 149) (inf false) (odd-fits binary32 25 false r k (omega arith) (omega arith) l) (inf-fits binary32 false)

-- an f32 is below 2 ^ 128
count_lt : (m : ℕ) (e : ℤ) → T (fits binary32 (fin false (suc m) e)) → count (suc m) e < 2 ^ 277
unfolding fits count
count_lt m e h =
    let l = ltb→lt (suc m * up e) (2 ^ 128 * down e) (and_r (eqb (suc m % 2) 1 && ltb (suc m) (2 ^ 24) && leb (down e) (2 ^ 149)) (ltb (suc m * up e) (2 ^ 128 * down e)) h) in
    (div-lt_iff_lt-mul (down_pos e)).1
    (subst (λ (z : ℕ). suc m * up e * 2 ^ 149 < z) (mul_right_comm (2 ^ 128) (down e) (2 ^ 149) ∙ ap (λ (z : ℕ). z * down e) (sym (pow-add 2 128 149))) (mul-lt-mul_of_pos_right l (pow_pos 149)))

-- k * 2 ^ i is not 0
some : (a k i : ℕ) → a ≡ suc k * 2 ^ i → 0 < a
some a k i e = subst (λ (z : ℕ). 0 < z) (sym e) (mul-pos (zero-lt-suc k) (pow_pos i))

pub root_is_nearest : (x : Float) → T (fits binary32 x) → RootOf x (root_of x)
unfolding RootOf root_of root_of_units
root_is_nearest nan h = refl
root_is_nearest (inf true) h = refl
root_is_nearest (inf false) h = refl
root_is_nearest (fin s zero e) h = refl
root_is_nearest (fin true (suc m) e) h = refl
root_is_nearest (fin false (suc m) e) h =
    let a = count (suc m) e in
    let s = fits_spread (suc m) e h in
    let c = cut_of a (suc m) s.1.0 s.1.1 s.0 (some a m s.1.0 s.1.1) (count_lt m e h) in
    let k = fours (a * 2 ^ 149) in
    let n = a * 2 ^ 149 / 4 ^ k in
    let r = closest_root 24 n in
    nearest_root a (suc m) e (units binary32 false r k) n r k refl c.exact c.full c.rounds (units_fits r k c.rounds.most c.room) (units_val binary32 false r k c.room)

-- the root of x units is R units, with R * R at least 3 / 4 of x * 2 ^ 149: less than is true, and enough for who divides by it
pub root_square : (m : ℕ) (e : ℤ) → T (fits binary32 (fin false (suc m) e)) → (R : ℕ) × HasValue (root_of (fin false (suc m) e)) false R (2 ^ 149) × (3 * (count (suc m) e * 2 ^ 149) ≤ 4 * (R * R))
unfolding root_of root_of_units
root_square m e h =
    let a = count (suc m) e in
    let s = fits_spread (suc m) e h in
    let c = cut_of a (suc m) s.1.0 s.1.1 s.0 (some a m s.1.0 s.1.1) (count_lt m e h) in
    let k = fours (a * 2 ^ 149) in
    let n = a * 2 ^ 149 / 4 ^ k in
    let r = closest_root 24 n in
    (r * 2 ^ k, units_val binary32 false r k c.room, at_square (a * 2 ^ 149) n r (2 ^ k) c.exact c.rounds.high c.rounds.least)
  where
    at_square : (x n r p : ℕ) → x ≡ n * (p * p) → n ≤ r * r + r → 8388608 ≤ r → 3 * x ≤ 4 * (r * p * (r * p))
    at_square x n r p e h l =
        let q : 3 * r ≤ r * r = mul-le-mul_right r (le_trans (omega arith) l) in
        let g : 3 * n ≤ 4 * (r * r) = omega arith in
        le_trans (le_of_eq (ap (λ (z : ℕ). 3 * z) e ∙ sym (mul_assoc 3 n (p * p)))) (le_trans (mul-le-mul_right (p * p) g) (le_of_eq (mul_assoc 4 (r * r) (p * p) ∙ ap (λ (z : ℕ). 4 * z) (sym (mul-mul-mul_comm r p r p)))))

-- ---- nothing else is

same_count : (m n : ℕ) (e d : ℤ) → T (fits binary32 (fin false m e)) → T (fits binary32 (fin false n d)) → count m e ≡ count n d → fin false m e ≡ fin false n d
unfolding count to_bits
same_count m n e d h g c =
    sym (of_bits-to_bits binary32 (fin false m e) h) ∙ ap (λ (z : ℕ). of_bits binary32 (0 + (size z - 24) * 8388608 + z / 2 ^ (size z - 24))) c ∙ of_bits-to_bits binary32 (fin false n d) g

-- two that are each nearer than the other
no_two : (x y z : ℕ) → Nearer x y z → Nearer x z y → y ≡ z
no_two x y z p q = le_antisymm (not_above (λ l. clash y z (p.under l) (q.over l))) (not_above (λ l. clash z y (q.under l) (p.over l)))
  where
    not_above : {a b : ℕ} → (b < a → ⊥) → a ≤ b
    not_above {a} {b} f = go (dec_le a b)
      where
        go : Dec (a ≤ b) → a ≤ b
        go (yes h) = h
        go (no h) = absurd (f (lt_of_not-le h))

    clash : (a b : ℕ) → (a + b) * (a + b) < 4 * (x * 2 ^ 149) → 4 * (x * 2 ^ 149) < (b + a) * (b + a) → ⊥
    clash a b h g = lt_irrefl (4 * (x * 2 ^ 149)) (lt_trans g (subst (λ (t : ℕ). t * t < 4 * (x * 2 ^ 149)) (add_comm a b) h))

one_nearest : (m : ℕ) (e : ℤ) (y z : Float) → NearestRoot m e y → NearestRoot m e z → y ≡ z
unfolding NearestRoot
one_nearest m e nan z p q = elim p [ ]
one_nearest m e (inf _) z p q = elim p [ ]
one_nearest m e (fin true n d) z p q = elim p [ ]
one_nearest m e (fin false n d) nan p q = elim q [ ]
one_nearest m e (fin false n d) (inf _) p q = elim q [ ]
one_nearest m e (fin false n d) (fin true k j) p q = elim q [ ]
one_nearest m e (fin false n d) (fin false k j) p q = same_count n k d j p.0 q.0 (no_two (count m e) (count n d) (count k j) (p.1 k j q.0) (q.1 n d p.0))

pub root_is_only : (x y : Float) → T (fits binary32 x) → RootOf x y → y ≡ root_of x
unfolding RootOf root_of
root_is_only nan y h r = r
root_is_only (inf true) y h r = r
root_is_only (inf false) y h r = r
root_is_only (fin s zero e) y h r = r
root_is_only (fin true (suc m) e) y h r = r
root_is_only (fin false (suc m) e) y h r = one_nearest (suc m) e y (root_of (fin false (suc m) e)) r (root_is_nearest (fin false (suc m) e) h)

-- ---- at some numbers, by computation: 1, 4, 2, and the least f32 above 0, 2 ^ -149, whose root lies between 2 ^ -75 and 2 ^ -74

pub root_of_one : root_of (of_bits binary32 0x3f800000) ≡ of_bits binary32 0x3f800000
unfolding root_of of_bits
root_of_one = refl

pub root_of_four : root_of (of_bits binary32 0x40800000) ≡ of_bits binary32 0x40000000
unfolding root_of of_bits
root_of_four = refl

pub root_of_two : root_of (of_bits binary32 0x40000000) ≡ of_bits binary32 0x3fb504f3
unfolding root_of of_bits
root_of_two = refl

pub root_of_least : root_of (of_bits binary32 1) ≡ of_bits binary32 0x1a3504f3
unfolding root_of of_bits
root_of_least = refl
