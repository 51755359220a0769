-- A vector's length is at most a bound whose square the dot of the vector with itself keeps: the root is the nearest f32, and the bound is one. Assumes nothing.
use Rattle.std.specs.Prelude.{◌≡◌, true, false, ℤ, T, Float}
use Rattle.std.proofs.Common.{sym, ap, ◌∙◌, subst, le_of_eq, lt_of_not-le, mul-one, zero-mul, mul_comm, mul_assoc, mul_left_comm, mul_right_comm, mul-le-mul, mul-le-mul_right, le_of_mul-le-mul_right, arith, pow-add}
use Rattle.std.proofs.lemmas.Bool.{false≢true}
use Prim.Native.Nat.{ℕ, zero, suc, ◌+◌, ◌*◌, ◌^◌, ◌≤◌, ◌<◌, zero-le}
use Rattle.std.proofs.Math.Nat.{le_trans}
use Rattle.std.proofs.Math.Decide.{dec_le}
use Rattle.std.specs.Float.{nan, inf, fin, binary32}
use Rattle.std.specs.Float.Ieee.{up, down, fits}
use Rattle.std.specs.Float.Ieee.Fits.{down_pos, add-fits}
use Rattle.std.specs.Float.Ieee.Exact.{HasValue}
use Rattle.floats.specs.Root.{count, Nearer, NearestRoot, RootOf, root_of}
use Rattle.floats.specs.RootLaws.{root_is_nearest, root_square}
use Rattle.floats.specs.RootLaws.Units.{counted}
use Rattle.vectors.specs.declared.Vec3.{Vec3}
use Rattle.vectors.specs.Vectors.{dot_v, length_v}
use Rattle.bounds.specs.Bounds.{AtMost}
use Rattle.bounds.specs.BoundsLaws.{at_most_of_value, at_most_finite}
use Rattle.bounds.specs.NormalLaws.{square_sum}

-- y is nearest to the root of x units, and z another number of units: where the square of z keeps x, y is no more than z
not_over : (x y z : ℕ) → Nearer x y z → x * 2 ^ 149 ≤ z * z → y ≤ z
not_over x y z n h = go (dec_le y z)
  where
    clash : (x y z : ℕ) → z < y → (y + z) * (y + z) < 4 * x → x ≤ z * z → ⊥
    clash x y z l g h =
        let d : (z + z) * (z + z) ≤ (y + z) * (y + z) = mul-le-mul (omega arith) (omega arith) in
        omega arith

    go : Dec (y ≤ z) → y ≤ z
    go (yes l) = l
    go (no f) = absurd (clash (x * 2 ^ 149) y z (lt_of_not-le f) (n.under (lt_of_not-le f)) h)

-- the root of m * 2 ^ e, R units, beside the f32 l * 2 ^ j, Z units
beside : (m : ℕ) (e : ℤ) (r : Float) (R l : ℕ) (j : ℤ) (Z : ℕ) → NearestRoot m e r → HasValue r false R (2 ^ 149) → T (fits binary32 (fin false l j))
    → l * up j * 2 ^ 149 ≡ Z * down j → Nearer (count m e) R Z
unfolding NearestRoot
beside m e nan R l j Z q v f w = absurd q
beside m e (inf s) R l j Z q v f w = absurd q
beside m e (fin true p d) R l j Z q v f w = absurd q
beside m e (fin false p d) R l j Z q v f w =
    subst (λ (z : ℕ). Nearer (count m e) z Z) (counted p d R v.1) (subst (λ (z : ℕ). Nearer (count m e) (count p d) z) (counted l j Z w) (q.1 l j f))

-- for a b that is n * 2 ^ k, and an x of D units
pub root_at_most : (x b : Float) (n k D : ℕ) → T (fits binary32 x) → HasValue x false D (2 ^ 149) → T (fits binary32 b) → HasValue b false (n * 2 ^ k) 1
    → AtMost (n * n) (k + k) x → AtMost n k (root_of x)
unfolding AtMost RootOf
root_at_most nan b n k D f v g w h = absurd h
root_at_most (inf s) b n k D f v g w h = absurd h
root_at_most (fin true m e) b n k D f v g w h = absurd (false≢true (sym v.0))
root_at_most (fin false zero e) b n k D f v g w h = unfold root_of in le_trans (le_of_eq (zero-mul (up e))) zero-le
root_at_most (fin false (suc m) e) nan n k D f v g w h = absurd w
root_at_most (fin false (suc m) e) (inf t) n k D f v g w h = absurd w
root_at_most (fin false (suc m) e) (fin true l j) n k D f v g w h = absurd (false≢true (sym w.0))
root_at_most (fin false (suc m) e) (fin false l j) n k D f v g w h =
    let r = root_square m e f in
    let Z = n * 2 ^ k * 2 ^ 149 in
    let z : l * up j * 2 ^ 149 ≡ Z * down j = ap (λ (p : ℕ). p * 2 ^ 149) (sym (mul-one (l * up j)) ∙ w.1) ∙ mul_right_comm (n * 2 ^ k) (down j) (2 ^ 149) in
    let near = beside (suc m) e (root_of (fin false (suc m) e)) r.0 l j Z (root_is_nearest (fin false (suc m) e) f) r.1 g z in
    let most : D ≤ n * n * 2 ^ (k + k) * 2 ^ 149 = le_of_mul-le-mul_right (le_trans (le_of_eq (sym v.1)) (le_trans (mul-le-mul_right (2 ^ 149) h) (le_of_eq (mul_right_comm (n * n * 2 ^ (k + k)) (down e) (2 ^ 149))))) (down_pos e) in
    let square : D * 2 ^ 149 ≤ Z * Z = le_trans (mul-le-mul_right (2 ^ 149) most) (le_of_eq (ap (λ (p : ℕ). n * n * p * 2 ^ 149 * 2 ^ 149) (pow-add 2 k k) ∙ squared n (2 ^ k) (2 ^ 149))) in
    at_most_of_value (root_of (fin false (suc m) e)) false r.0 n k r.1
    (le_trans (not_over D r.0 Z (subst (λ (p : ℕ). Nearer p r.0 Z) (counted (suc m) e D v.1) near) square) (le_of_eq (mul_assoc n (2 ^ k) (2 ^ 149) ∙ ap (λ (p : ℕ). n * p) (sym (pow-add 2 k 149)))))
  where
    squared : (a p q : ℕ) → a * a * (p * p) * q * q ≡ a * p * q * (a * p * q)
    squared a p q = simp (mul_assoc, mul_comm, mul_left_comm)

pub length_at_most : (a : Vec3) (b : Float) (n k : ℕ) → T (fits binary32 b) → HasValue b false (n * 2 ^ k) 1 → AtMost (n * n) (k + k) (dot_v a a) → AtMost n k (length_v a)
unfolding length_v dot_v
length_at_most a b n k g w h =
    let d = square_sum a (at_most_finite (dot_v a a) (n * n) (k + k) h) in
    root_at_most (dot_v a a) b n k d.0 (add-fits binary32 _ _) d.1 g w h
