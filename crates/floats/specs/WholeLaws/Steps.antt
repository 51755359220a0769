-- Whole numbers next to a fraction: equal fractions step to the same one, and a whole number to itself. And a rounded number's sign. Assumes nothing.
use Rattle.std.specs.Prelude.{◌≡◌, refl, Bool, true, false, cond, T, ltb, eqb, Float}
use Rattle.std.proofs.Common.{sym, ap, ◌∙◌, mul_right_comm, mul-div_cancel, div-add-mod', div-le_self, arith, eqb→eq}
use Prim.Native.Nat.{ℕ, zero, suc, ◌+◌, ◌-◌, ◌*◌, ◌/◌, ◌%◌, ◌^◌, ◌≤◌, ◌<◌, compare}
use Rattle.std.proofs.Math.Nat.{mul-mod_left, eq_of_mul-eq-mul_right}
use Rattle.std.specs.Float.{nan, inf, fin, binary32}
use Rattle.std.specs.Float.Ieee.{up, down, unlike, round, units, odd, neg, size, nearest}
use Rattle.std.specs.Float.Ieee.Fits.{eq→eqb, down_pos, round_is}
use Rattle.std.specs.Float.Ieee.Bits.{is_true}
use Rattle.std.specs.Float.Ieee.Exact.{HasValue}
use Rattle.std.specs.Float.Ieee.Nearest.{div_same}
use Rattle.floats.specs.Whole.{step, toward}

-- ---- equal fractions step to the same number
zero_same : (a b c d : ℕ) → 0 < b → a * d ≡ c * b → a % b ≡ 0 → c % d ≡ 0
zero_same a b c d B e z =
    let q = a / b in
    let h : a ≡ q * b = sym (div-add-mod' a b) ∙ ap (λ (r : ℕ). q * b + r) z ∙ plain (q * b) in
    let g : c ≡ q * d = eq_of_mul-eq-mul_right b B c (q * d) (sym e ∙ ap (λ (r : ℕ). r * d) h ∙ mul_right_comm q b d) in
    ap (λ (r : ℕ). r % d) g ∙ mul-mod_left q d
  where
    plain : (n : ℕ) → n + 0 ≡ n
    plain n = omega arith

both : (p q : Bool) → (T p → T q) → (T q → T p) → p ≡ q
both true true f g = refl
both true false f g = absurd (f tt)
both false true f g = absurd (g tt)
both false false f g = refl

pub step_same : (w : Bool) (a b c d : ℕ) → 0 < b → 0 < d → a * d ≡ c * b → step w a b ≡ step w c d
unfolding step
step_same w a b c d B D e =
    ap (λ (n : ℕ). cond w (cond (eqb (a % b) 0) n (n + 1)) n) (div_same a b c d B D e)
    ∙ ap (λ (z : Bool). cond w (cond z (c / d) (c / d + 1)) (c / d))
    (both (eqb (a % b) 0) (eqb (c % d) 0) (λ t. eq→eqb (zero_same a b c d B e (eqb→eq (a % b) 0 t))) (λ t. eq→eqb (zero_same c d a b D (sym e) (eqb→eq (c % d) 0 t))))

-- a whole number
pub step_whole : (w : Bool) (n c : ℕ) → 0 < c → step w (n * c) c ≡ n
unfolding step
step_whole w n c C =
    ap (λ (q : ℕ). cond w (cond (eqb (n * c % c) 0) q (q + 1)) q) (mul-div_cancel n C)
    ∙ ap (λ (z : Bool). cond w (cond z n (n + 1)) n) (is_true (eqb (n * c % c) 0) (eq→eqb (mul-mod_left n c)))
    ∙ same w
  where
    same : (w : Bool) → cond w n n ≡ n
    same true = refl
    same false = refl

pub step_le : (w : Bool) (m c : ℕ) → step w m c ≤ m + 1
unfolding step
step_le w m c = go w (eqb (m % c) 0) (div-le_self m c)
  where
    go : (w z : Bool) → m / c ≤ m → cond w (cond z (m / c) (m / c + 1)) (m / c) ≤ m + 1
    go true true h = omega arith
    go true false h = omega arith
    go false z h = omega arith

-- a number that is a / c in size
pub toward_of : (u : Bool) (x : Float) (s : Bool) (a c : ℕ) → 0 < c → HasValue x s a c → toward u x ≡ round binary32 s (step (unlike s u) a c) 1
unfolding toward
toward_of u nan s a c p v = absurd v
toward_of u (inf t) s a c p v = absurd v
toward_of u (fin t m e) s a c p v =
    ap (λ (z : Bool). round binary32 z (step (unlike z u) (m * up e) (down e)) 1) v.0
    ∙ ap (λ (n : ℕ). round binary32 s n 1) (step_same (unlike s u) (m * up e) (down e) a c (down_pos e) p v.1)

-- ---- the sign
odd_neg : (d q k l : ℕ) → neg (odd d false q k l) ≡ odd d true q k l
unfolding neg odd
odd_neg d zero k l = refl
odd_neg d (suc q) k l = refl

units_neg : (q k : ℕ) → neg (units binary32 false q k) ≡ units binary32 true q k
unfolding units neg
units_neg q k = go (ltb (q * 2 ^ k) (2 ^ 277))
  where
    go : (b : Bool) → neg (cond b (odd 25 false q k 149) (inf false)) ≡ cond b (odd 25 true q k 149) (inf true)
    go true = odd_neg 25 q k 149
    go false = refl

pub round_neg : (n : ℕ) → neg (round binary32 false n 1) ≡ round binary32 true n 1
round_neg n =
    let N = n * 2 ^ 149 in
    let k = size (N / 1) - 24 in
    let u = 1 * 2 ^ k in
    ap neg (round_is binary32 false n 1) ∙ units_neg (nearest (N / u) (compare (N % u * 2) u)) k ∙ sym (round_is binary32 true n 1)
