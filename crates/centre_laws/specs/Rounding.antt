-- How far one rounding moves: a fraction moves by at most a part of 2^-24 of itself and half a unit of 2^-149. And each operation on numbers that are given as fractions is the
-- rounding of one fraction. Assumes nothing.
use Rattle.std.specs.Prelude.{◌≡◌, refl, ◌⊎◌, Bool, true, false, not, cond, ◌&&◌, T, ltb, eqb, Float}
use Rattle.std.proofs.Common.{sym, ap, ◌∙◌, subst, inl, inr, le_trans, le_of_eq, lt_irrefl, lt_of_le_of_lt, lt_of_lt_of_le, zero-mul, mul_comm, mul_assoc, mul_left_comm, mul_right_comm, mul-le-mul_right, mul-lt-mul_of_pos_right, lt_of_mul-lt-mul_right, le_of_mul-le-mul_right, mul-pos, add-mul, mod-lt, div-add-mod', le-div_iff_mul-le, eq-zero-or-pos, arith, leb→le, eqb→eq, ltb-true, ltb-false, lt-ltb, le-ltb, ne_eqb, pow_pos, pow-add}
use Prim.Native.Nat.{ℕ, ◌+◌, ◌-◌, ◌*◌, ◌/◌, ◌%◌, ◌^◌, ◌≤◌, ◌<◌, compare, Ordering}
use Rattle.std.specs.Bool.{beq}
use Rattle.std.proofs.lemmas.Bool.{false≢true}
use Rattle.std.proofs.Math.Nat.{mul-mul-mul_comm, mul-sub, eq_of_mul-eq-mul_right}
use Rattle.std.proofs.Math.Dec.{is_le, compare_is_eq, nleb→lt, eqb_refl}
use Rattle.std.proofs.Math.Arith.{lt_of_le-ne}
use Rattle.std.specs.Float.{nan, inf, fin, binary32}
use Rattle.std.specs.Float.Ieee.{up, down, unlike, size, nearest, units, odd, round, sum, add, mul, div}
use Rattle.std.specs.Float.Ieee.Digits.{size_reaches}
use Rattle.std.specs.Float.Ieee.Fits.{down_pos, round_is}
use Rattle.std.specs.Float.Ieee.Exact.{HasValue, odd_sign}
use Rattle.std.specs.Float.Ieee.Nearest.{closest}
use Rattle.std.specs.Float.Ieee.Order.{drop, kept}
use Rattle.std.specs.Float.Ieee.Scale.{finite, round_same}
use Rattle.std.specs.Float.Ieee.Positive.{first_pos}

-- ---- the nearest whole number

abbrev Compared : Ordering → ℕ → ℕ → Type 0
Compared Ordering.lt a b = a < b
Compared Ordering.eq a b = a ≡ b
Compared Ordering.gt a b = b < a

compared : (a b : ℕ) → Compared (compare a b) a b
compared a b = go (compare a b) (leb→le a b) (nleb→lt a b) (eqb→eq a b) (λ (e : a ≡ b). subst (λ (x : ℕ). T (eqb a x)) e (eqb_refl a))
  where
    go : (o : Ordering) → (T (is_le o) → a ≤ b) → (T (not (is_le o)) → b < a) → (T (compare_is_eq o) → a ≡ b) → (a ≡ b → T (compare_is_eq o)) → Compared o a b
    go Ordering.lt h k e n = lt_of_le-ne (h tt) n
    go Ordering.eq h k e n = e tt
    go Ordering.gt h k e n = k tt

-- it is off by at most a half
pub closest_off : (a b : ℕ) → 0 < b → (2 * (closest a b * b) ≤ 2 * a + b) × (2 * a ≤ 2 * (closest a b * b) + b)
closest_off a b B = go (a / b) (a % b) (compare (a % b * 2) b) (div-add-mod' a b) (mod-lt a B) (compared (a % b * 2) b)
  where
    go : (q r : ℕ) (o : Ordering) → q * b + r ≡ a → r < b → Compared o (r * 2) b → (2 * (nearest q o * b) ≤ 2 * a + b) × (2 * a ≤ 2 * (nearest q o * b) + b)
    go q r Ordering.lt e h c = (omega arith, omega arith)
    go q r Ordering.eq e h c = let l : q % 2 ≤ 1 = omega arith in let k = mul-le-mul_right b l in (omega arith, omega arith)
    go q r Ordering.gt e h c = (omega arith, omega arith)

-- ---- a fraction, n / den units of 2 ^ -149

abbrev pub grid_of : ℕ → ℕ → ℕ
grid_of n den = kept 24 n den * 2 ^ drop 24 n den

-- half of what a rounded fraction is a multiple of is at most a part of 2^-24 of it, or half a unit
half_step : (n den : ℕ) → 0 < den → 8388608 * (den * 2 ^ drop 24 n den) ≤ n + 8388608 * den
half_step n den D = go (eq-zero-or-pos k)
  where
    k : ℕ
    k = drop 24 n den

    all_in_use : (z : ℕ) → 0 < z - 24 → 23 + (z - 24) < z
    all_in_use z h = omega arith

    one : (p : ℕ) → p ≡ 1 → 8388608 * (den * p) ≤ n + 8388608 * den
    one p e = rw e (omega arith)

    go : (k ≡ 0) ⊎ (0 < k) → 8388608 * (den * 2 ^ k) ≤ n + 8388608 * den
    go (inl z) = one (2 ^ k) (ap (λ (v : ℕ). 2 ^ v) z)
    go (inr y) =
        let big : 2 ^ (23 + k) ≤ n / den = size_reaches (n / den) (23 + k) (all_in_use (size (n / den)) y) in
        let g : 8388608 * (den * 2 ^ k) ≤ n = le_trans (le_of_eq (sym (mul_assoc 8388608 den (2 ^ k)) ∙ mul_right_comm 8388608 den (2 ^ k) ∙ ap (λ (z : ℕ). z * den) (sym (pow-add 2 23 k)))) ((le-div_iff_mul-le D).0 big) in
        omega arith

pub grid_off : (n den : ℕ) → 0 < den → (16777216 * (grid_of n den * den) ≤ 16777217 * n + 8388608 * den) × (16777215 * n ≤ 16777216 * (grid_of n den * den) + 8388608 * den)
grid_off n den D = go (kept 24 n den) (2 ^ drop 24 n den) (closest_off n (den * 2 ^ drop 24 n den) (mul-pos D (pow_pos (drop 24 n den)))) (half_step n den D)
  where
    go : (q p : ℕ) → (2 * (q * (den * p)) ≤ 2 * n + den * p) × (2 * n ≤ 2 * (q * (den * p)) + den * p) → 8388608 * (den * p) ≤ n + 8388608 * den
        → (16777216 * (q * p * den) ≤ 16777217 * n + 8388608 * den) × (16777215 * n ≤ 16777216 * (q * p * den) + 8388608 * den)
    go q p h s = let u = h.0 in let l = h.1 in (omega arith, omega arith)

-- x is a / c, of the sign s, rounded: so many units, and how far off they are
pub record RoundedFrom (s : Bool) (a c : ℕ) (x : Float) : Type 0 where
  pub units : ℕ
  pub value : HasValue x s units (2 ^ 149)
  pub most : 16777216 * (units * c) ≤ 16777217 * (a * 2 ^ 149) + 8388608 * c
  pub least : 16777215 * (a * 2 ^ 149) ≤ 16777216 * (units * c) + 8388608 * c

pub rounded_from : (s : Bool) (a c : ℕ) → 0 < c → finite (round binary32 s a c) ≡ true → RoundedFrom s a c (round binary32 s a c)
unfolding units
rounded_from s a c C h =
    let n = a * 2 ^ 149 in
    let o = grid_off n c C in
    record {
      units = grid_of n c;
      value = subst (λ (v : Float). HasValue v s (grid_of n c) (2 ^ 149)) (sym (round_is binary32 s a c)) (of_units (kept 24 n c) (drop 24 n c) (ap finite (sym (round_is binary32 s a c)) ∙ h));
      most = o.0;
      least = o.1;
    }
  where
    of_units : (q k : ℕ) → finite (units binary32 s q k) ≡ true → HasValue (units binary32 s q k) s (q * 2 ^ k) (2 ^ 149)
    of_units q k h = go (ltb (q * 2 ^ k) (2 ^ 277)) h
      where
        go : (b : Bool) → finite (cond b (odd 25 s q k 149) (inf s)) ≡ true → HasValue (cond b (odd 25 s q k 149) (inf s)) s (q * 2 ^ k) (2 ^ 149)
        go true h = odd_sign 25 s q k 149
        go false h = absurd (false≢true h)

-- ---- the operations as roundings of one fraction

scaled_less : (a b c A B C : ℕ) → 0 < c → 0 < C → A * c ≡ a * C → B * c ≡ b * C → ltb A B ≡ ltb a b
scaled_less a b c A B C p q e f = go (ltb a b) refl
  where
    go : (t : Bool) → ltb a b ≡ t → ltb A B ≡ t
    go true h = lt-ltb A B (lt_of_mul-lt-mul_right c (lt_of_le_of_lt (le_of_eq e) (lt_of_lt_of_le (mul-lt-mul_of_pos_right (ltb-true a b h) q) (le_of_eq (sym f)))))
    go false h = le-ltb A B (le_of_mul-le-mul_right (le_trans (le_of_eq f) (le_trans (mul-le-mul_right C (ltb-false a b h)) (le_of_eq (sym e)))) p)

-- a difference of equal fractions
scaled_minus : (a b c A B C : ℕ) → A * c ≡ a * C → B * c ≡ b * C → (A - B) * c ≡ (a - b) * C
scaled_minus a b c A B C e f =
    mul_comm (A - B) c ∙ mul-sub c A B ∙ ap (λ (z : ℕ). z - c * B) (mul_comm c A ∙ e) ∙ ap (λ (z : ℕ). a * C - z) (mul_comm c B ∙ f)
    ∙ sym (mul_comm (a - b) C ∙ mul-sub C a b ∙ ap (λ (z : ℕ). z - C * b) (mul_comm C a) ∙ ap (λ (z : ℕ). a * C - z) (mul_comm C b))

sum_same : (s t : Bool) (a b c A B C : ℕ) → 0 < c → 0 < C → A * c ≡ a * C → B * c ≡ b * C → sum binary32 s A t B C ≡ sum binary32 s a t b c
unfolding sum
sum_same s t a b c A B C p q e f =
    ap (λ (z : Float). cond (beq s t) z (cond (ltb A B) (round binary32 t (B - A) C) (round binary32 (s && ltb B A) (A - B) C)))
    (round_same binary32 s (A + B) C (a + b) c q p (add-mul A B c ∙ ap (λ (z : ℕ). z + B * c) e ∙ ap (λ (z : ℕ). a * C + z) f ∙ sym (add-mul a b C)))
    ∙ ap (λ (z : Float). cond (beq s t) (round binary32 s (a + b) c) (cond (ltb A B) z (round binary32 (s && ltb B A) (A - B) C)))
    (round_same binary32 t (B - A) C (b - a) c q p (scaled_minus b a c B A C f e))
    ∙ ap (λ (z : Float). cond (beq s t) (round binary32 s (a + b) c) (cond (ltb A B) (round binary32 t (b - a) c) z))
    (round_same binary32 (s && ltb B A) (A - B) C (a - b) c q p (scaled_minus a b c A B C e f))
    ∙ ap (λ (z : Bool). cond (beq s t) (round binary32 s (a + b) c) (cond z (round binary32 t (b - a) c) (round binary32 (s && ltb B A) (a - b) c))) (scaled_less a b c A B C p q e f)
    ∙ ap (λ (z : Bool). cond (beq s t) (round binary32 s (a + b) c) (cond (ltb a b) (round binary32 t (b - a) c) (round binary32 (s && z) (a - b) c))) (scaled_less b a c B A C p q f e)

-- of ±a / c and ±b / c
pub add_of : (x y : Float) (s t : Bool) (a b c : ℕ) → 0 < c → HasValue x s a c → HasValue y t b c → add binary32 x y ≡ sum binary32 s a t b c
unfolding add
add_of nan y s t a b c C v w = absurd v
add_of (inf p) y s t a b c C v w = absurd v
add_of (fin p m e) nan s t a b c C v w = absurd w
add_of (fin p m e) (inf q) s t a b c C v w = absurd w
add_of (fin p m e) (fin q n d) s t a b c C v w =
    sum_same p q a b c (m * up e * down d) (n * up d * down e) (down e * down d) C (mul-pos (down_pos e) (down_pos d))
    (mul_right_comm (m * up e) (down d) c ∙ ap (λ (z : ℕ). z * down d) v.1 ∙ mul_assoc a (down e) (down d))
    (mul_right_comm (n * up d) (down e) c ∙ ap (λ (z : ℕ). z * down e) w.1 ∙ mul_assoc b (down d) (down e) ∙ ap (λ (z : ℕ). b * z) (mul_comm (down d) (down e)))
    ∙ ap (λ (z : Bool). sum binary32 z a q b c) v.0
    ∙ ap (λ (z : Bool). sum binary32 s a z b c) w.0

-- of ±a / c and ±b / d
pub mul_of : (x y : Float) (s t : Bool) (a c b d : ℕ) → 0 < c → 0 < d → HasValue x s a c → HasValue y t b d → mul binary32 x y ≡ round binary32 (unlike s t) (a * b) (c * d)
unfolding mul
mul_of nan y s t a c b d C D v w = absurd v
mul_of (inf p) y s t a c b d C D v w = absurd v
mul_of (fin p m e) nan s t a c b d C D v w = absurd w
mul_of (fin p m e) (inf q) s t a c b d C D v w = absurd w
mul_of (fin p m e) (fin q n j) s t a c b d C D v w =
    round_same binary32 (unlike p q) (m * up e * (n * up j)) (down e * down j) (a * b) (c * d) (mul-pos (down_pos e) (down_pos j)) (mul-pos C D)
    (mul-mul-mul_comm (m * up e) (n * up j) c d ∙ ap (λ (z : ℕ). z * (n * up j * d)) v.1 ∙ ap (λ (z : ℕ). a * down e * z) w.1 ∙ mul-mul-mul_comm a (down e) b (down j))
    ∙ ap (λ (z : Bool). round binary32 (unlike z q) (a * b) (c * d)) v.0
    ∙ ap (λ (z : Bool). round binary32 (unlike s z) (a * b) (c * d)) w.0

-- of ±a / c by ±b / c
pub div_of : (x y : Float) (s t : Bool) (a b c : ℕ) → 0 < b → 0 < c → HasValue x s a c → HasValue y t b c → div binary32 x y ≡ round binary32 (unlike s t) a b
unfolding div
div_of nan y s t a b c B C v w = absurd v
div_of (inf p) y s t a b c B C v w = absurd v
div_of (fin p m e) nan s t a b c B C v w = absurd w
div_of (fin p m e) (inf q) s t a b c B C v w = absurd w
div_of (fin p m e) (fin q n j) s t a b c B C v w =
    let some : 0 < n * up j = first_pos (n * up j) c (subst (λ (z : ℕ). 0 < z) (sym w.1) (mul-pos B (down_pos j))) in
    let z : eqb n 0 ≡ false = ne_eqb n 0 (λ e. lt_irrefl 0 (subst (λ (k : ℕ). 0 < k) (ap (λ (k : ℕ). k * up j) e ∙ zero-mul (up j)) some)) in
    ap (λ (k : Bool). cond k (cond (eqb m 0) nan (inf (unlike p q))) (round binary32 (unlike p q) (m * up e * down j) (n * up j * down e))) z
    ∙ round_same binary32 (unlike p q) (m * up e * down j) (n * up j * down e) a b (mul-pos some (down_pos e)) B
    (eq_of_mul-eq-mul_right c C _ _
    (moved (m * up e) (down j) b c ∙ ap (λ (k : ℕ). k * (b * down j)) v.1 ∙ ap (λ (k : ℕ). a * down e * k) (sym w.1) ∙ back a (down e) (n * up j) c))
    ∙ ap (λ (k : Bool). round binary32 (unlike k q) a b) v.0
    ∙ ap (λ (k : Bool). round binary32 (unlike s k) a b) w.0
  where
    moved : (a b c d : ℕ) → a * b * c * d ≡ a * d * (c * b)
    moved a b c d = simp (mul_assoc, mul_comm, mul_left_comm)

    back : (a b c d : ℕ) → a * b * (c * d) ≡ a * (c * b) * d
    back a b c d = simp (mul_assoc, mul_comm)
