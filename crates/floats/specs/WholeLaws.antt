-- What floor and ceiling mean: the whole number next to x. And a floored number from 0 up and below 65,536 is whole, and the integer that it is loses nothing. Assumes nothing.
pub mod Steps
use Rattle.std.specs.Prelude.{◌≡◌, refl, ℕ, zero, suc, ◌+◌, ◌*◌, ◌/◌, ◌%◌, ◌^◌, ◌≤◌, ◌<◌, Bool, true, false, cond, ◌&&◌, ◌||◌, ℤ, pos, negsuc, T, ltb, leb, eqb, Float}
use Rattle.std.proofs.Common.{sym, ap, ◌∙◌, subst, le_trans, le_of_eq, lt_of_not-le, mul-one, mul_right_comm, mul-lt-mul_of_pos_right, lt_of_mul-lt-mul_right, lt_of_lt_of_le, lt_of_le_of_lt, zero-mul, one-mul, add-mul, mul_assoc, mul-pos, zero-add, mod-lt, div-mul-le_self, div-add-mod', div-lt_iff_lt-mul, arith, ltb-true, ltb-false, lt-ltb, eq-eqb, eqb-true, le→leb, ltb→lt, pow_pos, pow_mono, pow-add}
use Rattle.std.specs.Bool.{beq}
use Rattle.std.proofs.lemmas.Bool.{false≢true}
use Rattle.std.proofs.Math.Bool.{and-eq-true_iff}
use Rattle.std.proofs.Math.Nat.{zero-div}
use Rattle.std.proofs.Math.Dec.{eqb-suc-zero}
use Rattle.std.specs.Float.{nan, inf, fin, binary32}
use Rattle.std.specs.Float.Ieee.{up, down, unlike, round, neg, lt, le, eq, of_int, of_bits, in_float, in_unsigned, to_unsigned, fits}
use Rattle.std.specs.Float.Ieee.Fits.{down_pos, and_l, and_r}
use Rattle.std.specs.Float.Ieee.Bits.{is_true}
use Rattle.std.specs.Float.Ieee.Exact.{HasValue, round_exact}
use Rattle.std.specs.Float.Ieee.Order.{round_mono}
use Rattle.std.specs.Float.Ieee.Positive.{first_pos}
use Rattle.std.specs.Float.Ieee.Back.{round_whole, unsigned_back}
use Rattle.names.specs.Bits.{lit, zero32}
use Rattle.floats.specs.OrderLaws.{le_not_lt, lt_le_transitive}
use Rattle.floats.specs.Whole.{step, toward, floor_of, whole_of, SmallWhole}
use Rattle.floats.specs.WholeLaws.Steps.{step_whole, step_le, toward_of, round_neg}

-- ---- the meaning

-- a / c cut to a whole number, and raised to one
pub step_cut : (a c : ℕ) → 0 < c → (step false a c * c ≤ a) × (a < (step false a c + 1) * c)
unfolding step
step_cut a c p = (div-mul-le_self a c, (div-lt_iff_lt-mul p).0 (omega arith))

pub step_raised : (a c : ℕ) → 0 < c → (a ≤ step true a c * c) × (step true a c * c < a + c)
unfolding step
step_raised a c p = go (a / c) (a % c) (div-add-mod' a c) (mod-lt a p)
  where
    go : (q r : ℕ) → q * c + r ≡ a → r < c → (a ≤ cond (eqb r 0) q (q + 1) * c) × (cond (eqb r 0) q (q + 1) * c < a + c)
    go q zero e h = (omega arith, omega arith)
    go q (suc r) e h =
        subst (λ (b : Bool). (a ≤ cond b q (q + 1) * c) × (cond b q (q + 1) * c < a + c)) (sym (eqb-suc-zero r)) (le_trans (omega arith) (le_of_eq (sym (next q))), lt_of_le_of_lt (le_of_eq (next q)) (omega arith))
      where
        next : (q : ℕ) → (q + 1) * c ≡ q * c + c
        next q = add-mul q 1 c ∙ ap (λ (z : ℕ). q * c + z) (one-mul c)

-- an f32 has at most 24 digits, and lies below 2 ^ 128
digits_of : (s : Bool) (m : ℕ) (e : ℤ) → T (fits binary32 (fin s m e)) → (m < 16777216) × (m * up e < 2 ^ 128 * down e)
unfolding fits
digits_of s zero e h = (omega arith, subst (λ (z : ℕ). z < 2 ^ 128 * down e) (sym (zero-mul (up e))) (mul-pos (pow_pos 128) (down_pos e)))
digits_of s (suc m) e h =
    let a = and_l (eqb (suc m % 2) 1 && ltb (suc m) (2 ^ 24) && leb (down e) (2 ^ 149)) (ltb (suc m * up e) (2 ^ 128 * down e)) h in
    let b = and_l (eqb (suc m % 2) 1 && ltb (suc m) (2 ^ 24)) (leb (down e) (2 ^ 149)) a in
    (ltb→lt (suc m) (2 ^ 24) (and_r (eqb (suc m % 2) 1) (ltb (suc m) (2 ^ 24)) b), ltb→lt (suc m * up e) (2 ^ 128 * down e) (and_r (eqb (suc m % 2) 1 && ltb (suc m) (2 ^ 24) && leb (down e) (2 ^ 149)) (ltb (suc m * up e) (2 ^ 128 * down e)) h))

-- floor and ceiling are that whole number, with x's sign: cut where x is positive and goes down or negative and goes up, and raised else
-- (`round` changes nothing: below 2 ^ 24 every whole number is an f32, and from there up x is itself whole.)
pub toward_value : (u s : Bool) (m : ℕ) (e : ℤ) → T (fits binary32 (fin s m e)) → HasValue (toward u (fin s m e)) s (step (unlike s u) (m * up e) (down e)) 1
unfolding toward
toward_value u s m (negsuc k) h =
    let d = digits_of s m (negsuc k) h in
    let w = unlike s u in
    round_whole binary32 s (step w (m * 1) (2 ^ suc k)) (le_trans (step_le w (m * 1) (2 ^ suc k)) (omega arith))
toward_value u s m (pos k) h =
    let d = digits_of s m (pos k) h in
    let n = m * 2 ^ k in
    let w = unlike s u in
    subst (λ (z : ℕ). HasValue (round binary32 s z 1) s z 1) (sym (ap (λ (z : ℕ). step w z 1) (sym (mul-one n)) ∙ step_whole w n 1 (omega arith)))
    (round_exact binary32 s n 1 m (k + 149) (omega arith) d.0
    (lt_of_le_of_lt (le_of_eq (shifted m k)) (lt_of_lt_of_le (mul-lt-mul_of_pos_right (lt_of_lt_of_le d.1 (le_of_eq (mul-one (2 ^ 128)))) (pow_pos 149)) (le_of_eq (sym (pow-add 2 128 149)))))
    (sym (shifted m k) ∙ sym (mul-one (m * 2 ^ (k + 149)))))
  where
    shifted : (m k : ℕ) → m * 2 ^ (k + 149) ≡ m * 2 ^ k * 2 ^ 149
    shifted m k = ap (λ (z : ℕ). m * z) (pow-add 2 k 149) ∙ sym (mul_assoc m (2 ^ k) (2 ^ 149))

-- ---- a rounded whole number

limit_is : round binary32 false 65536 1 ≡ lit 0x47800000
unfolding round of_bits
limit_is = refl

one_is : round binary32 false 1 1 ≡ lit 0x3f800000
unfolding round of_bits
one_is = refl

zero_one : lt zero32 (lit 0x3f800000) ≡ true
unfolding lt of_bits
zero_one = refl

neg_below : (z : Float) → lt zero32 z ≡ true → lt (neg z) zero32 ≡ true
unfolding lt neg of_bits
neg_below nan h = h
neg_below (inf true) h = absurd (false≢true h)
neg_below (inf false) h = refl
neg_below (fin true m e) h = absurd (false≢true h)
neg_below (fin false m e) h = lt-ltb 0 (m * up e * 1 + 0 * down e) (omega (arith, ltb-true (0 * down e) (m * up e * 1) h))

-- n below 65,536 where its f32 is, and 0 where its negative f32 is not below 0
round_most : (n : ℕ) → lt (round binary32 false n 1) (lit 0x47800000) ≡ true → n < 65536
round_most n h = lt_of_not-le (λ (g : 65536 ≤ n). absurd (false≢true (sym (le_not_lt (lit 0x47800000) (round binary32 false n 1) (is_true (le (lit 0x47800000) (round binary32 false n 1)) (subst (λ (v : Float). T (le v (round binary32 false n 1))) limit_is (round_mono binary32 65536 1 n 1 (omega arith) (omega arith) (omega arith))))) ∙ h)))

round_none : (n : ℕ) → lt (round binary32 true n 1) zero32 ≡ false → n ≡ 0
round_none zero h = refl
round_none (suc n) h =
    let z = round binary32 false (suc n) 1 in
    let g : le (lit 0x3f800000) z ≡ true = is_true (le (lit 0x3f800000) z) (subst (λ (v : Float). T (le v z)) one_is (round_mono binary32 1 1 (suc n) 1 (omega arith) (omega arith) (omega arith))) in
    absurd (false≢true (sym h ∙ ap (λ (v : Float). lt v zero32) (sym (round_neg (suc n))) ∙ neg_below z (lt_le_transitive zero32 (lit 0x3f800000) z zero_one g)))

round_small : (s : Bool) (n : ℕ) → lt (round binary32 s n 1) zero32 ≡ false → lt (round binary32 s n 1) (lit 0x47800000) ≡ true → n < 65536
round_small false n l h = round_most n h
round_small true n l h = let z = round_none n l in omega arith

-- such a number is whole
round_floor : (s : Bool) (n : ℕ) → n < 65536 → floor_of (round binary32 s n 1) ≡ round binary32 s n 1
round_floor s n h =
    toward_of false (round binary32 s n 1) s n 1 (omega arith) (round_whole binary32 s n (omega arith))
    ∙ ap (λ (k : ℕ). round binary32 s k 1) (ap (λ (k : ℕ). step (unlike s false) k 1) (sym (mul-one n)) ∙ step_whole (unlike s false) n 1 (omega arith))

pub toward_whole : (u : Bool) (x : Float) → lt (toward u x) zero32 ≡ false → lt (toward u x) (lit 0x47800000) ≡ true → SmallWhole (toward u x)
unfolding toward lt of_bits
toward_whole u nan l h = absurd (false≢true h)
toward_whole u (inf true) l h = absurd (false≢true (sym l))
toward_whole u (inf false) l h = absurd (false≢true h)
toward_whole u (fin s m e) l h =
    let n = step (unlike s u) (m * up e) (down e) in
    record { whole = round_floor s n (round_small s n l h); least = l; most = h }

-- ---- the integer

-- a negative one is −0
negative_zero : (m : ℕ) (e : ℤ) → lt (fin true m e) zero32 ≡ false → m * up e ≡ 0
unfolding lt of_bits
negative_zero m e h = omega (arith, ltb-false 0 (m * up e * 1 + 0 * down e) h)

less_than : (x y : Float) (n : ℕ) → HasValue y false n 1 → lt x zero32 ≡ false → lt x y ≡ true → whole_of x < n
unfolding lt whole_of of_bits
less_than nan y n v l h = absurd (false≢true h)
less_than (inf true) y n v l h = absurd (false≢true (sym l))
less_than (inf false) nan n v l h = absurd (false≢true h)
less_than (inf false) (inf t) n v l h = absurd (false≢true h)
less_than (inf false) (fin t k d) n v l h = absurd (false≢true h)
less_than (fin s m e) nan n v l h = absurd v
less_than (fin s m e) (inf t) n v l h = absurd v
less_than (fin s m e) (fin true k d) n v l h = absurd (false≢true (sym v.0))
less_than (fin false m e) (fin false k d) n v l h =
    let g : m * up e * down d < n * down e * down d = lt_of_lt_of_le (ltb-true (m * up e * down d) (k * up d * down e) h) (le_of_eq (ap (λ (z : ℕ). z * down e) (sym (mul-one (k * up d)) ∙ v.1) ∙ mul_right_comm n (down d) (down e))) in
    (div-lt_iff_lt-mul (down_pos e)).1 (lt_of_mul-lt-mul_right (down d) g)
less_than (fin true m e) (fin false k d) n v l h =
    let z = negative_zero m e l in
    subst (λ (q : ℕ). q < n) (sym (ap (λ (q : ℕ). q / down e) z ∙ zero-div (down e)))
    (first_pos n (down d) (first_pos (n * down d) (down e) (subst (λ (q : ℕ). 0 < q * down e) (sym (mul-one (k * up d)) ∙ v.1) (some (m * up e) (down d) (k * up d * down e) z (ltb-true 0 (m * up e * down d + k * up d * down e) h)))))
  where
    some : (a b c : ℕ) → a ≡ 0 → 0 < a * b + c → 0 < c
    some a b c z h = subst (λ (q : ℕ). 0 < q) (ap (λ (q : ℕ). q * b + c) z ∙ ap (λ (q : ℕ). q + c) (zero-mul b) ∙ zero-add c) h

-- below n as a float, so below n
pub whole_below : (x : Float) (n : ℕ) → n ≤ 16777216 → SmallWhole x → lt x (of_int binary32 (pos n)) ≡ true → whole_of x < n
unfolding of_int
whole_below x n b w h = less_than x (round binary32 false n 1) n (round_whole binary32 false n b) w.least h

pub whole_most : (x : Float) → SmallWhole x → whole_of x < 65536
whole_most x w = less_than x (lit 0x47800000) 65536 (subst (λ (v : Float). HasValue v false 65536 1) limit_is (round_whole binary32 false 65536 (omega arith))) w.least w.most

pub whole_zero : (x : Float) → eq x zero32 ≡ true → whole_of x ≡ 0
unfolding eq whole_of of_bits
whole_zero nan h = refl
whole_zero (inf s) h = refl
whole_zero (fin s m e) h =
    let z : m * up e ≡ 0 = sym (mul-one (m * up e)) ∙ eqb-true (m * up e * 1) (0 * down e) ((and-eq-true_iff (eqb (m * up e * 1) (0 * down e)) (beq s false || eqb (m * up e * 1) 0)).0 h).0 ∙ zero-mul (down e) in
    ap (λ (q : ℕ). q / down e) z ∙ zero-div (down e)

-- x is the float of that integer, −0 apart
pub whole_is : (x : Float) → SmallWhole x → eq x zero32 ≡ false → of_int binary32 (pos (whole_of x)) ≡ x
unfolding lt eq toward step whole_of of_int of_bits
whole_is nan w h = absurd (false≢true w.most)
whole_is (inf true) w h = absurd (false≢true (sym w.least))
whole_is (inf false) w h = absurd (false≢true w.most)
whole_is (fin false m e) w h = w.whole
whole_is (fin true m e) w h = absurd (false≢true (sym h ∙ nought (m * up e) (down e) (negative_zero m e w.least)))
  where
    nought : (a b : ℕ) → a ≡ 0 → (eqb (a * 1) (0 * b) && eqb (a * 1) 0) ≡ true
    nought a b z = let e : a * 1 ≡ 0 = omega arith in ap (λ (t : Bool). t && eqb (a * 1) 0) (eq-eqb (a * 1) (0 * b) (e ∙ sym (zero-mul b))) ∙ eq-eqb (a * 1) 0 e

-- so a cast to an integer loses nothing
pub whole_cast : (x : Float) → SmallWhole x → eq x zero32 ≡ false → T (in_unsigned binary32 64 x) × (to_unsigned 64 x ≡ whole_of x)
unfolding in_float
whole_cast x w h =
    let n = whole_of x in
    let b = unsigned_back binary32 64 n (le→leb n 16777216 (omega (arith, whole_most x w))) (lt_of_lt_of_le (whole_most x w) (pow_mono {i = 16} {j = 64} (omega arith))) in
    let e = whole_is x w h in
    (subst (λ (v : Float). T (in_unsigned binary32 64 v)) e b.0, ap (to_unsigned 64) (sym e) ∙ b.1)
