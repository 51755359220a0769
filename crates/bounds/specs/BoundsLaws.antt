-- How the operations keep numbers within bounds n * 2 ^ k, with n of at most 24 binary digits: a bound that is itself an f32, so that rounding does not pass it. Assumes nothing.
use Rattle.std.specs.Prelude.{◌≡◌, refl, ◌⊎◌, Bool, true, false, cond, ◌&&◌, ◌||◌, ℤ, pos, ltb, eqb, Float}
use Rattle.std.proofs.Common.{sym, ap, ◌∙◌, subst, inl, inr, le_trans, le_of_eq, le_of_lt, eq-or-lt_of_le, lt_of_le_of_lt, lt_of_lt_of_le, lt_irrefl, mul-one, zero-mul, mul_comm, mul_assoc, mul_left_comm, mul_right_comm, add-mul, mul-le-mul, mul-le-mul_right, mul-lt-mul_of_pos_right, le_of_mul-le-mul_right, mul-pos, div-one, add-le-add, arith, lit≤, ltb-true, eqb-true, lt-ltb, eq-eqb, ne_eqb, pow_pos, pow_mono, pow-add, shl_lt}
use Prim.Native.Nat.{ℕ, zero, suc, ◌+◌, ◌-◌, ◌*◌, ◌/◌, ◌^◌, ◌≤◌, ◌<◌, zero-le, compare}
use Rattle.std.specs.Bool.{beq}
use Rattle.std.proofs.lemmas.Bool.{false≢true}
use Rattle.std.proofs.Math.Bool.{or-true, and-eq-true_iff}
use Rattle.std.proofs.Math.Nat.{le_refl, mul-mul-mul_comm, mod-one, div-le_of_le-mul}
use Rattle.std.specs.Float.{nan, inf, fin, binary32}
use Rattle.std.specs.Float.Ieee.{up, down, unlike, size, nearest, units, round, neg, sum, add, sub, mul, div, lt, eq, le, is_nan, of_bits, of_int}
use Rattle.std.specs.Float.Ieee.Digits.{size-le, back}
use Rattle.std.specs.Float.Ieee.Fits.{down_pos, round_is}
use Rattle.std.specs.Float.Ieee.Exact.{HasValue, units_val}
use Rattle.std.specs.Float.Ieee.Nearest.{closest, closest_mono}
use Rattle.std.specs.Float.Ieee.Order.{drop, kept}
use Rattle.std.specs.Float.Ieee.Back.{round_whole}
use Rattle.std.specs.Float.Ieee.Scale.{finite}
use Rattle.std.specs.Float.Ieee.Positive.{first_pos}
use Rattle.names.specs.Bits.{zero32, half32, one32}
use Rattle.names.specs.Numbers.{point_limit, edge_limit, colour_limit, direction_limit, light_limit, coefficient_limit}
use Rattle.floats.specs.Choice.{magnitude_of, larger_of, smaller_of}
use Rattle.floats.specs.OrderLaws.{lt_asymmetric, lt_irreflexive, lt_transitive, not_lt_le, lt_le}
use Rattle.floats.specs.FiniteLaws.{finite_number, larger_number, smaller_number}
use Rattle.vectors.specs.Vectors.{clamp_of}
use Rattle.bounds.specs.Bounds.{AtMost, AtLeast, Under, Within}

-- ---- rounding

pub closest_one : (c : ℕ) → closest c 1 ≡ c
closest_one c = ap (λ (z : ℕ). nearest (c / 1) (compare (z * 2) 1)) (mod-one c) ∙ div-one c

-- the spare digits of n * 2 ^ j
spare : (z j : ℕ) → z ≤ 24 + j → z - 24 ≤ j
spare z j h = omega arith

-- in units of 2 ^ -149: what a fraction of at most n * 2 ^ j units rounds to is at most that
pub grid_most : (a c n j : ℕ) → 0 < c → n < 16777216 → a ≤ n * 2 ^ j * c → kept 24 a c * 2 ^ drop 24 a c ≤ n * 2 ^ j
grid_most a c n j C N h =
    let k = drop 24 a c in
    let w : a / c ≤ n * 2 ^ j = div-le_of_le-mul c (le_trans h (le_of_eq (mul_comm (n * 2 ^ j) c))) in
    let l : k ≤ j = spare (size (a / c)) j (size-le (a / c) (24 + j) (lt_of_le_of_lt w (shl_lt 24 j N))) in
    let e : n * 2 ^ (j - k) * 2 ^ k ≡ n * 2 ^ j = mul_assoc n (2 ^ (j - k)) (2 ^ k) ∙ ap (λ (z : ℕ). n * z) (sym (pow-add 2 (j - k) k) ∙ ap (λ (z : ℕ). 2 ^ z) (back j k l)) in
    let g : a * 1 ≤ n * 2 ^ (j - k) * (c * 2 ^ k) = le_trans (le_of_eq (mul-one a)) (le_trans h (le_of_eq (ap (λ (z : ℕ). z * c) (sym e) ∙ mul_right_comm (n * 2 ^ (j - k)) (2 ^ k) c ∙ mul_assoc (n * 2 ^ (j - k)) c (2 ^ k)))) in
    le_trans (mul-le-mul_right (2 ^ k) (le_trans (closest_mono a (c * 2 ^ k) (n * 2 ^ (j - k)) 1 (mul-pos C (pow_pos k)) (omega arith) g) (le_of_eq (closest_one (n * 2 ^ (j - k)))))) (le_of_eq e)

-- x is a units of 2 ^ -149 in size, and a is at most n * 2 ^ k in those units
pub at_most_of_value : (x : Float) (s : Bool) (a n k : ℕ) → HasValue x s a (2 ^ 149) → a ≤ n * 2 ^ (k + 149) → AtMost n k x
unfolding AtMost
at_most_of_value nan s a n k v h = v
at_most_of_value (inf t) s a n k v h = v
at_most_of_value (fin t m e) s a n k v h =
    le_of_mul-le-mul_right
    (le_trans (le_of_eq v.1) (le_trans (mul-le-mul_right (down e) h) (le_of_eq (ap (λ (z : ℕ). n * z * down e) (pow-add 2 k 149) ∙ ap (λ (z : ℕ). z * down e) (sym (mul_assoc n (2 ^ k) (2 ^ 149))) ∙ mul_right_comm (n * 2 ^ k) (2 ^ 149) (down e)))))
    (pow_pos 149)

pub round_at_most : (s : Bool) (a c n k : ℕ) → 0 < c → n < 16777216 → n * 2 ^ k < 2 ^ 128 → a ≤ n * 2 ^ k * c → AtMost n k (round binary32 s a c)
round_at_most s a c n k C N B h =
    let b = a * 2 ^ 149 in
    let scaled : n * 2 ^ (k + 149) ≡ n * 2 ^ k * 2 ^ 149 = ap (λ (z : ℕ). n * z) (pow-add 2 k 149) ∙ sym (mul_assoc n (2 ^ k) (2 ^ 149)) in
    let g : kept 24 b c * 2 ^ drop 24 b c ≤ n * 2 ^ (k + 149) = grid_most b c n (k + 149) C N (le_trans (mul-le-mul_right (2 ^ 149) h) (le_of_eq (mul_right_comm (n * 2 ^ k) c (2 ^ 149) ∙ ap (λ (z : ℕ). z * c) (sym scaled)))) in
    let small : kept 24 b c * 2 ^ drop 24 b c < 2 ^ 277 = lt_of_le_of_lt g (lt_of_le_of_lt (le_of_eq scaled) (lt_of_lt_of_le (mul-lt-mul_of_pos_right B (pow_pos 149)) (le_of_eq (sym (pow-add 2 128 149))))) in
    subst (λ (v : Float). AtMost n k v) (sym (round_is binary32 s a c)) (at_most_of_value (units binary32 s (kept 24 b c) (drop 24 b c)) s (kept 24 b c * 2 ^ drop 24 b c) n k (units_val binary32 s (kept 24 b c) (drop 24 b c) small) g)

-- and of a fraction at most n / 2 ^ d
pub round_under : (s : Bool) (a c n d : ℕ) → 0 < c → n < 16777216 → d ≤ 149 → a * 2 ^ d ≤ n * c → Under n d (round binary32 s a c)
unfolding Under
round_under s a c n d C N E h =
    let j = 149 - d in
    let b = a * 2 ^ 149 in
    let whole : d + j ≡ 149 = omega arith in
    let split : 2 ^ d * 2 ^ j ≡ 2 ^ 149 = sym (pow-add 2 d j) ∙ ap (λ (z : ℕ). 2 ^ z) whole in
    let g : kept 24 b c * 2 ^ drop 24 b c ≤ n * 2 ^ j = grid_most b c n j C N (le_trans (le_of_eq (ap (λ (z : ℕ). a * z) (sym split) ∙ sym (mul_assoc a (2 ^ d) (2 ^ j)))) (le_trans (mul-le-mul_right (2 ^ j) h) (le_of_eq (mul_right_comm n c (2 ^ j))))) in
    let small : kept 24 b c * 2 ^ drop 24 b c < 2 ^ 277 = lt_of_le_of_lt g (lt_of_lt_of_le (mul-lt-mul_of_pos_right N (pow_pos j)) (le_trans (mul-le-mul (le_refl 16777216) (pow_mono {i = j} {j = 149} (omega arith))) (lit≤ tt))) in
    subst (λ (v : Float). Under n d v) (sym (round_is binary32 s a c)) (of_value (units binary32 s (kept 24 b c) (drop 24 b c)) (kept 24 b c * 2 ^ drop 24 b c) (units_val binary32 s (kept 24 b c) (drop 24 b c) small) split g)
  where
    of_value : (x : Float) (q : ℕ) → HasValue x s q (2 ^ 149) → 2 ^ d * 2 ^ (149 - d) ≡ 2 ^ 149 → q ≤ n * 2 ^ (149 - d) → Under n d x
    of_value nan q v e g = v
    of_value (inf t) q v e g = v
    of_value (fin t m i) q v e g =
        le_of_mul-le-mul_right
        (le_trans (le_of_eq (mul_assoc (m * up i) (2 ^ d) (2 ^ (149 - d)) ∙ ap (λ (z : ℕ). m * up i * z) e ∙ v.1)) (le_trans (mul-le-mul_right (down i) g) (le_of_eq (mul_right_comm n (2 ^ (149 - d)) (down i)))))
        (pow_pos (149 - d))

-- ---- what a test says

or_le : (a b : ℕ) (t : Bool) → (ltb a b || (eqb a b && t)) ≡ true → a ≤ b
or_le a b t h = go (ltb a b) (eqb a b) (ltb-true a b) (eqb-true a b) h
  where
    go : (p q : Bool) → (p ≡ true → a < b) → (q ≡ true → a ≡ b) → (p || (q && t)) ≡ true → a ≤ b
    go true q f g h = le_of_lt (f refl)
    go false true f g h = le_of_eq (g refl)
    go false false f g h = absurd (false≢true h)

or_ge : (a b : ℕ) (t : Bool) → (ltb b a || (eqb a b && t)) ≡ true → b ≤ a
or_ge a b t h = go (ltb b a) (eqb a b) (ltb-true b a) (eqb-true a b) h
  where
    go : (p q : Bool) → (p ≡ true → b < a) → (q ≡ true → a ≡ b) → (p || (q && t)) ≡ true → b ≤ a
    go true q f g h = le_of_lt (f refl)
    go false true f g h = le_of_eq (sym (g refl))
    go false false f g h = absurd (false≢true h)

ge_or : (a b : ℕ) → b ≤ a → (ltb b a || (eqb a b && true)) ≡ true
ge_or a b h = go (eq-or-lt_of_le h)
  where
    go : (b ≡ a) ⊎ (b < a) → (ltb b a || (eqb a b && true)) ≡ true
    go (inr l) = ap (λ (t : Bool). t || (eqb a b && true)) (lt-ltb b a l)
    go (inl e) = ap (λ (t : Bool). ltb b a || (t && true)) (eq-eqb a b (sym e)) ∙ or-true (ltb b a)

-- −a ≤ b
minus_plus : (a b : ℕ) → (ltb 0 (a + b) || (eqb a b && eqb a 0)) ≡ true
minus_plus zero zero = refl
minus_plus zero (suc b) = ap (λ (t : Bool). t || (eqb 0 (suc b) && eqb 0 0)) (lt-ltb 0 (0 + suc b) (omega arith))
minus_plus (suc a) b = ap (λ (t : Bool). t || (eqb (suc a) b && eqb (suc a) 0)) (lt-ltb 0 (suc a + b) (omega arith))

le_or : (a b : ℕ) → a ≤ b → (ltb a b || (eqb a b && true)) ≡ true
le_or a b h = go (eq-or-lt_of_le h)
  where
    go : (a ≡ b) ⊎ (a < b) → (ltb a b || (eqb a b && true)) ≡ true
    go (inr l) = ap (λ (t : Bool). t || (eqb a b && true)) (lt-ltb a b l)
    go (inl e) = ap (λ (t : Bool). ltb a b || (t && true)) (eq-eqb a b e) ∙ or-true (ltb a b)

-- m * 2 ^ e against l * 2 ^ d, which is the whole number b
le_scaled : (m : ℕ) (e : ℤ) (l : ℕ) (d : ℤ) (b : ℕ) → l * up d * 1 ≡ b * down d → m * up e * down d ≤ l * up d * down e → m * up e ≤ b * down e
le_scaled m e l d b v h =
    le_of_mul-le-mul_right (le_trans h (le_of_eq (ap (λ (z : ℕ). z * down e) (sym (mul-one (l * up d)) ∙ v) ∙ mul_right_comm b (down d) (down e)))) (down_pos d)

scaled_le : (m : ℕ) (e : ℤ) (l : ℕ) (d : ℤ) (b : ℕ) → l * up d * 1 ≡ b * down d → m * up e ≤ b * down e → m * up e * down d ≤ l * up d * down e
scaled_le m e l d b v h =
    le_trans (mul-le-mul_right (down d) h) (le_of_eq (mul_right_comm b (down e) (down d) ∙ ap (λ (z : ℕ). z * down e) (sym v ∙ mul-one (l * up d))))

-- |x| ≤ n * 2 ^ k, so |x| ≤ l * 2 ^ j
pub at_most_up : (x : Float) (n k l j : ℕ) → n * 2 ^ k ≤ l * 2 ^ j → AtMost n k x → AtMost l j x
unfolding AtMost
at_most_up nan n k l j h a = a
at_most_up (inf s) n k l j h a = a
at_most_up (fin s m e) n k l j h a = le_trans a (mul-le-mul_right (down e) h)

-- −b ≤ x ≤ b, for a b that is n * 2 ^ k
pub at_most_of_test : (x b : Float) (n k : ℕ) → HasValue b false (n * 2 ^ k) 1 → le (neg b) x ≡ true → le x b ≡ true → AtMost n k x
unfolding AtMost neg le lt eq
at_most_of_test x nan n k v h g = absurd v
at_most_of_test x (inf t) n k v h g = absurd v
at_most_of_test x (fin true l d) n k v h g = absurd (false≢true (sym v.0))
at_most_of_test nan (fin false l d) n k v h g = absurd (false≢true g)
at_most_of_test (inf true) (fin false l d) n k v h g = absurd (false≢true h)
at_most_of_test (inf false) (fin false l d) n k v h g = absurd (false≢true g)
at_most_of_test (fin false m e) (fin false l d) n k v h g = le_scaled m e l d (n * 2 ^ k) v.1 (or_le (m * up e * down d) (l * up d * down e) true g)
at_most_of_test (fin true m e) (fin false l d) n k v h g = le_scaled m e l d (n * 2 ^ k) v.1 (or_ge (l * up d * down e) (m * up e * down d) true h)

-- and back
pub test_of_at_most : (x b : Float) (n k : ℕ) → HasValue b false (n * 2 ^ k) 1 → AtMost n k x → (le (neg b) x ≡ true) × (le x b ≡ true)
unfolding AtMost neg le lt eq
test_of_at_most x nan n k v h = absurd v
test_of_at_most x (inf t) n k v h = absurd v
test_of_at_most x (fin true l d) n k v h = absurd (false≢true (sym v.0))
test_of_at_most nan (fin false l d) n k v h = absurd h
test_of_at_most (inf s) (fin false l d) n k v h = absurd h
test_of_at_most (fin false m e) (fin false l d) n k v h =
    (minus_plus (l * up d * down e) (m * up e * down d), le_or (m * up e * down d) (l * up d * down e) (scaled_le m e l d (n * 2 ^ k) v.1 h))
test_of_at_most (fin true m e) (fin false l d) n k v h =
    (ge_or (l * up d * down e) (m * up e * down d) (scaled_le m e l d (n * 2 ^ k) v.1 h), minus_plus (m * up e * down d) (l * up d * down e))

over_scaled : (m : ℕ) (e : ℤ) (l : ℕ) (d : ℤ) (n k : ℕ) → l * up d * 2 ^ k ≡ n * down d → l * up d * down e ≤ m * up e * down d → n * down e ≤ m * up e * 2 ^ k
over_scaled m e l d n k v h =
    le_of_mul-le-mul_right
    (le_trans (le_of_eq (mul_right_comm n (down e) (down d) ∙ ap (λ (z : ℕ). z * down e) (sym v) ∙ mul_right_comm (l * up d) (2 ^ k) (down e)))
    (le_trans (mul-le-mul_right (2 ^ k) h) (le_of_eq (mul_right_comm (m * up e) (down d) (2 ^ k)))))
    (down_pos d)

-- b ≤ x, for a b that is n / 2 ^ k
pub at_least_of_test : (x b : Float) (n k : ℕ) → HasValue b false n (2 ^ k) → finite x ≡ true → le b x ≡ true → AtLeast n k x
unfolding AtLeast le lt eq
at_least_of_test nan b n k v f h = absurd (false≢true f)
at_least_of_test (inf s) b n k v f h = absurd (false≢true f)
at_least_of_test (fin s m e) nan n k v f h = absurd v
at_least_of_test (fin s m e) (inf t) n k v f h = absurd v
at_least_of_test (fin s m e) (fin true l d) n k v f h = absurd (false≢true (sym v.0))
at_least_of_test (fin false m e) (fin false l d) n k v f h = over_scaled m e l d n k v.1 (or_le (l * up d * down e) (m * up e * down d) true h)
at_least_of_test (fin true m e) (fin false l d) n k v f h = over_scaled m e l d n k v.1 (le_of_eq (eqb-true (l * up d * down e) (m * up e * down d) ((and-eq-true_iff (eqb (l * up d * down e) (m * up e * down d)) (eqb (l * up d * down e) 0)).0 h).0))

-- ---- the operations

pub neg_at_most : (x : Float) (n k : ℕ) → AtMost n k x → AtMost n k (neg x)
unfolding AtMost neg
neg_at_most nan n k h = h
neg_at_most (inf s) n k h = h
neg_at_most (fin s m e) n k h = h

sum_at_most : (s : Bool) (a : ℕ) (t : Bool) (b c n k : ℕ) → 0 < c → n < 16777216 → n * 2 ^ k < 2 ^ 128 → a + b ≤ n * 2 ^ k * c → AtMost n k (sum binary32 s a t b c)
unfolding sum
sum_at_most s a t b c n k C N B h = go (beq s t) (ltb a b)
  where
    go : (p q : Bool) → AtMost n k (cond p (round binary32 s (a + b) c) (cond q (round binary32 t (b - a) c) (round binary32 (s && ltb b a) (a - b) c)))
    go true q = round_at_most s (a + b) c n k C N B h
    go false true = round_at_most t (b - a) c n k C N B (le_trans (omega arith) h)
    go false false = round_at_most (s && ltb b a) (a - b) c n k C N B (le_trans (omega arith) h)

pub add_at_most : (x y : Float) (n l k : ℕ) → n + l < 16777216 → (n + l) * 2 ^ k < 2 ^ 128 → AtMost n k x → AtMost l k y → AtMost (n + l) k (add binary32 x y)
unfolding AtMost add
add_at_most nan y n l k N B h g = absurd h
add_at_most (inf s) y n l k N B h g = absurd h
add_at_most (fin s m e) nan n l k N B h g = absurd g
add_at_most (fin s m e) (inf t) n l k N B h g = absurd g
add_at_most (fin s m e) (fin t q d) n l k N B h g =
    sum_at_most s (m * up e * down d) t (q * up d * down e) (down e * down d) (n + l) k (mul-pos (down_pos e) (down_pos d)) N B
    (le_trans (add-le-add (mul-le-mul_right (down d) h) (mul-le-mul_right (down e) g)) (le_of_eq (joined (n * 2 ^ k) (l * 2 ^ k) (down e) (down d) ∙ ap (λ (z : ℕ). z * (down e * down d)) (sym (add-mul n l (2 ^ k))))))
  where
    joined : (a b p q : ℕ) → a * p * q + b * q * p ≡ (a + b) * (p * q)
    joined a b p q = ap (λ (z : ℕ). z + b * q * p) (mul_assoc a p q) ∙ ap (λ (z : ℕ). a * (p * q) + z) (mul_assoc b q p ∙ ap (λ (z : ℕ). b * z) (mul_comm q p)) ∙ sym (add-mul a b (p * q))

pub sub_at_most : (x y : Float) (n l k : ℕ) → n + l < 16777216 → (n + l) * 2 ^ k < 2 ^ 128 → AtMost n k x → AtMost l k y → AtMost (n + l) k (sub binary32 x y)
unfolding sub
sub_at_most x y n l k N B h g = add_at_most x (neg y) n l k N B h (neg_at_most y l k g)

pub mul_at_most : (x y : Float) (n j l k : ℕ) → n * l < 16777216 → n * l * 2 ^ (j + k) < 2 ^ 128 → AtMost n j x → AtMost l k y → AtMost (n * l) (j + k) (mul binary32 x y)
unfolding AtMost mul
mul_at_most nan y n j l k N B h g = absurd h
mul_at_most (inf s) y n j l k N B h g = absurd h
mul_at_most (fin s m e) nan n j l k N B h g = absurd g
mul_at_most (fin s m e) (inf t) n j l k N B h g = absurd g
mul_at_most (fin s m e) (fin t q d) n j l k N B h g =
    round_at_most (unlike s t) (m * up e * (q * up d)) (down e * down d) (n * l) (j + k) (mul-pos (down_pos e) (down_pos d)) N B
    (le_trans (mul-le-mul h g)
    (le_of_eq (mul-mul-mul_comm (n * 2 ^ j) (down e) (l * 2 ^ k) (down d) ∙ ap (λ (z : ℕ). z * (down e * down d)) (mul-mul-mul_comm n (2 ^ j) l (2 ^ k) ∙ ap (λ (z : ℕ). n * l * z) (sym (pow-add 2 j k))))))

-- |x| ≤ l / 2 ^ d and |y| ≤ n * 2 ^ d * 2 ^ k, so |x * y| ≤ n * l * 2 ^ k
pub under_mul : (x y : Float) (n k l d : ℕ) → n * l < 16777216 → n * l * 2 ^ k < 2 ^ 128 → Under l d x → AtMost (n * 2 ^ d) k y → AtMost (n * l) k (mul binary32 x y)
unfolding AtMost Under mul
under_mul nan y n k l d N B h g = absurd h
under_mul (inf s) y n k l d N B h g = absurd h
under_mul (fin s m e) nan n k l d N B h g = absurd g
under_mul (fin s m e) (inf t) n k l d N B h g = absurd g
under_mul (fin s m e) (fin t q j) n k l d N B h g =
    round_at_most (unlike s t) (m * up e * (q * up j)) (down e * down j) (n * l) k (mul-pos (down_pos e) (down_pos j)) N B
    (le_of_mul-le-mul_right (le_trans (le_of_eq (mul_right_comm (m * up e) (q * up j) (2 ^ d))) (le_trans (mul-le-mul h g) (le_of_eq (moved n (2 ^ d) (2 ^ k) (down e) l (down j))))) (pow_pos d))
  where
    moved : (n a b e l j : ℕ) → l * e * (n * a * b * j) ≡ n * l * b * (e * j) * a
    moved n a b e l j = simp (mul_assoc, mul_comm, mul_left_comm)

-- |x| ≤ n * l * 2 ^ j and l / 2 ^ k ≤ |y|, so |x / y| ≤ n * 2 ^ (j + k)
pub div_at_most : (x y : Float) (n l j k : ℕ) → 0 < l → n < 16777216 → n * 2 ^ (j + k) < 2 ^ 128 → AtMost (n * l) j x → AtLeast l k y → AtMost n (j + k) (div binary32 x y)
unfolding AtMost AtLeast div
div_at_most nan y n l j k L N B h g = absurd h
div_at_most (inf s) y n l j k L N B h g = absurd h
div_at_most (fin s m e) nan n l j k L N B h g = absurd g
div_at_most (fin s m e) (inf t) n l j k L N B h g = absurd g
div_at_most (fin s m e) (fin t q d) n l j k L N B h g =
    let p : 0 < q * up d = first_pos (q * up d) (2 ^ k) (lt_of_lt_of_le (mul-pos L (down_pos d)) g) in
    let z : eqb q 0 ≡ false = ne_eqb q 0 (λ e. none q (up d) e p) in
    subst (λ (b : Bool). AtMost n (j + k) (cond b (cond (eqb m 0) nan (inf (unlike s t))) (round binary32 (unlike s t) (m * up e * down d) (q * up d * down e)))) (sym z)
    (round_at_most (unlike s t) (m * up e * down d) (q * up d * down e) n (j + k) (mul-pos p (down_pos e)) N B
    (le_of_mul-le-mul_right
    (le_trans (le_of_eq (mul_right_comm (m * up e) (down d) l))
    (le_trans (mul-le-mul_right (down d) (mul-le-mul_right l h))
    (le_trans (le_of_eq (grouped (n * l) (2 ^ j) (down e) l (down d)))
    (le_trans (mul-le-mul (le_refl (n * l * 2 ^ j * down e)) g) (le_of_eq (spread n l (2 ^ j) (down e) (q * up d) (2 ^ k) ∙ ap (λ (z : ℕ). n * z * (q * up d * down e) * l) (sym (pow-add 2 j k))))))))
    L))
  where
    none : (q u : ℕ) → q ≡ 0 → 0 < q * u → ⊥
    none q u e h = lt_irrefl 0 (subst (λ (z : ℕ). 0 < z) (ap (λ (z : ℕ). z * u) e ∙ zero-mul u) h)

    grouped : (a b c l d : ℕ) → a * b * c * l * d ≡ a * b * c * (l * d)
    grouped a b c l d = mul_assoc (a * b * c) l d

    spread : (n l a e q b : ℕ) → n * l * a * e * (q * b) ≡ n * (a * b) * (q * e) * l
    spread n l a e q b = simp (mul_assoc, mul_comm, mul_left_comm)

-- ---- choices

pub at_most_finite : (x : Float) (n k : ℕ) → AtMost n k x → finite x ≡ true
unfolding AtMost
at_most_finite nan n k h = absurd h
at_most_finite (inf s) n k h = absurd h
at_most_finite (fin s m e) n k h = refl

either_at_most : (b : Bool) (x y : Float) (n k : ℕ) → AtMost n k x → AtMost n k y → AtMost n k (cond b x y)
either_at_most true x y n k h g = h
either_at_most false x y n k h g = g

pub larger_at_most : (x y : Float) (n k : ℕ) → AtMost n k x → AtMost n k y → AtMost n k (larger_of x y)
larger_at_most x y n k h g =
    subst (λ (v : Float). AtMost n k v) (sym (larger_number x y (finite_number x (at_most_finite x n k h)) (finite_number y (at_most_finite y n k g)))) (either_at_most (lt y x) x y n k h g)

pub smaller_at_most : (x y : Float) (n k : ℕ) → AtMost n k x → AtMost n k y → AtMost n k (smaller_of x y)
smaller_at_most x y n k h g =
    subst (λ (v : Float). AtMost n k v) (sym (smaller_number x y (finite_number x (at_most_finite x n k h)) (finite_number y (at_most_finite y n k g)))) (either_at_most (lt x y) x y n k h g)

pub magnitude_at_most : (x : Float) (n k : ℕ) → AtMost n k x → AtMost n k (magnitude_of x)
unfolding AtMost magnitude_of
magnitude_at_most nan n k h = h
magnitude_at_most (inf s) n k h = h
magnitude_at_most (fin s m e) n k h = h

-- 0, 1/2 and 1
pub zero_at_most : (n k : ℕ) → AtMost n k zero32
unfolding AtMost of_bits
zero_at_most n k = zero-le

pub half_at_most : AtMost 1 0 half32
unfolding AtMost of_bits
half_at_most = lit≤ tt

pub one_at_most : AtMost 1 0 one32
unfolding AtMost of_bits
one_at_most = lit≤ tt

pub one_value : HasValue one32 false (1 * 2 ^ 0) 1
unfolding of_bits
one_value = (refl, refl)

zero_is : is_nan zero32 ≡ false
unfolding is_nan of_bits
zero_is = refl

one_is : is_nan one32 ≡ false
unfolding is_nan of_bits
one_is = refl

minus_one_below : lt (neg one32) zero32 ≡ true
unfolding lt neg of_bits
minus_one_below = refl

minus_one_is : is_nan (neg one32) ≡ false
unfolding is_nan neg of_bits
minus_one_is = refl

-- what is not below 0, lowered to 1
lowered : (y : Float) → is_nan y ≡ false → lt y zero32 ≡ false → Within 0 (smaller_of y one32)
lowered y o h = subst (λ (v : Float). Within 0 v) (sym (smaller_number y one32 o one_is)) (go (lt y one32) refl)
  where
    over : (b : Bool) → lt y (neg one32) ≡ b → lt y (neg one32) ≡ false
    over true e = absurd (false≢true (sym h ∙ lt_transitive y (neg one32) zero32 e minus_one_below))
    over false e = e

    go : (b : Bool) → lt y one32 ≡ b → Within 0 (cond b y one32)
    go true e = at_most_of_test y one32 1 0 one_value (not_lt_le (neg one32) y minus_one_is o (over (lt y (neg one32)) refl)) (lt_le y one32 e)
    go false e = unfold AtMost of_bits in le_refl 1

-- whatever is not NaN is clamped to 0..1, an infinity too
pub clamp_at_most : (x : Float) → is_nan x ≡ false → Within 0 (clamp_of x)
unfolding clamp_of
clamp_at_most x o = subst (λ (v : Float). Within 0 (smaller_of v one32)) (sym (larger_number x zero32 o zero_is)) (go (lt zero32 x) refl)
  where
    go : (b : Bool) → lt zero32 x ≡ b → Within 0 (smaller_of (cond b x zero32) one32)
    go true e = lowered x o (lt_asymmetric zero32 x e)
    go false e = lowered zero32 zero_is (lt_irreflexive zero32)

-- ---- integers
value_at_most : (x : Float) (n : ℕ) → HasValue x false n 1 → AtMost n 0 x
unfolding AtMost
value_at_most nan n v = v
value_at_most (inf s) n v = v
value_at_most (fin s m e) n v = le_of_eq (sym (mul-one (m * up e)) ∙ v.1 ∙ ap (λ (z : ℕ). z * down e) (sym (mul-one n)))

value_at_least : (x : Float) (n : ℕ) → HasValue x false n 1 → AtLeast n 0 x
unfolding AtLeast
value_at_least nan n v = v
value_at_least (inf s) n v = v
value_at_least (fin s m e) n v = le_of_eq (sym v.1)

pub int_at_most : (n : ℕ) → n ≤ 16777216 → AtMost n 0 (of_int binary32 (pos n))
unfolding of_int
int_at_most n h = value_at_most (round binary32 false n 1) n (round_whole binary32 false n h)

pub int_at_least : (n : ℕ) → n ≤ 16777216 → AtLeast n 0 (of_int binary32 (pos n))
unfolding of_int
int_at_least n h = value_at_least (round binary32 false n 1) n (round_whole binary32 false n h)

-- ---- the customer's limits as powers of two
pub point_value : HasValue point_limit false (1 * 2 ^ 12) 1
unfolding of_bits
point_value = (refl, refl)

pub colour_value : HasValue colour_limit false (1 * 2 ^ 16) 1
unfolding of_bits
colour_value = (refl, refl)

pub direction_value : HasValue direction_limit false (1 * 2 ^ 1) 1
unfolding of_bits
direction_value = (refl, refl)

pub light_value : HasValue light_limit false (1 * 2 ^ 64) 1
unfolding of_bits
light_value = (refl, refl)

pub coefficient_value : HasValue coefficient_limit false (1 * 2 ^ 96) 1
unfolding of_bits
coefficient_value = (refl, refl)

pub edge_value : HasValue edge_limit false 1 (2 ^ 10)
unfolding of_bits
edge_value = (refl, refl)
