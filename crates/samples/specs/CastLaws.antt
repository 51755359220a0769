-- What a test of a float gives for its cast to a whole number: that the cast is defined, and in which bounds its result lies.
use Rattle.std.specs.Prelude.{◌≡◌, ℕ, ◌+◌, ◌*◌, ◌/◌, ◌^◌, ◌<◌, ◌≤◌, Bool, true, false, T, ℤ, pos, ◌==◌, Float}
use Rattle.std.proofs.lemmas.Bool.{false≢true}
use Rattle.std.proofs.Math.Bool.{and-eq-true_iff}
use Rattle.std.proofs.Common.{arith, le-div_iff_mul-le, div-lt_iff_lt-mul, mul-le-mul_right, ltb-true, ltb-false, lt-ltb, eqb-true}
use Rattle.std.specs.Float.{nan, inf, fin}
use Rattle.std.specs.Float.Ieee.{up, down, lt, le, eq, to_unsigned}
use Rattle.std.specs.Float.Ieee.Positive.{den_pos}

-- 2 ^ k, and −1 and 0, as floats
abbrev pub power : ℕ → Float
power k = fin false 1 (pos k)

abbrev pub minus_one : Float
minus_one = fin true 1 (pos 0)

abbrev pub nought : Float
nought = fin false 0 (pos 0)

holds : (b : Bool) → b ≡ true → T b
holds true e = tt
holds false e = absurd (false≢true e)

down_pos : (s : Bool) (m : ℕ) (e : ℤ) → 0 < down e
down_pos s m e = den_pos (fin s m e)

-- below a power: below a larger one
pub below_power : (j k : ℕ) → 2 ^ j ≤ 2 ^ k → (x : Float) → lt x (power j) ≡ true → T (lt x (power k))
unfolding lt
below_power j k h nan e = absurd (false≢true e)
below_power j k h (inf true) e = tt
below_power j k h (inf false) e = absurd (false≢true e)
below_power j k h (fin true m d) e =
    let p : 0 < m * up d * 1 + 1 * 2 ^ j * down d = ltb-true _ _ e in
    holds _ (lt-ltb 0 (m * up d * 1 + 1 * 2 ^ k * down d) (omega (arith, mul-le-mul_right (down d) h)))
below_power j k h (fin false m d) e =
    let p : m * up d * 1 < 1 * 2 ^ j * down d = ltb-true _ _ e in
    holds _ (lt-ltb (m * up d * 1) (1 * 2 ^ k * down d) (omega (arith, mul-le-mul_right (down d) h)))

-- not below 0: above −1
pub above_minus_one : (x : Float) → le nought x ≡ true → T (lt minus_one x)
unfolding le lt eq
above_minus_one nan e = absurd (false≢true e)
above_minus_one (inf true) e = absurd (false≢true e)
above_minus_one (inf false) e = tt
above_minus_one (fin true m d) e =
    let z : 0 * 1 * down d ≡ m * up d * 1 = eqb-true _ _ ((and-eq-true_iff (0 * 1 * down d == m * up d * 1) _).0 e).0 in
    holds _ (lt-ltb (m * up d * 1) (1 * 1 * down d) (omega (arith, down_pos true m d)))
above_minus_one (fin false m d) e = holds _ (lt-ltb 0 (1 * 1 * down d + m * up d * 1) (omega (arith, down_pos false m d)))

-- above 1: above −1 too
pub one_above : (x : Float) → lt (power 0) x ≡ true → T (lt minus_one x)
unfolding lt
one_above nan e = absurd (false≢true e)
one_above (inf true) e = absurd (false≢true e)
one_above (inf false) e = tt
one_above (fin true m d) e = absurd (false≢true e)
one_above (fin false m d) e = holds _ (lt-ltb 0 (1 * 1 * down d + m * up d * 1) (omega (arith, down_pos false m d)))

-- neither below 0 nor below 2 ^ 32: the cast is at least 2 ^ 32
pub far_cast : (x : Float) → le nought x ≡ true → lt x (power 32) ≡ false → 4294967296 ≤ to_unsigned 64 x
unfolding le lt eq to_unsigned
far_cast nan p e = absurd (false≢true p)
far_cast (inf true) p e = absurd (false≢true p)
far_cast (inf false) p e = omega arith
far_cast (fin true m d) p e =
    let z : m * up d * 1 + 1 * 2 ^ 32 * down d ≤ 0 = ltb-false _ _ e in
    absurd (omega (arith, down_pos true m d))
far_cast (fin false m d) p e =
    let z : 1 * 2 ^ 32 * down d ≤ m * up d * 1 = ltb-false _ _ e in
    let q : 4294967296 ≤ m * up d / down d = (le-div_iff_mul-le (down_pos false m d)).1 (omega arith) in
    omega arith

-- between 1 and 4,096: so is the cast
pub cast_least : (x : Float) → lt (power 0) x ≡ true → 1 ≤ to_unsigned 64 x
unfolding lt to_unsigned
cast_least nan e = absurd (false≢true e)
cast_least (inf true) e = absurd (false≢true e)
cast_least (inf false) e = omega arith
cast_least (fin true m d) e = absurd (false≢true e)
cast_least (fin false m d) e =
    let z : 1 * 1 * down d < m * up d * 1 = ltb-true _ _ e in
    let q : 1 ≤ m * up d / down d = (le-div_iff_mul-le (down_pos false m d)).1 (omega arith) in
    omega arith

pub cast_most : (x : Float) → lt x (power 12) ≡ true → to_unsigned 64 x ≤ 4096
unfolding lt to_unsigned
cast_most nan e = omega arith
cast_most (inf true) e = omega arith
cast_most (inf false) e = absurd (false≢true e)
cast_most (fin true m d) e = omega arith
cast_most (fin false m d) e =
    let z : m * up d * 1 < 1 * 2 ^ 12 * down d = ltb-true _ _ e in
    let q : m * up d / down d < 4096 = (div-lt_iff_lt-mul (down_pos false m d)).1 (omega arith) in
    omega arith
