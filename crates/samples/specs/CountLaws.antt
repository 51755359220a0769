-- How many samples a triangle has, in document 01's words: "area/(smallest edge squared)·2, ceiling, clamped to 1..4096". Where the ceiling lies within
-- 1..4096 the count is the ceiling itself, below it is 1 and above it is 4,096; neither a floor nor one more than the ceiling would do. Assumes nothing.
use Rattle.std.specs.Prelude.{◌≡◌, ℕ, ◌+◌, ◌*◌, ◌^◌, ◌<◌, ◌≤◌, Bool, true, false, ℤ, pos, nat_lt, Float}
use Rattle.std.proofs.Math.Path.{refl}
use Rattle.std.proofs.Common.{sym, ◌∙◌, arith, lt_of_mul-lt-mul_right, le→leb, ltb-true, ltb-false, le-ltb}
use Rattle.std.proofs.lemmas.Bool.{false≢true}
use Rattle.std.specs.Float.Ieee as Ieee
use Rattle.std.specs.Float.{nan, inf, fin}
use Rattle.std.specs.Float.Ieee.{binary32, up, down, neg, round, to_unsigned, of_int, of_bits, in_float}
use Rattle.std.specs.Float.Ieee.Fits.{down_pos}
use Rattle.std.specs.Float.Ieee.Bits.{is_true}
use Rattle.std.specs.Float.Ieee.Exact.{HasValue}
use Rattle.std.specs.Float.Ieee.Back.{unsigned_back}
use Rattle.std.specs.Float.Ieee.Order.{round_mono}
use Rattle.names.specs.Bits.{zero32, one32}
use Rattle.names.specs.Numbers.{most_samples, most_target}
use Rattle.floats.specs.OrderLaws.{le_not_lt, lt_numbers, lt_le_transitive}
use Rattle.floats.specs.Whole.{step, toward, ceiling_of}
use Rattle.floats.specs.WholeLaws.{step_raised}
use Rattle.floats.specs.WholeLaws.Steps.{round_neg}
use Rattle.vectors.specs.declared.Triangle.{Triangle}
use Rattle.grid.specs.Grid.{float_of}
use Rattle.samples.specs.Samples.{density_of, count_of, sample_count}
use Rattle.samples.specs.WholeOrder.{float_value, not_infinite, below_whole, above_whole}

-- s is the ceiling of x, clamped to 1..4096. k + 1 is the ceiling of x where k < x ≤ k + 1; what is not above 1, NaN too, gives 1
pub record ClampedCeiling (x : Float) (s : ℕ) : Type 0 where
  pub within : (k : ℕ) → k < most_samples → Ieee.lt (float_of k) x ≡ true → Ieee.le x (float_of (k + 1)) ≡ true → s ≡ k + 1
  pub least : Ieee.lt one32 x ≡ false → s ≡ 1
  pub most : Ieee.lt most_target x ≡ true → s ≡ most_samples

-- ---- a whole number from 1 to 4,096 is its own count

one_value : HasValue one32 false 1 1
unfolding of_bits
one_value = (refl, refl)

most_value : HasValue most_target false most_samples 1
unfolding of_bits
most_value = (refl, refl)

not_above_one : (x : Float) → Ieee.lt one32 x ≡ false → count_of x ≡ 1
unfolding count_of
not_above_one x e = rw e refl

from_most : (x : Float) → Ieee.lt one32 x ≡ true → Ieee.lt x most_target ≡ false → count_of x ≡ most_samples
unfolding count_of
from_most x p q = rw (p, q) refl

between : (x : Float) → Ieee.lt one32 x ≡ true → Ieee.lt x most_target ≡ true → count_of x ≡ to_unsigned 64 x
unfolding count_of
between x p q = rw (p, q) refl

module _ (n : ℕ) where
  above_one : n ≤ 2 ^ 24 → Ieee.lt one32 (float_of n) ≡ nat_lt 1 (n * 1)
  unfolding of_bits
  above_one h = below_whole false 1 (pos 0) (float_of n) n (float_value n h)

  below_most : n ≤ 2 ^ 24 → Ieee.lt (float_of n) most_target ≡ nat_lt (n * 1) most_samples
  unfolding of_bits
  below_most h = above_whole false 1 (pos 12) (float_of n) n (float_value n h)

  whole_cast_back : n ≤ most_samples → to_unsigned 64 (float_of n) ≡ n
  unfolding in_float
  whole_cast_back h = (unsigned_back binary32 64 n (le→leb n (2 ^ 24) (omega arith)) (omega arith)).1

  count_whole : 1 ≤ n → n ≤ most_samples → count_of (float_of n) ≡ n
  count_whole h k = go (Ieee.lt one32 (float_of n)) refl (Ieee.lt (float_of n) most_target) refl
    where
      go : (a : Bool) → Ieee.lt one32 (float_of n) ≡ a → (b : Bool) → Ieee.lt (float_of n) most_target ≡ b → count_of (float_of n) ≡ n
      go false p b q =
          let z : n * 1 ≤ 1 = ltb-false _ _ (sym (above_one (omega arith)) ∙ p) in
          not_above_one (float_of n) p ∙ omega arith
      go true p false q =
          let z : most_samples ≤ n * 1 = ltb-false _ _ (sym (below_most (omega arith)) ∙ q) in
          from_most (float_of n) p q ∙ omega arith
      go true p true q = between (float_of n) p q ∙ whole_cast_back k

  -- and 4,096 that of every larger one, which an f32 may hold rounded
  most_is : round binary32 false most_samples 1 ≡ most_target
  unfolding round of_bits
  most_is = refl

  one_most : Ieee.lt one32 most_target ≡ true
  unfolding Ieee.lt of_bits
  one_most = refl

  count_large : most_samples ≤ n → count_of (float_of n) ≡ most_samples
  unfolding of_int
  count_large h =
      let l : Ieee.le most_target (float_of n) ≡ true = is_true _ (rw most_is at (round_mono binary32 most_samples 1 n 1 (omega arith) (omega arith) (omega arith))) in
      from_most (float_of n) (lt_le_transitive one32 most_target (float_of n) one_most l) (le_not_lt most_target (float_of n) l)

-- ---- a ceiling's count

zero_is : round binary32 false 0 1 ≡ zero32
unfolding round of_bits
zero_is = refl

-- the ceiling of a negative number is not above 1
turned : (z : Float) → Ieee.le zero32 z ≡ true → Ieee.lt one32 (neg z) ≡ false
unfolding neg Ieee.le Ieee.lt Ieee.eq of_bits
turned nan p = refl
turned (inf true) p = absurd (false≢true p)
turned (inf false) p = refl
turned (fin true m e) p =
    let z : m * up e * 1 + 0 * down e ≤ 0 = ltb-false _ _ (le_not_lt zero32 (fin true m e) p) in
    le-ltb (1 * down e) (m * up e * 1) (omega arith)
turned (fin false m e) p = refl

ceiling_below : (m : ℕ) (e : ℤ) → Ieee.lt one32 (ceiling_of (fin true m e)) ≡ false
unfolding toward
ceiling_below m e =
    let n = step false (m * up e) (down e) in
    rw (← round_neg n) (turned (round binary32 false n 1) (is_true _ (rw zero_is at (round_mono binary32 0 1 n 1 (omega arith) (omega arith) (omega arith)))))

-- of a positive one it is the least whole number that is not below it
ceiling_float : (m : ℕ) (e : ℤ) → ceiling_of (fin false m e) ≡ float_of (step true (m * up e) (down e))
unfolding toward of_int
ceiling_float m e = refl

module _ (m : ℕ) (e : ℤ) where
  abbrev raised : ℕ
  raised = step true (m * up e) (down e)

  raised_below : (k : ℕ) → m * up e ≤ k * down e → raised < k + 1
  raised_below k h = lt_of_mul-lt-mul_right (down e) (omega (arith, step_raised (m * up e) (down e) (down_pos e)))

  raised_above : (k : ℕ) → k * down e < m * up e → k < raised
  raised_above k h = lt_of_mul-lt-mul_right (down e) (omega (arith, step_raised (m * up e) (down e) (down_pos e)))

  positive_ceiling : ClampedCeiling (fin false m e) (count_of (float_of raised))
  positive_ceiling =
      record {
        within =
            λ k h p q.
            let a : k * down e < m * up e = ltb-true _ _ (sym (above_whole false m e (float_of k) k (float_value k (omega arith))) ∙ p) in
            let b : m * up e ≤ (k + 1) * down e =
            ltb-false _ _ (sym (above_whole false m e (float_of (k + 1)) (k + 1) (float_value (k + 1) (omega arith))) ∙ le_not_lt (fin false m e) (float_of (k + 1)) q)
            in
            let n : raised ≡ k + 1 = omega (arith, raised_above k a, raised_below (k + 1) b) in
            rw n (count_whole (k + 1) (omega arith) (omega arith));
        least =
            λ p.
            let a : m * up e ≤ 1 * down e = ltb-false _ _ (sym (above_whole false m e one32 1 one_value) ∙ p) in
            let n : raised < 2 = raised_below 1 a in
            not_above_one (float_of raised) (above_one raised (omega arith) ∙ le-ltb 1 (raised * 1) (omega arith));
        most =
            λ p.
            let a : most_samples * down e < m * up e = ltb-true _ _ (sym (above_whole false m e most_target most_samples most_value) ∙ p) in
            count_large raised (omega (arith, raised_above most_samples a));
      }

pub count_ceiling : (x : Float) → ClampedCeiling x (count_of (ceiling_of x))
unfolding toward Ieee.lt of_bits Ieee.is_nan
count_ceiling nan =
    record {
      within = λ k h p q. absurd (false≢true (sym (lt_numbers (float_of k) nan p).1));
      least = λ p. not_above_one nan p;
      most = λ p. absurd (false≢true p);
    }
count_ceiling (inf true) =
    record {
      within = λ k h p q. absurd (false≢true (sym (not_infinite (float_of k) k (float_value k (omega arith))).1 ∙ p));
      least = λ p. not_above_one (inf true) p;
      most = λ p. absurd (false≢true p);
    }
count_ceiling (inf false) =
    record {
      within =
          λ k h p q.
          absurd (false≢true (sym (le_not_lt (inf false) (float_of (k + 1)) q) ∙ (not_infinite (float_of (k + 1)) (k + 1) (float_value (k + 1) (omega arith))).2));
      least = λ p. absurd (false≢true (sym p));
      most = λ p. from_most (inf false) refl refl;
    }
count_ceiling (fin true m e) =
    record {
      within = λ k h p q. absurd (false≢true (sym (above_whole true m e (float_of k) k (float_value k (omega arith))) ∙ p));
      least = λ p. not_above_one (ceiling_of (fin true m e)) (ceiling_below m e);
      most = λ p. absurd (false≢true p);
    }
count_ceiling (fin false m e) = rw (ceiling_float m e) (positive_ceiling m e)

-- ---- so the number of samples is the ceiling of area/(smallest edge squared)·2, clamped to 1..4096

pub sample_count_ceiling : (t : Triangle) (e : Float) → ClampedCeiling (density_of t e) (sample_count t e)
sample_count_ceiling t e = count_ceiling (density_of t e)
