-- Every pattern of a NaN reads as the one NaN, and nothing else does: so each of the six functions on patterns answers 0x7fc00000 at each, in either
-- place. So does the root at every pattern of a negative but −0's. Assumes nothing.
use Rattle.std.specs.Prelude.{◌≡◌, refl, ℕ, zero, suc, ◌+◌, ◌*◌, ◌/◌, ◌%◌, ◌^◌, ◌<◌, Bool, true, false, cond, T, leb, eqb, ltb, Float}
use Rattle.std.proofs.Common.{sym, ap, ◌∙◌, subst, mul-pos, zero-mul, arith, ltb-true, le→leb, lt→ltb, pow_pos}
use Rattle.std.proofs.Math.Bool.{or-true}
use Rattle.std.specs.Float.{nan, inf, fin, binary32}
use Rattle.std.specs.Float.Ieee.{down, up, is_nan, lt, of_bits, to_bits, of_fields, odd}
use Rattle.std.specs.Float.Ieee.Fits.{down_pos}
use Rattle.std.specs.Float.Ieee.Bits.{is_true, nan_bits_is, nan_bits_above, of_bits-fits}
use Rattle.std.specs.Float.Ieee.Exact.{HasValue, odd_sign}
use Rattle.floats.specs.Choice.{magnitude_of, larger_of, smaller_of}
use Rattle.floats.specs.Whole.{toward, floor_of, ceiling_of}
use Rattle.floats.specs.Root.{RootOf, root_of}
use Rattle.floats.specs.RootLaws.{root_is_only}
use Rattle.floats.specs.Patterns.{on_bits, on_both, NanPattern}

-- ---- a NaN's patterns

pub nan_of : (x : Float) → is_nan x ≡ true → x ≡ nan
unfolding is_nan
nan_of nan h = refl
nan_of (inf s) h = absurd (subst T (sym h) tt)
nan_of (fin s m e) h = absurd (subst T (sym h) tt)

-- past the infinity's pattern, sign apart
pub nan_past : (b : ℕ) → 2139095040 < b % 2 ^ 31 → of_bits binary32 b ≡ nan
nan_past b h = nan_of (of_bits binary32 b) (sym (nan_bits_is binary32 b) ∙ nan_bits_above binary32 b ∙ is_true (ltb 2139095040 (b % 2 ^ 31)) (lt→ltb 2139095040 (b % 2 ^ 31) h))

pub nan_reads : (b : ℕ) → NanPattern b → of_bits binary32 b ≡ nan
nan_reads b p = nan_past b (omega arith)

pub nan_only : (b : ℕ) → of_bits binary32 b ≡ nan → NanPattern b
unfolding is_nan
nan_only b h =
    let l : 2139095040 < b % 2 ^ 31 = ltb-true 2139095040 (b % 2 ^ 31) (sym (nan_bits_above binary32 b) ∙ nan_bits_is binary32 b ∙ ap is_nan h) in
    record { exponent = omega arith; fraction = omega arith }

-- ---- what the six answer there

pub nan_written : to_bits binary32 nan ≡ 0x7fc00000
unfolding to_bits
nan_written = refl

-- NaN in the one place or in the other
choice_first : (y : Float) → (larger_of nan y ≡ nan) × (smaller_of nan y ≡ nan)
unfolding larger_of smaller_of is_nan
choice_first y = (refl, refl)

choice_second : (x : Float) → (larger_of x nan ≡ nan) × (smaller_of x nan ≡ nan)
unfolding larger_of smaller_of is_nan
choice_second x = (ap (λ (t : Bool). cond t nan (cond (lt nan x) x nan)) (or-true (is_nan x)), ap (λ (t : Bool). cond t nan (cond (lt x nan) x nan)) (or-true (is_nan x)))

single_nan : (root_of nan ≡ nan) × (floor_of nan ≡ nan) × (ceiling_of nan ≡ nan) × (magnitude_of nan ≡ nan)
unfolding root_of toward magnitude_of
single_nan = (refl, refl, refl, refl)

-- "Given NaN .. these six answer 0x7FC00000", whatever stands in the other place
pub record NanAnswers (b : ℕ) : Type 0 where
  pub root : on_bits root_of b ≡ 0x7fc00000
  pub floor : on_bits floor_of b ≡ 0x7fc00000
  pub ceiling : on_bits ceiling_of b ≡ 0x7fc00000
  pub magnitude : on_bits magnitude_of b ≡ 0x7fc00000
  pub larger : (c : ℕ) → (on_both larger_of b c ≡ 0x7fc00000) × (on_both larger_of c b ≡ 0x7fc00000)
  pub smaller : (c : ℕ) → (on_both smaller_of b c ≡ 0x7fc00000) × (on_both smaller_of c b ≡ 0x7fc00000)

pub nan_answers : (b : ℕ) → NanPattern b → NanAnswers b
nan_answers b p = record {
  root = at root_of single_nan.0;
  floor = at floor_of single_nan.1;
  ceiling = at ceiling_of single_nan.2;
  magnitude = at magnitude_of single_nan.3;
  larger = λ c. (at (λ (x : Float). larger_of x (of_bits binary32 c)) (choice_first (of_bits binary32 c)).0, at (λ (x : Float). larger_of (of_bits binary32 c) x) (choice_second (of_bits binary32 c)).0);
  smaller = λ c. (at (λ (x : Float). smaller_of x (of_bits binary32 c)) (choice_first (of_bits binary32 c)).1, at (λ (x : Float). smaller_of (of_bits binary32 c) x) (choice_second (of_bits binary32 c)).1);
}
  where
    at : (f : Float → Float) → f nan ≡ nan → on_bits f b ≡ 0x7fc00000
    at f h = ap (λ (x : Float). to_bits binary32 (f x)) (nan_reads b p) ∙ ap (to_bits binary32) h ∙ nan_written

-- ---- the root of a negative

below_zero_lem : (x : Float) (a : ℕ) → HasValue x true a (2 ^ 149) → 0 < a → RootOf x nan
unfolding RootOf
below_zero_lem nan a v p = absurd v
below_zero_lem (inf s) a v p = absurd v
below_zero_lem (fin false m e) a v p = absurd (subst T (sym v.0) tt)
below_zero_lem (fin true zero e) a v p = absurd (none (a * down e) (sym v.1 ∙ ap (λ (z : ℕ). z * 2 ^ 149) (zero-mul (up e)) ∙ zero-mul (2 ^ 149)) (mul-pos p (down_pos e)))
  where
    none : (z : ℕ) → z ≡ 0 → 0 < z → ⊥
    none z e p = omega arith
below_zero_lem (fin true (suc m) e) a v p = refl

negative_fields : (x t : ℕ) → 0 < x + t → RootOf (of_fields binary32 true x t) nan
unfolding RootOf of_fields
negative_fields zero t h = below_zero_lem (odd 24 true t 0 149) (t * 2 ^ 0) (odd_sign 24 true t 0 149) (mul-pos (pos_of t h) (pow_pos 0))
  where
    pos_of : (t : ℕ) → 0 < 0 + t → 0 < t
    pos_of t h = omega arith
negative_fields (suc x) t h = go (eqb (suc x) 255) (eqb t 0)
  where
    go : (p q : Bool) → RootOf (cond p (cond q (inf true) nan) (odd 24 true (8388608 + t) x 149)) nan
    go true true = refl
    go true false = refl
    go false q = below_zero_lem (odd 24 true (8388608 + t) x 149) ((8388608 + t) * 2 ^ x) (odd_sign 24 true (8388608 + t) x 149) (mul-pos (big t) (pow_pos x))
      where
        big : (t : ℕ) → 0 < 8388608 + t
        big t = omega arith

pub negative_root : (b : ℕ) → 0x80000000 < b → b < 0x100000000 → RootOf (of_bits binary32 b) nan
unfolding of_bits
negative_root b h k =
    subst (λ (s : Bool). RootOf (of_fields binary32 s (b % 2147483648 / 8388608) (b % 8388608)) nan) (sym (is_true (leb 2147483648 b) (le→leb 2147483648 b (omega arith))))
    (negative_fields (b % 2147483648 / 8388608) (b % 8388608) (omega arith))

-- "or the root a negative but −0": −0's own pattern is 0x80000000
pub negative_answers : (b : ℕ) → 0x80000000 < b → b < 0x100000000 → on_bits root_of b ≡ 0x7fc00000
negative_answers b h k = ap (to_bits binary32) (sym (root_is_only (of_bits binary32 b) nan (of_bits-fits binary32 b) (negative_root b h k))) ∙ nan_written
