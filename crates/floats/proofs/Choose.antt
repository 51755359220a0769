-- The pattern that `f32::NAN` is, and magnitude. Assumes nothing.
use mathlib.Core.Path.{◌≡◌, refl, sym, ap, ◌∙◌, subst}
use Prim.Native.Nat.{ℕ, zero, suc, ◌+◌, ◌/◌, ◌%◌, ◌^◌, ◌≤◌}
use mathlib.Core.Bool.{Bool, true, false, not, cond}
use native.Mathlib.Nat.{mod-lt, mod-mod}
use lib.Dec.{T, leb, eqb, lit<}
use lib.Arith.{lt→nleb, le→nltb}
use lib.Bits.{bit_and, and_mask}
use lib.Pow.{mod-mod-pow}
use lib.Ieee.{Float, nan, inf, fin, binary32, is_nan, of_bits, to_bits, fits, of_fields, odd, nan_bits}
use lib.Ieee.Bits.{of_bits-to_bits, is_false, nan_bits_is, nan_bits_above}
use Rattle.floats.specs.Choice.{magnitude_of}
use Rattle.floats.specs.PatternLaws.{nan_of}

pub no_number : nan ≡ of_bits binary32 0x7fc00000
unfolding of_bits of_fields
no_number = refl

-- ---- the sign's bit cleared
odd_magnitude : (d : ℕ) (s : Bool) (q k l : ℕ) → magnitude_of (odd d s q k l) ≡ odd d false q k l
unfolding magnitude_of odd
odd_magnitude d s zero k l = refl
odd_magnitude d s (suc q) k l = refl

magnitude_fields : (s : Bool) (x t : ℕ) → magnitude_of (of_fields binary32 s x t) ≡ of_fields binary32 false x t
unfolding magnitude_of of_fields
magnitude_fields s zero t = odd_magnitude 24 s t 0 149
magnitude_fields s (suc x) t = go (eqb (suc x) 255) (eqb t 0)
  where
    go : (p q : Bool) → magnitude_of (cond p (cond q (inf s) nan) (odd 24 s (8388608 + t) x 149)) ≡ cond p (cond q (inf false) nan) (odd 24 false (8388608 + t) x 149)
    go true true = refl
    go true false = refl
    go false q = odd_magnitude 24 s (8388608 + t) x 149

pub magnitude_bits : (b : ℕ) → of_bits binary32 (b % 2 ^ 31) ≡ magnitude_of (of_bits binary32 b)
unfolding of_bits
magnitude_bits b =
    let B = b % 2 ^ 31 in
    ap (λ (t : Bool). of_fields binary32 t (B % 2 ^ 31 / 2 ^ 23) (B % 2 ^ 23)) (is_false (leb (2 ^ 31) B) (lt→nleb (2 ^ 31) B (mod-lt b (lit< tt))))
    ∙ ap (λ (z : ℕ). of_fields binary32 false (z / 2 ^ 23) (B % 2 ^ 23)) (mod-mod b (2 ^ 31))
    ∙ ap (λ (z : ℕ). of_fields binary32 false (B / 2 ^ 23) z) (mod-mod-pow b 8 23)
    ∙ sym (magnitude_fields (leb (2 ^ 31) b) (B / 2 ^ 23) (b % 2 ^ 23))

pub magnitude_of_lem : (x : Float) → T (fits binary32 x) → of_bits binary32 (bit_and (to_bits binary32 x) 2147483647) ≡ magnitude_of x
magnitude_of_lem x h = ap (of_bits binary32) (and_mask (to_bits binary32 x) 31) ∙ magnitude_bits (to_bits binary32 x) ∙ ap magnitude_of (of_bits-to_bits binary32 x h)

pub magnitude_nan : (x : Float) → is_nan x ≡ false → is_nan (magnitude_of x) ≡ false
unfolding magnitude_of is_nan
magnitude_nan nan h = h
magnitude_nan (inf s) h = refl
magnitude_nan (fin s m e) h = refl

pub magnitude_pattern : (x : Float) → T (fits binary32 x) → is_nan x ≡ false → T (not (nan_bits binary32 (bit_and (to_bits binary32 x) 2147483647)))
magnitude_pattern x h k =
    subst (λ (b : Bool). T (not b)) (sym (nan_bits_is binary32 (bit_and (to_bits binary32 x) 2147483647) ∙ ap is_nan (magnitude_of_lem x h) ∙ magnitude_nan x k)) tt

pub nan_magnitude : (x : Float) → is_nan x ≡ true → nan ≡ magnitude_of x
unfolding magnitude_of
nan_magnitude x h = sym (ap magnitude_of (nan_of x h))

-- ---- a pattern that is no NaN's
pub number_pattern : (b : ℕ) → b % 2 ^ 31 ≤ 2139095040 → T (not (nan_bits binary32 b))
number_pattern b h = subst (λ (z : Bool). T (not z)) (sym (nan_bits_above binary32 b)) (le→nltb 2139095040 (b % 2 ^ 31) h)
