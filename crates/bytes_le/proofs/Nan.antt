-- The NaN and its patterns: x != x finds it, and a pattern that is above the infinity's once the sign is off is one of its.
use Prim.Native.Nat.{ℕ, ◌*◌, ◌%◌, ◌<◌, ◌≤◌}
use mathlib.Core.Path.{◌≡◌, refl, sym, subst, ◌∙◌}
use mathlib.Core.Bool.{Bool, true, false, not, beq}
use lib.Dec.{T}
use lib.Ieee.{Float, nan, inf, fin, binary32, of_bits, to_bits, nan_bits, is_nan, eq, ne, div, level, up, down}
use lib.Ieee.Bits.{nan_bits_is, nan_bits_above}
use borrow.Author.Tests.{eq-eqb, lt-ltb, le-ltb}
use Rattle.names.specs.Bits.{lit}

same_sign : (s : Bool) → beq s s ≡ true
same_sign true = refl
same_sign false = refl

level_self : (s : Bool) (a : ℕ) → level s a s a ≡ true
level_self s a = simp (eq-eqb a a refl, same_sign s)

-- ---- to bits

pub no_nan : (x : Float) → ne x x ≡ false → T (not (is_nan x))
unfolding ne eq is_nan
no_nan nan h = subst T h tt
no_nan (inf s) h = tt
no_nan (fin s m e) h = tt

pub fixed : (x : Float) → ne x x ≡ true → 2143289344 ≡ to_bits binary32 x
unfolding ne eq to_bits
fixed nan h = refl
fixed (inf s) h = absurd (subst T (simp (same_sign s) at (sym h)) tt)
fixed (fin s m e) h = absurd (subst T (simp (level_self s (m * up e * down e)) at (sym h)) tt)

-- ---- of bits

nan_is : (x : Float) → is_nan x ≡ true → x ≡ nan
unfolding is_nan
nan_is nan h = refl
nan_is (inf s) h = absurd (subst T (sym h) tt)
nan_is (fin s m e) h = absurd (subst T (sym h) tt)

pub of_nan : (bits : ℕ) → 2139095040 < bits % 2147483648 → div binary32 (lit 0) (lit 0) ≡ lit bits
unfolding div of_bits
of_nan bits h = sym (nan_is (lit bits) (sym (nan_bits_is binary32 bits) ∙ nan_bits_above binary32 bits ∙ lt-ltb _ _ h))

pub of_number : (bits : ℕ) → bits % 2147483648 ≤ 2139095040 → T (not (nan_bits binary32 bits))
of_number bits h = subst (λ (b : Bool). T (not b)) (sym (nan_bits_above binary32 bits ∙ le-ltb _ _ h)) tt
