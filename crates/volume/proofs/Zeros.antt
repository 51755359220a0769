-- A count of zeros: what is counted before i and what is left from i on make the whole.
use Prim.Native.Nat.{ℕ, ◌+◌, ◌-◌, ◌<◌, ◌≤◌}
use mathlib.Core.Path.{◌≡◌, refl, sym, ◌∙◌}
use mathlib.Core.Bool.{Bool, true, false, cond}
use native.Mathlib.Omega.{arith}
use native.Mathlib.Nat.{add-zero, add_assoc}
use lib.Ieee.{Float}
use Rattle.std.specs.Int.{from_bool}
use Rattle.lists.specs.Fold.{ahead, tab}
use Rattle.volume.specs.Volume.{is_zero, zero_count}

one_or_none : (b : Bool) → from_bool b ≡ cond {A = ℕ} b 1 0
one_or_none true = refl
one_or_none false = refl

module _ (f : ℕ → Float) (n i count : ℕ) where
  pub one_more : (x : Float) → i < n → x ≡ f i → count + zero_count (tab f (n - i) i) ≡ zero_count (tab f n 0)
      → count + from_bool (is_zero x) + zero_count (tab f (n - (i + 1)) (i + 1)) ≡ zero_count (tab f n 0)
  unfolding zero_count tab
  one_more x h e w = let v = rw (ahead i n h) at w in rw (e, one_or_none (is_zero (f i)), add_assoc) v

  pub at_end : n ≤ i → count + zero_count (tab f (n - i) i) ≡ zero_count (tab f n 0) → count ≡ zero_count (tab f n 0)
  unfolding zero_count tab
  at_end h w = let z : n - i ≡ 0 = omega arith in sym (add-zero count) ∙ (rw z at w)

-- a count of one is at most one
pub at_most : (b : Bool) → from_bool b ≤ 1
at_most true = omega arith
at_most false = omega arith
