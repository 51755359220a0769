-- A scan of numbers for one that lies outside ±b: what was found, or what is left at i.
use Prim.Native.Nat.{ℕ, ◌+◌, ◌-◌, ◌<◌, ◌≤◌}
use mathlib.Core.Path.{◌≡◌, refl}
use mathlib.Core.Bool.{Bool, true, false, ◌||◌}
use native.Mathlib.Omega.{arith}
use lib.Ieee.{Float}
use Rattle.lists.specs.Fold.{ahead, tab}
use Rattle.lists.specs.Some.{some}
use Rattle.limits.specs.Limits.{outside}

regroup : (a b c : Bool) → a || (b || c) ≡ (a || b) || c
regroup true b c = refl
regroup false b c = refl

module _ (f : ℕ → Float) (b : Float) (n i : ℕ) (any : Bool) where
  pub more : (x : Float) (r : Bool) → i < n → x ≡ f i → r ≡ outside b x
      → any || some (outside b) (tab f (n - i) i) ≡ (any || r) || some (outside b) (tab f (n - (i + 1)) (i + 1))
  unfolding some tab
  more x r h e p = rw (ahead i n h, p, e) (regroup any (outside b (f i)) (some (outside b) (tab f (n - (i + 1)) (i + 1))))

  pub all : n ≤ i → any || some (outside b) (tab f (n - i) i) ≡ any
  unfolding some tab
  all h = let z : n - i ≡ 0 = omega arith in rw z (none any)
    where
      none : (a : Bool) → a || false ≡ a
      none true = refl
      none false = refl
