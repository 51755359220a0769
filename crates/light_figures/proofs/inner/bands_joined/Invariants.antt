use mathlib.Core.Path.{◌≡◌}
use mathlib.Core.List.{◌++◌}
use Prim.Native.Nat.{◌+◌, ◌-◌, ◌≤◌}
use lib.ListN.{length, get_or, take}
use Rattle.lists.specs.Fold.{tab}
use Rattle.light_figures.proofs.inner.bands_joined.Given as goal

abbrev pub invariant-loop-i : goal.invariant-loop-i
invariant-loop-i l =
    (take l.i l.sums ++ tab (λ k. get_or l.a k 0 + get_or l.b k 0) (16 - l.i) l.i ≡ tab (λ k. get_or l.a k 0 + get_or l.b k 0) 16 0) × (l.i ≤ 16) × (length l.sums ≡ 16)

abbrev pub decreases-loop-i : goal.decreases-loop-i
decreases-loop-i l = 16 - l.i
