use mathlib.Core.Path.{◌≡◌}
use mathlib.Core.List.{◌++◌}
use Prim.Native.Nat.{◌-◌}
use lib.ListN.{length, take, get_or}
use lib.Ieee.{binary32, nan, mul}
use Rattle.lists.specs.Fold.{tab}
use Rattle.means.specs.Sums.{each}
use Rattle.means.proofs.inner.squared.Given as goal

abbrev pub invariant-loop-k : goal.invariant-loop-k
invariant-loop-k l = record { full : length l.q ≡ 16; on : take l.k l.q ++ tab (λ j. mul binary32 (get_or l.m j nan) (get_or l.m j nan)) (length l.q - l.k) l.k ≡ each (λ j. mul binary32 (get_or l.m j nan) (get_or l.m j nan)) }
