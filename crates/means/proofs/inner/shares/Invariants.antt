use mathlib.Core.Path.{◌≡◌}
use mathlib.Core.List.{◌++◌}
use Prim.Native.Nat.{◌-◌}
use lib.ListN.{length, take, get_or}
use lib.Ieee.{binary32, nan, div}
use Rattle.lists.specs.Fold.{tab}
use Rattle.means.proofs.inner.shares.Given as goal

abbrev pub invariant-loop-k : goal.invariant-loop-k
invariant-loop-k g l = record { full : length l.m ≡ g.row.N; on : take l.k l.m ++ tab (λ j. div binary32 (get_or l.s j nan) l.n) (length l.m - l.k) l.k ≡ tab (λ j. div binary32 (get_or l.s j nan) l.n) g.row.N 0 }
